use Rattle.std.proofs.Common.{◌≡◌, sym, subst, arith, [], ◌++◌, Ok}
use Rattle.sqlite.specs.Held.{state}
use Rattle.sqlite.specs.State.{State, HasCleanDisk}
use Rattle.state_rows.specs.Rows.{StateTable, base, book, table}
use Rattle.tables.specs.Calls.{HoldsTable}
use Rattle.tables.specs.Records.{base_row, book_row}
use Rattle.tables.specs.Rows.{Inserts, stored}
use Rattle.tables.specs.Schema.{IsTable, base_table, book_table, book_tables, first_tables, later_tables}
use Rattle.writing.specs.Calls.{Changed}
use Rattle.writing.specs.Making.{HasEmpty, MakesTables, made_first, made_second, made_third}
use Rattle.state_rows.proofs.EachTable.{of_all}
use Rattle.writing.proofs.Chaining.{one_call, still_inside, then_call}
use Rattle.writing.proofs.Growth.{as_told, made_next}
use Rattle.writing.proofs.making.make_tables.Goals as goal

-- four calls make the thirteen tables
all_made : {A B C D E : Type 0} (old one two three four : State) (a : A) (b : B) (c : C) (d : D) → Changed {E = E} (MakesTables made_first) old one (Ok a) → Changed {E = E} (MakesTables made_second) one two (Ok b) →
    Changed {E = E} (MakesTables made_third) two three (Ok c) → Changed {E = E} (MakesTables later_tables) three four (Ok d) → Changed {E = E} (MakesTables book_tables) old four (Ok d)
all_made old one two three four a b c d first second third later =
    let both = made_next made_first made_second old one two a b first second in
    let nine = made_next (made_first ++ made_second) made_third old two three b c both third in
    made_next first_tables later_tables old three four c d nine later

-- the tables are there
there : {A E : Type 0} (old made : State) (a : A) → (HasCleanDisk old → HasEmpty [] old.now) → Changed {E = E} (MakesTables book_tables) old made (Ok a) → (name : StateTable) → HoldsTable (table name) made
there old made a free changed name clean =
    let has = (changed.done clean).0.empty [] (free (let d : HasCleanDisk old = omega (arith, changed.left.clean) in d)) in
    (of_all (λ t. IsTable t made.now.schema × (stored t made.now ≡ [])) has.there name).0

pub insert_book-requires : goal.insert_book-requires
insert_book-requires g c =
    let G = g.S.Store in
    let old = state G c.args.conn.now in
    let four = state G c.make_later.new.conn in
    let all = all_made old (state G c.make_first.new.conn) (state G c.make_second.new.conn) (state G c.make_third.new.conn) four tt tt tt tt
    c.in_ok-make_first.ensures c.in_ok-make_second.ensures c.in_ok-make_third.ensures c.in_ok-make_later.ensures in
    there old four tt c.requires.free all book

pub insert_base-requires : goal.insert_base-requires
insert_base-requires g c =
    let G = g.S.Store in
    let old = state G c.args.conn.now in
    let four = state G c.make_later.new.conn in
    let all = all_made old (state G c.make_first.new.conn) (state G c.make_second.new.conn) (state G c.make_third.new.conn) four tt tt tt tt
    c.in_ok-make_first.ensures c.in_ok-make_second.ensures c.in_ok-make_third.ensures c.in_ok-make_later.ensures in
    let inserted = c.in_ok-insert_book.ensures in
    λ clean.
    let before : HasCleanDisk four = omega (arith, inserted.crash.clean) in
    subst (IsTable base_table) (sym (inserted.ran clean).0.schema) (there old four tt c.requires.free all base before)

pub returns : goal.returns
returns g c =
    let G = g.S.Store in
    let old = state G c.args.conn.now in
    let four = state G c.make_later.new.conn in
    let five = state G c.insert_book.new.conn in
    let new = state G c.insert_base.new.conn in
    let all = all_made old (state G c.make_first.new.conn) (state G c.make_second.new.conn) (state G c.make_third.new.conn) four tt tt tt tt
    c.in_ok-make_first.ensures c.in_ok-make_second.ensures c.in_ok-make_third.ensures c.in_ok-make_later.ensures in
    let book = one_call (Inserts book_table (book_row c.args.book.now)) four five (still_inside old four tt all) c.in_ok-insert_book.ensures.crash (Ok (tt {0})) c.in_ok-insert_book.ensures.ran in
    let base = one_call (Inserts base_table (base_row c.args.home.now)) five new (still_inside four five (tt {0}) book) c.in_ok-insert_base.ensures.crash (Ok (tt {0})) c.in_ok-insert_base.ensures.ran in
    as_told old new (then_call old four new (tt {0}) (Ok (tt {0})) all (then_call four five new (tt {0}) (Ok (tt {0})) book base))
