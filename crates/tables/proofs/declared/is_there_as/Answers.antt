use Rattle.std.proofs.Common.{ap, ◌∙◌}
use Rattle.sqlite.specs.Held.{state}
use Rattle.sqlite_schema.specs.declared.schema.Schema.{Schema}
use Rattle.tables.proofs.Declaring.{none_there, some_there}
use Rattle.tables.proofs.declared.is_there_as.Goals as goal

pub returns-in-Some : goal.returns-in-Some
returns-in-Some g c = λ it is plain.
    let found = rw (c.as_slice.ensures, c.in-Some.is) at c.table_named.ensures in
    let tables = c.as_slice-in-Some.ensures ∙ ap (λ (s : Schema). s.tables) c.schema.ensures.value in
    let stands = rw tables at c.stands_as.ensures in
    some_there it (state g.S.Store c.args.conn.now).now.schema c.args.wanted.now is plain c.in-Some.found.now found c.stands_as.result stands.same stands.all

pub returns-in-None : goal.returns-in-None
returns-in-None g c = λ it is plain.
    let found = rw (c.as_slice.ensures, c.in-None.is) at c.table_named.ensures in
    none_there it (state g.S.Store c.args.conn.now).now.schema c.args.wanted.now is plain found
