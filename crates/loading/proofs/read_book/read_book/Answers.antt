use Rattle.std.proofs.Common.{rules, ◌≡◌, sym, subst, Result, Err}
use Rattle.sqlite.specs.Held.{state}
use Rattle.roster.specs.State.{State}
use Rattle.loading.specs.Loading.{Justifies}
use Rattle.loading.specs.Reading.{ReadsAs}
use Rattle.state_rows.specs.declared.edition.Edition.{Edition}
use Rattle.entries.specs.declared.fault.LoadFault.{LoadFault}
use Rattle.loading.proofs.ReadBook.{Now, not_read, is_read}
use Rattle.loading.proofs.read_book.read_book.Goals as goal

pub returns-in_err-records-clause-read : goal.returns-in_err-records-clause-read
returns-in_err-records-clause-read g c =
    let old = state g.S.Store c.args.conn.now in
    let new = state g.S.Store c.book_records.new.conn in
    let fault = c.in_err-records.field-0.0 in
    let is : c.from_residual.result ≡ Err fault = search rules in
    subst (λ (r : Result (State × Edition) LoadFault). ReadsAs (Now old.now) (λ f. Justifies f old.now) old new r) (sym is)
    (not_read old new (search rules) fault c.in_err-records.ensures.told c.in_err-records.ensures.caused c.book_records.ensures.left)

pub returns-clause-read : goal.returns-clause-read
returns-clause-read g c =
    is_read (state g.S.Store c.args.conn.now) (state g.S.Store c.book_records.new.conn) (search rules) c.in_ok-records.records.items c.deref.result.now c.begun_of.result c.deref.ensures.value
    c.in_ok-records.ensures.told c.book_records.ensures.left c.begun_of.ensures
