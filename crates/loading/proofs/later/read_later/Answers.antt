use Rattle.std.proofs.Common.{rules, ◌≡◌, sym, subst, Result, Ok, Err}
use Rattle.sqlite.specs.Held.{state}
use Rattle.sqlite.specs.State.{HasCleanDisk}
use Rattle.roster.specs.State.{State}
use Rattle.loading.specs.Loading.{Justifies}
use Rattle.loading.specs.Reading.{AgreesIn, ReadsAs}
use Rattle.entries.specs.declared.fault.LoadFault.{LoadFault}
use Rattle.loading.proofs.LaterTables.{names_told}
use Rattle.loading.proofs.ReadTables.{refused_as}
use Rattle.state_rows.specs.Requests.{with_requests}
use Rattle.state_rows.specs.Rows.{request, outside_segment}
use Rattle.state_rows.specs.declared.edition.Edition.{Edition}
use Rattle.state_rows.specs.declared.edition.Edition.TheVariants.{First}
use Rattle.loading.proofs.later.read_later.Goals as goal

pub returns-in_err-check_names-in-First : goal.returns-in_err-check_names-in-First
returns-in_err-check_names-in-First g c =
    let now = state g.S.Store c.args.conn.now in
    let kept = c.requires.above.0 in
    let s = with_requests kept c.args.roster in
    let fault = c.in_err-check_names-in-First.field-0.0 in
    let is : c.from_residual.result ≡ Err fault = search rules in
    let above = subst (λ (e : Edition). HasCleanDisk now → AgreesIn e request s now.now) c.in-First.is c.requires.above.1 in
    let all = names_told s now c.requires.opened above {A = Unit {0}} (Err fault) c.in_err-check_names-in-First.ensures in (
      kept,
      subst (λ (r : Result State LoadFault). ReadsAs (λ r. AgreesIn c.args.edition outside_segment (with_requests kept r) now.now) (λ f. Justifies f now.now) now now r) (sym is)
          (refused_as (λ (_ : Unit {0}). AgreesIn First outside_segment s now.now) (λ (r : State). AgreesIn c.args.edition outside_segment (with_requests kept r) now.now) (λ f. Justifies f now.now) now now fault all),
    )

pub returns-in_ok-check_names-in-First : goal.returns-in_ok-check_names-in-First
returns-in_ok-check_names-in-First g c =
    let now = state g.S.Store c.args.conn.now in
    let r = c.args.roster in
    let kept = c.requires.above.0 in
    let s = with_requests kept r in
    let above = subst (λ (e : Edition). HasCleanDisk now → AgreesIn e request s now.now) c.in-First.is c.requires.above.1 in
    let all = names_told s now c.requires.opened above {A = State} (Ok r) c.in_ok-check_names-in-First.ensures in (
      kept,
      subst (λ (e : Edition). ReadsAs (λ (t : State). AgreesIn e outside_segment (with_requests kept t) now.now) (λ fault. Justifies fault now.now) now now (Ok r)) (sym c.in-First.is)
          (record { told = all.told; caused = λ clean. tt; left = all.left }),
    )

pub read_later_tables-requires-clause-above : goal.read_later_tables-requires-clause-above
read_later_tables-requires-clause-above g c =
    let now = state g.S.Store c.args.conn.now in
    let kept = c.requires.above.0 in
    (kept, subst (λ (e : Edition). HasCleanDisk now → AgreesIn e request (with_requests kept c.args.roster) now.now) c.in-Second.is c.requires.above.1)

pub returns-in-Second : goal.returns-in-Second
returns-in-Second g c =
    let old = state g.S.Store c.args.conn.now in
    let new = state g.S.Store c.read_later_tables.new.conn in
    let read = c.read_later_tables.ensures in
    (read.0, subst (λ (e : Edition). ReadsAs (λ (r : State). AgreesIn e outside_segment (with_requests read.0 r) old.now) (λ f. Justifies f old.now) old new c.read_later_tables.result) (sym c.in-Second.is) read.1)
