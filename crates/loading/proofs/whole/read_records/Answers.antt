use Rattle.std.proofs.Common.{rules, ◌≡◌, sym, subst, Result, Ok, Err}
use Rattle.std.specs.FinMap as fin
use Rattle.sqlite.specs.Effect.{Database}
use Rattle.sqlite.specs.Held.{state}
use Rattle.roster.specs.State.{State}
use Rattle.entries.specs.Right.{IsOfEdition}
use Rattle.loading.specs.Loading.{Justifies}
use Rattle.loading.specs.Reading.{AgreesThrough, ReadsAs}
use Rattle.state_rows.specs.Requests.{Requests, with_requests}
use Rattle.state_rows.specs.Rows.{exceedance, request}
use Rattle.entries.specs.declared.fault.LoadFault.{LoadFault}
use Rattle.loading.proofs.Homes.{exceedances_without_later}
use Rattle.loading.proofs.ReadTables.{refused_as, still_here, then_saw}
use Rattle.loading.proofs.whole.read_records.Goals as goal

abbrev Exceedances : State → Database → State → Type 0
Exceedances s db r = AgreesThrough exceedance r db × (r ≡ record s { exceedances = r.exceedances })

abbrev Kept : Requests → Database → State → Type 0
Kept kept db r = AgreesThrough request (with_requests kept r) db

abbrev Held : Requests → State → Database → Unit {0} → Type 0
Held kept r db it = AgreesThrough request (with_requests kept r) db

abbrev Refuses : Database → LoadFault → Type 0
Refuses db fault = Justifies fault db

pub check_requests-requires-clause-of : goal.check_requests-requires-clause-of
check_requests-requires-clause-of g c =
    still_here (IsOfEdition c.args.edition) _ _ c.in_ok-roster.roster (state g.S.Store c.args.conn.now) (state g.S.Store c.read_exceedances.new.conn) c.in_ok-roster.ensures.read c.requires.of

pub check_requests-requires-clause-first : goal.check_requests-requires-clause-first
check_requests-requires-clause-first g c = exceedances_without_later c.args.roster c.in_ok-roster.roster c.requires.first c.in_ok-roster.ensures.rest

pub returns-in_err-roster-clause-read : goal.returns-in_err-roster-clause-read
returns-in_err-roster-clause-read g c =
    let old = state g.S.Store c.args.conn.now in
    let new = state g.S.Store c.read_exceedances.new.conn in
    let fault = c.in_err-roster.field-0.0 in
    let is : c.from_residual.result ≡ Err fault = search rules in (
      fin.empty,
      subst (λ (r : Result State LoadFault). ReadsAs (Kept fin.empty old.now) (Refuses old.now) old new r) (sym is)
          (refused_as (Exceedances c.args.roster old.now) (Kept fin.empty old.now) (Refuses old.now) old new fault c.in_err-roster.ensures.read),
    )

pub returns-in_err-check_requests-clause-read : goal.returns-in_err-check_requests-clause-read
returns-in_err-check_requests-clause-read g c =
    let old = state g.S.Store c.args.conn.now in
    let one = state g.S.Store c.read_exceedances.new.conn in
    let new = state g.S.Store c.check_requests.new.conn in
    let r = c.in_ok-roster.roster in
    let fault = c.in_err-check_requests.field-0.0 in
    let is : c.from_residual-in_err-check_requests.result ≡ Err fault = search rules in
    let checked = c.in_err-check_requests.ensures in
    let both = then_saw (Exceedances c.args.roster old.now) (Refuses old.now) (Held checked.0 r) Refuses r old one new (Err fault) c.in_ok-roster.ensures.read checked.1 in (
      checked.0,
      subst (λ (r : Result State LoadFault). ReadsAs (Kept checked.0 old.now) (Refuses old.now) old new r) (sym is)
          (refused_as (Held checked.0 r old.now) (Kept checked.0 old.now) (Refuses old.now) old new fault both),
    )

pub returns-clause-read : goal.returns-clause-read
returns-clause-read g c =
    let old = state g.S.Store c.args.conn.now in
    let one = state g.S.Store c.read_exceedances.new.conn in
    let new = state g.S.Store c.check_requests.new.conn in
    let r = c.in_ok-roster.roster in
    let checked = c.in_ok-check_requests.ensures in
    let both = then_saw (Exceedances c.args.roster old.now) (Refuses old.now) (Held checked.0 r) Refuses r old one new (Ok tt) c.in_ok-roster.ensures.read checked.1 in
    (checked.0, record { told = both.told; caused = λ clean. tt; left = both.left })

pub returns-clause-first : goal.returns-clause-first
returns-clause-first g c = exceedances_without_later c.args.roster c.in_ok-roster.roster c.requires.first c.in_ok-roster.ensures.rest
