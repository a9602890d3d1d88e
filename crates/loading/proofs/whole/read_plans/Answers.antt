use Rattle.std.proofs.Common.{◌≡◌}
use Rattle.sqlite.specs.Effect.{Database}
use Rattle.sqlite.specs.Held.{state}
use Rattle.roster.specs.State.{State}
use Rattle.entries.specs.declared.fault.LoadFault.{LoadFault}
use Rattle.loading.specs.Loading.{Justifies}
use Rattle.loading.specs.Reading.{AgreesThrough, HaveNoHolders}
use Rattle.state_rows.specs.Rows.{crew, segment}
use Rattle.loading.proofs.Homes.{plans_without_later}
use Rattle.loading.proofs.ReadTables.{then_saw, told_as}
use Rattle.loading.proofs.whole.read_plans.Goals as goal

abbrev Members : State → Database → State → Type 0
Members s db r = AgreesThrough crew r db × (r ≡ record s { crew = r.crew })

abbrev Plans : State → Database → State → Type 0
Plans s db r = AgreesThrough segment r db × (r ≡ record s { pairings = r.pairings }) × HaveNoHolders r

abbrev Refuses : Database → LoadFault → Type 0
Refuses db fault = Justifies fault db

pub returns-clause-read : goal.returns-clause-read
returns-clause-read g c =
    let old = state g.S.Store c.args.conn.now in
    let one = state g.S.Store c.read_crew.new.conn in
    let new = state g.S.Store c.read_pairings.new.conn in
    let s = c.args.roster in
    let t = c.in_ok-roster.roster in
    told_as (Plans t old.now) (λ r. AgreesThrough segment r old.now) (Refuses old.now) (λ r x. x.0) old new c.read_pairings.result
    (then_saw (Members s old.now) (Refuses old.now) (Plans t) Refuses t old one new c.read_pairings.result c.in_ok-roster.ensures.read c.read_pairings.ensures.read)

pub returns-clause-first : goal.returns-clause-first
returns-clause-first g c =
    plans_without_later c.args.roster c.in_ok-roster.roster c.read_pairings.result c.requires.none c.in_ok-roster.ensures.rest c.in_ok-roster.ensures.home c.read_pairings.ensures.rest
