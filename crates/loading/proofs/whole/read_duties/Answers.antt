use Rattle.std.proofs.Common.{◌≡◌}
use Rattle.sqlite.specs.Effect.{Database}
use Rattle.sqlite.specs.Held.{state}
use Rattle.roster.specs.State.{State}
use Rattle.loading.specs.Loading.{Justifies}
use Rattle.loading.specs.Reading.{AgreesThrough}
use Rattle.state_rows.specs.Rows.{ground_duty, seat}
use Rattle.entries.specs.declared.fault.LoadFault.{LoadFault}
use Rattle.loading.proofs.Homes.{duties_without_later}
use Rattle.loading.proofs.ReadTables.{then_saw, told_as}
use Rattle.loading.proofs.whole.read_duties.Goals as goal

abbrev Seats : State → Database → State → Type 0
Seats s db r = AgreesThrough seat r db × (r ≡ record s { pairings = r.pairings })

abbrev Grounds : State → Database → State → Type 0
Grounds s db r = AgreesThrough ground_duty r db × (r ≡ record s { grounds = r.grounds })

abbrev Refuses : Database → LoadFault → Type 0
Refuses db fault = Justifies fault db

pub returns-clause-read : goal.returns-clause-read
returns-clause-read g c =
    let old = state g.S.Store c.args.conn.now in
    let one = state g.S.Store c.read_seats.new.conn in
    let new = state g.S.Store c.read_grounds.new.conn in
    let s = c.args.roster in
    let t = c.in_ok-roster.roster in
    told_as (Grounds t old.now) (λ r. AgreesThrough ground_duty r old.now) (Refuses old.now) (λ r x. x.0) old new c.read_grounds.result
    (then_saw (Seats s old.now) (Refuses old.now) (Grounds t) Refuses t old one new c.read_grounds.result c.in_ok-roster.ensures.read c.read_grounds.ensures.read)

pub returns-clause-first : goal.returns-clause-first
returns-clause-first g c =
    duties_without_later c.args.roster c.in_ok-roster.roster c.read_grounds.result c.requires.first c.in_ok-roster.ensures.rest c.read_grounds.ensures.rest
