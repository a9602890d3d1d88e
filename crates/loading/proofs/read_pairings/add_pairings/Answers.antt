use Rattle.std.proofs.Common.{rules, ◌≡◌, sym, subst, ◌∷◌, Result, Err, MatchResult}
use Rattle.roster.specs.declared.state.PairingEntry.{PairingEntry}
use Rattle.loading.specs.PlanTables.{HasUntold, PairingsRead}
use Rattle.entries.specs.PlanRows.{IsPairingOfRows}
use Rattle.entries.specs.Faults.{Blames}
use Rattle.entries.specs.declared.fault.LoadFault.{LoadFault}
use Rattle.entries.specs.declared.fault.TableName.TheVariants as table_name
use Rattle.loading.proofs.ReadPairings.{Adding, none_added, one_added, untold, all_added}
use Rattle.entries.proofs.PlanLemmas.{blamed}
use Rattle.loading.proofs.read_pairings.add_pairings.Goals as goal

pub loop-id-init : goal.loop-id-init
loop-id-init c =
    let rows = c.args.rows.now in
    subst (Adding c.args.ids.now rows.periods rows.segments c.args.roster.now c.args.roster.now) (sym c.into_iter-id-iterator.ensures.into_iter_gives)
    (none_added c.args.ids.now rows.periods rows.segments c.args.roster.now c.iter-id-items.result c.requires.none c.iter-id-items.ensures)

pub returns-in_err-pairing : goal.returns-in_err-pairing
returns-in_err-pairing c =
    let ids = c.args.ids.now in
    let periods = c.args.rows.now.periods in
    let segments = c.args.rows.now.segments in
    let id = c.in-Some.id.now in
    let fault = c.in_err-pairing.field-0.0 in
    let is : c.from_residual.result ≡ Err fault = search rules in
    let left : c.loop-id.id-iterator ≡ (id, c.in-Some.field-0-1.now) ∷ c.next.new.self = search rules in
    let none = untold ids periods segments c.args.roster.now c.loop-id.roster (id, c.in-Some.field-0-1.now) c.next.new.self (subst (Adding ids periods segments c.args.roster.now c.loop-id.roster) left c.loop-id.invariant) in
    subst (λ (r : Result (Unit {0}) LoadFault). MatchResult r (λ _. PairingsRead ids periods segments c.args.roster.now c.loop-id.roster) (Blames table_name.Segment (HasUntold ids periods segments))) (sym is)
    (blamed table_name.Segment ((r : PairingEntry) → IsPairingOfRows periods segments id r → ⊥) (HasUntold ids periods segments) none fault c.in_err-pairing.ensures.told)

pub loop-id-preserved : goal.loop-id-preserved
loop-id-preserved c =
    let ids = c.args.ids.now in
    let periods = c.args.rows.now.periods in
    let segments = c.args.rows.now.segments in
    let id = c.in-Some.id.now in
    let left : c.loop-id.id-iterator ≡ (id, c.in-Some.field-0-1.now) ∷ c.next.new.self = search rules in
    one_added ids periods segments c.args.roster.now c.loop-id.roster (id, c.in-Some.field-0-1.now) c.next.new.self (subst (Adding ids periods segments c.args.roster.now c.loop-id.roster) left c.loop-id.invariant)
    c.put.new.self c.in_ok-pairing.pairing c.in_ok-pairing.ensures.told c.in_ok-pairing.ensures.free c.in_ok-put.ensures.ok

pub returns : goal.returns
returns c = all_added c.args.ids.now c.args.rows.now.periods c.args.rows.now.segments c.args.roster.now c.loop-id.roster c.loop-id.id-iterator (search rules) c.loop-id.invariant
