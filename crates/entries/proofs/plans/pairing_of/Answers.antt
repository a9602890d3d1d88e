use Rattle.std.proofs.Common.{rules, ◌≡◌, refl, sym, subst, ap, ◌∙◌, Err, List, Option, None, ℕ}
use Rattle.duty.specs.Pairings.{pairing_fault}
use Rattle.duty.specs.Plans.{ActualTimes, plan}
use Rattle.duty.specs.Words.{checked}
use Rattle.roster.specs.declared.state.PairingEntry.{PairingEntry}
use Rattle.entries.specs.PlanRows.{HasNoPeriods, IsPairingOfRows}
use Rattle.entries.specs.declared.fault.TableName.TheVariants as table_name
use Rattle.entries.proofs.PlanLemmas.{passed_on, untold, told_plan, refused_plan}
use Rattle.entries.proofs.plans.pairing_of.Goals as goal

pub returns-in_err-found-clause-told : goal.returns-in_err-found-clause-told
returns-in_err-found-clause-told c =
    let periods = c.args.rows.now.periods in
    let rows = c.args.rows.now.segments in
    let id = c.args.id.now in
    let fault = c.in_err-found.field-0.0 in
    let is : c.from_residual.result ≡ Err fault = search rules in
    passed_on (IsPairingOfRows periods rows id) table_name.Segment (HasNoPeriods periods rows id) ((r : PairingEntry) → IsPairingOfRows periods rows id r → ⊥) c.from_residual.result fault is (untold periods rows id) c.in_err-found.ensures

pub returns-in-Ok-clause-told : goal.returns-in-Ok-clause-told
returns-in-Ok-clause-told c =
    let planned = c.in_ok-found.found.planned.items in
    let ok = ap (λ (x : List ℕ). checked (pairing_fault (plan x planned)) (plan x planned)) (sym c.in_ok-try_clone.ensures) ∙ sym c.new.ensures ∙ c.in-Ok.is in
    subst (λ (l : List (Option ActualTimes)). IsPairingOfRows c.args.rows.now.periods c.args.rows.now.segments c.args.id.now (record { plan = c.in-Ok.plan; actuals = l; captain = None; first_officer = None })) (sym c.new-in-Ok.ensures)
    (told_plan c.args.rows.now.periods c.args.rows.now.segments c.args.id.now planned c.in_ok-found.found.actuals.items c.requires.periods c.in_ok-found.ensures c.in-Ok.plan ok)

pub returns-in-Err-clause-told : goal.returns-in-Err-clause-told
returns-in-Err-clause-told c =
    let planned = c.in_ok-found.found.planned.items in
    let err = ap (λ (x : List ℕ). checked (pairing_fault (plan x planned)) (plan x planned)) (sym c.in_ok-try_clone.ensures) ∙ sym c.new.ensures ∙ c.in-Err.is in
    (refl, refused_plan c.args.rows.now.periods c.args.rows.now.segments c.args.id.now planned c.in_ok-found.found.actuals.items c.requires.periods c.in_ok-found.ensures c.in-Err.field-0 err)
