use Rattle.std.proofs.Common.{◌∙◌, ap, sym, map}
use Rattle.duty.specs.Pairings.{pairing_fault}
use Rattle.duty.specs.Plans.{Plan, as_planned}
use Rattle.duty.specs.declared.fdp.Fdp.{Fdp}
use Rattle.std.proofs.Common.{List}
use Rattle.duty.proofs.PlanLemmas.{planned_twice, no_fault}
use Rattle.duty.proofs.pairing.Pairing.new.Goals as goal

pub invariant_of-result : goal.invariant_of-result
invariant_of-result c =
    let whole = c.new.ensures ∙ c.as_planned-periods.ensures in
    let of : List Fdp → Plan = λ periods. record { id = c.args.id; periods = periods } in (
      ap (λ periods. pairing_fault (of periods)) (c.new.ensures ∙ sym c.deref.ensures.value)
          ∙ no_fault (pairing_fault (of c.deref.result.now)) tt tt (sym c.in_ok-check_pairing.ensures),
      ap (map as_planned) whole ∙ planned_twice c.args.periods.items ∙ sym whole,
    )
