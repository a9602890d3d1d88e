use Rattle.std.proofs.Common.{◌≡◌, ◌+◌, ◌++◌, ◌<◌, List, length, map, take, drop, arith, subst}
use Rattle.std.proofs.Math.ListN.{set}
use Rattle.std.proofs.lemmas.List.Edits.{map_over_more}
use Rattle.duty.specs.Plans.{as_planned}
use Rattle.duty.specs.declared.fdp.Fdp.{Fdp}
use Rattle.duty.proofs.pairing.as_planned.Goals as goal

pub loop-period-preserved : goal.loop-period-preserved
loop-period-preserved c =
    let planned : List Fdp = c.deref_mut-period-items.result.now in
    let i = c.loop-period.period-index in
    let within : i < length planned = omega arith in
    let P : Fdp → Type 0 = λ period.
    set c.loop-period.period-items i (as_planned period) ≡ map as_planned (take (i + 1) planned) ++ drop (i + 1) planned in
    subst P c.period-item.is
    (map_over_more as_planned planned c.loop-period.period-items i c.period-item.result within c.loop-period.invariant
    c.period-item.is)
