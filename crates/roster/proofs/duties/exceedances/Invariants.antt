use Rattle.std.proofs.Common.{◌≡◌, map, take}
use Rattle.roster.proofs.duties.exceedances.Given as goal

abbrev pub invariant-loop-section : goal.invariant-loop-section
invariant-loop-section l =
    l.list.items ≡ map (λ section. record { crew = l.who; section = section }) (take l.section-index l.sections)
