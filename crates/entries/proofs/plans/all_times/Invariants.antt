use Rattle.std.specs.Prelude.{◌≡◌, map, take, Some}
use Rattle.entries.proofs.plans.all_times.Given as goal

abbrev pub invariant-loop-times : goal.invariant-loop-times
invariant-loop-times l = take l.times-index l.flown ≡ map Some l.all.items
