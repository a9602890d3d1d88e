use Rattle.std.proofs.Common.{◌≡◌, None, map, take}
use Rattle.roster.proofs.state.PairingEntry.with_free_seats.Given as goal

abbrev pub invariant-loop-period : goal.invariant-loop-period
invariant-loop-period l = l.actuals.items ≡ map (λ _. None) (take l._period-index l._period-items)
