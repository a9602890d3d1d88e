use Rattle.std.proofs.Common.{◌≡◌, ◌+◌, ◌++◌, drop}
use Rattle.roster.specs.LeftOut.{leaves_out}
use Rattle.roster.specs.Places.{all_but, numbered}
use Rattle.roster.proofs.state.PairingEntry.add_periods.Given as goal

abbrev pub invariant-loop-index : goal.invariant-loop-index
invariant-loop-index l =
    l.list.items ++ all_but (leaves_out l.out) (numbered l.zone l.id (l.index + 1) (drop l.index l.fdp-items))
    ≡ l.initial.list.items ++ all_but (leaves_out l.out) (numbered l.zone l.id 1 l.fdp-items)
