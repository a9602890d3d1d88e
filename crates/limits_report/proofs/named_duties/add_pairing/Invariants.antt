use Rattle.std.proofs.Common.{◌≡◌, ◌+◌, ◌++◌, drop, map}
use Rattle.roster.specs.Places.{numbered}
use Rattle.limits_report.specs.Listing.{named_duty}
use Rattle.limits_report.proofs.named_duties.add_pairing.Given as goal

abbrev pub invariant-loop-index : goal.invariant-loop-index
invariant-loop-index l =
    l.list.items ++ map named_duty (numbered l.zone l.id (l.index + 1) (drop l.index l.fdp-items))
    ≡ l.initial.list.items ++ map named_duty (numbered l.zone l.id 1 l.fdp-items)
