use Rattle.std.proofs.Common.{◌≡◌, take}
use Rattle.limits_report.specs.Listing.{times_of}
use Rattle.limits_report.proofs.named_duties.history_of.Given as goal

abbrev pub invariant-loop-named : goal.invariant-loop-named
invariant-loop-named l = l.duties.items ≡ times_of (take l.named-index l.list)
