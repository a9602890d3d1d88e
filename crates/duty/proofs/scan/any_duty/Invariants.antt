use Rattle.std.proofs.Common.{◌≡◌, take, false}
use Rattle.std.specs.List.{list_any}
use Rattle.duty.proofs.scan.any_duty.Given as goal

abbrev pub invariant-loop-duty : goal.invariant-loop-duty
invariant-loop-duty g l = list_any (g.T.DutyTest.passes l.test) (take l.duty-index l.duties) ≡ false
