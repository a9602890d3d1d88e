use Rattle.std.proofs.Common.{◌≡◌, ap}
use Rattle.std.specs.Prelude.{not, pos, ◌-ℤ◌}
use Rattle.std.proofs.lemmas.Bool.Decides.{same_from_decides}
use Rattle.duty.specs.Minutes.{minutes_in}
use Rattle.duty.specs.declared.kind.Kind.TheVariants.{Duty}
use Rattle.duty.proofs.FreeRuns.{free_run_test, free_run_decides}
use Rattle.limits.proofs.rest_limits.lacks_rest.Goals as goal

pub returns-in-ThirtyHours : goal.returns-in-ThirtyHours
returns-in-ThirtyHours c =
    let set = minutes_in Duty c.args.history.now in
    let from = pos c.args.report -ℤ pos 10_080 in
    let same : c.has_free_run.result ≡ free_run_test set from 10_080 1_800 =
    same_from_decides c.has_free_run.result (free_run_test set from 10_080 1_800)
    (rw c.number.ensures.value at c.has_free_run.ensures) (free_run_decides set from 10_080 1_800) in
    rw c.in-ThirtyHours.is (ap not same)
