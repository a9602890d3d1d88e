use Rattle.std.proofs.Common.{◌≡◌, refl, Err, rules}
use Rattle.duty.specs.Pairings.{actual_fault}
use Rattle.duty.specs.Words.{checked}
use Rattle.entries.proofs.PlanLemmas.{drafted_actual, refused_actual}
use Rattle.entries.proofs.plans.actual_of.Goals as goal

pub returns-in-Err : goal.returns-in-Err
returns-in-Err c =
    let draft = drafted_actual c.args.number c.in-Some.report c.in-Some.release c.in_ok-all.all.items in
    let err : checked (actual_fault draft) draft ≡ Err c.in-Err.field-0 = search rules in
    (refl, refused_actual c.args.number c.in-Some.report c.in-Some.release c.args.times c.args.flown.now c.in_ok-all.all.items c.in-Err.field-0 c.in-Some.is c.in_ok-all.ensures err)
