use Rattle.std.proofs.Common.{refl}
use Rattle.std.proofs.lemmas.Result.{IfOk-weaker}
use Rattle.limits_report.specs.Listing.{AreNearestOf}
use Rattle.limits_report.specs.NearestLimits.{AreNearest, as_they_are}
use Rattle.limits_report.proofs.Joining.{judged_from, listed_as_they_are}
use Rattle.limits_report.proofs.nearest.nearest_as_they_are.Goals as goal

pub returns : goal.returns
returns c =
    let s = c.args.roster.now in
    let who = c.args.who.now in
    let listed = listed_as_they_are s who c.in_ok-duties.duties.items c.deref.result.now c.in_ok-duties.ensures c.deref.ensures.value in
    IfOk-weaker c.nearest_of.result (λ limits. AreNearestOf c.deref.result.now 0 limits.items)
    (λ limits. AreNearest (as_they_are s who) limits.items)
    (λ limits found. judged_from (as_they_are s who) c.deref.result.now 0 limits.items listed refl found)
    c.nearest_of.ensures
