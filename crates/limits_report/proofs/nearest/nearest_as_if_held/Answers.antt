use Rattle.std.proofs.Common.{rules}
use Rattle.std.proofs.lemmas.Result.{IfOk-weaker}
use Rattle.limits_report.specs.Listing.{AreNearestOf}
use Rattle.limits_report.specs.NearestLimits.{AreNearest, as_if_held}
use Rattle.limits_report.proofs.Joining.{count_of_others, judged_from, listed_as_if_held}
use Rattle.limits_report.proofs.nearest.nearest_as_if_held.Goals as goal

pub returns : goal.returns
returns c =
    let s = c.args.roster.now in
    let who = c.args.who.now in
    let id = c.args.id.now in
    let r = c.args.entry.now in
    let listed = listed_as_if_held s who c.zone_of.result.now id r c.in_ok-duties.duties.items c.add_pairing.new.list.items c.deref.result.now
    c.in_ok-duties.ensures c.zone_of.ensures c.in_ok-add_pairing.ensures c.deref.ensures.value in
    let count = count_of_others s who id c.in_ok-duties.duties.items c.len-others.result c.in_ok-duties.ensures (search rules) in
    IfOk-weaker c.nearest_of.result (λ limits. AreNearestOf c.deref.result.now c.len-others.result limits.items)
    (λ limits. AreNearest (as_if_held s who id r) limits.items)
    (λ limits found. judged_from (as_if_held s who id r) c.deref.result.now c.len-others.result limits.items listed count found)
    c.nearest_of.ensures
