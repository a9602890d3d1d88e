use Rattle.std.proofs.Common.{◌≡◌, subst, map}
use Rattle.std.proofs.lemmas.Result.{IfOk-weaker}
use Rattle.limits.specs.Judgement.{all_sections}
use Rattle.nearness.specs.Nearness.{IsNearness}
use Rattle.limits_report.specs.Listing.{AreNearestOf, names_of, times_of}
use Rattle.limits_report.specs.NearestLimits.{nearest_limit}
use Rattle.limits_report.proofs.Joining.{times_from, times_to_end}
use Rattle.limits_report.proofs.nearest.nearest_of.Goals as goal

pub nearest_of_new-requires : goal.nearest_of_new-requires
nearest_of_new-requires c =
    times_from c.args.others c.args.duties.now c.in_ok-all.all c.in_ok-new.new c.in_ok-all.ensures
    (times_to_end c.args.others c.args.duties.now c.in_ok-new.new c.in_ok-new.ensures)

pub limits-requires : goal.limits-requires
limits-requires c =
    subst (λ ds. IsNearness ds c.in_ok-new.new c.args.others c.nearest_of_new.result) c.in_ok-all.ensures c.nearest_of_new.ensures.nearness

pub returns : goal.returns
returns c =
    let all = subst (λ ds. IsNearness ds c.in_ok-new.new c.args.others c.nearest_of_new.result) c.in_ok-all.ensures c.nearest_of_new.ensures.nearness in
    let nearest = subst (λ ds. IsNearness (times_of c.args.duties.now) ds c.args.others c.nearest_of_new.result)
    (times_to_end c.args.others c.args.duties.now c.in_ok-new.new c.in_ok-new.ensures) all in
    IfOk-weaker c.limits.result
    (λ limits. limits.items ≡ map (nearest_limit (names_of c.args.duties.now) c.nearest_of_new.result) all_sections)
    (λ limits. AreNearestOf c.args.duties.now c.args.others limits.items)
    (λ limits are. record { nearness = c.nearest_of_new.result; nearest = nearest; are = are }) c.limits.ensures
