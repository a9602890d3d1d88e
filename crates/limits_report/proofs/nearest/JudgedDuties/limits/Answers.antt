use Rattle.limits.specs.Judgement.{all_sections}
use Rattle.limits.specs.declared.section.Section.TheVariants.{FlightTime}
use Rattle.limits_report.specs.Listing.{names_of}
use Rattle.limits_report.specs.NearestLimits.{nearest_limit}
use Rattle.limits_report.proofs.Joining.{one_more}
use Rattle.limits_report.proofs.nearest.JudgedDuties.limits.Goals as goal

pub loop-section-preserved : goal.loop-section-preserved
loop-section-preserved c =
    one_more (nearest_limit (names_of c.args.self.now.duties.now) c.args.self.now.nearness) c.loop-section.limits.items c.push.new.self.items
    c.in_ok-limit.field-0 _ all_sections c.loop-section.section-index FlightTime c.loop-section-test.true c.in_ok-limit.ensures
    c.in_ok-push.ensures.items c.loop-section.invariant
