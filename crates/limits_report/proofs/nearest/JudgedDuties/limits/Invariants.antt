use Rattle.std.proofs.Common.{◌≡◌, ◌++◌, drop, map}
use Rattle.limits.specs.Judgement.{all_sections}
use Rattle.limits_report.specs.Listing.{names_of}
use Rattle.limits_report.specs.NearestLimits.{nearest_limit}
use Rattle.limits_report.proofs.nearest.JudgedDuties.limits.Given as goal

abbrev pub invariant-loop-section : goal.invariant-loop-section
invariant-loop-section l =
    l.limits.items ++ map (nearest_limit (names_of l.self.duties.now) l.self.nearness) (drop l.section-index l.section-items)
    ≡ map (nearest_limit (names_of l.self.duties.now) l.self.nearness) all_sections
