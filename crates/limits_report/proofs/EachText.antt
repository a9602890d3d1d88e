-- What is nearest to each limit is there, and each member who is there has a text, with each pairing that is there, or without one.
use Rattle.std.proofs.Common.{◌++◌, ℕ, List, length, map, refl}
use Rattle.std.specs.List.{flat_map}
use Rattle.limits.specs.Judgement.{all_sections}
use Rattle.nearness.proofs.EachNearness.{each_nearness}
use Rattle.roster.specs.Places.{duties}
use Rattle.limits_report.specs.Laws.{EachHasNearest, EachHasText}
use Rattle.limits_report.specs.LimitsText.{header, limit_line}
use Rattle.limits_report.specs.NearestLimits.{AreNearest, Judged, names, nearest_limit}
use Rattle.limits_report.specs.declared.nearest.NearestLimit.{NearestLimit}

each_judged : (j : Judged) → (limits : List NearestLimit) × AreNearest j limits
each_judged j =
    let near = each_nearness (duties (j.others ++ j.new)) (duties j.new) (length j.others) in (
      map (nearest_limit (names (j.others ++ j.new)) near.0) all_sections,
      record { nearness = near.0; nearest = near.1; are = refl },
    )

pub each_nearest : EachHasNearest
each_nearest s who pairing of are =
    let found = each_judged of in (found.0, record { of = of; are_judged = are; are = found.1 })

pub each_text : EachHasText
each_text s who pairing member of there are =
    let found = each_judged of in (
      header who member pairing ++ flat_map limit_line found.0,
      record { member = member; is_there = there; of = of; are_judged = are; told = record { limits = found.0; are = found.1; is = refl } },
    )
