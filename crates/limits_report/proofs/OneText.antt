-- There is one list of what is nearest to each limit of a member's duties, and the member has one text.
use Rattle.std.proofs.Common.{◌≡◌, ◌∙◌, ℕ, List, ◌++◌, length, map, sym, ap, subst}
use Rattle.std.specs.List.{flat_map}
use Rattle.std.proofs.lemmas.Option.{same_Some}
use Rattle.command.specs.declared.member.Member.{Member}
use Rattle.limits.specs.Judgement.{all_sections}
use Rattle.nearness.specs.declared.all_limits.Nearness.{Nearness}
use Rattle.roster.specs.Places.{duties}
use Rattle.limits_report.specs.Laws.{HasOneNearest, HasOneText}
use Rattle.limits_report.specs.LimitsText.{IsJudgedText, header, limit_line}
use Rattle.limits_report.specs.NearestLimits.{AreNearest, Judged, names, nearest_limit}
use Rattle.limits_report.specs.declared.nearest.NearestLimit.{NearestLimit}
use Rattle.limits_report.proofs.OneNearness.{one_nearness}

one_judged : (j : Judged) (a b : List NearestLimit) → AreNearest j a → AreNearest j b → a ≡ b
one_judged j a b x y =
    let near : x.nearness ≡ y.nearness = one_nearness (duties (j.others ++ j.new)) (duties j.new) (length j.others) x.nearness y.nearness x.nearest y.nearest in
    x.are ∙ ap (λ (n : Nearness). map (nearest_limit (names (j.others ++ j.new)) n) all_sections) near ∙ sym y.are

pub one_nearest_list : HasOneNearest
one_nearest_list s who pairing a b x y =
    let of : x.of ≡ y.of = same_Some x.of y.of (sym x.are_judged ∙ y.are_judged) in
    one_judged y.of a b (subst (λ (j : Judged). AreNearest j a) of x.are) y.are

one_text_of : (j : Judged) (first a b : List ℕ) → IsJudgedText j first a → IsJudgedText j first b → a ≡ b
one_text_of j first a b x y =
    x.is ∙ ap (λ limits. first ++ flat_map limit_line limits) (one_judged j x.limits y.limits x.are y.are) ∙ sym y.is

pub one_text : HasOneText
one_text s who pairing a b x y =
    let member : x.member ≡ y.member = same_Some x.member y.member (sym x.is_there ∙ y.is_there) in
    let of : x.of ≡ y.of = same_Some x.of y.of (sym x.are_judged ∙ y.are_judged) in
    let told : IsJudgedText y.of (header who x.member pairing) a = subst (λ (j : Judged). IsJudgedText j (header who x.member pairing) a) of x.told in
    let same : IsJudgedText y.of (header who y.member pairing) a = subst (λ (m : Member). IsJudgedText y.of (header who m pairing) a) member told in
    one_text_of y.of (header who y.member pairing) a b same y.told
