use Rattle.std.proofs.Common.{rules, ◌≡◌, refl, sym, ap, subst, ◌∙◌, ◌+◌, [], ◌∷◌, ◌++◌, Some}
use Rattle.std.specs.FinMap as fin
use Rattle.std.specs.Option.{option_copied}
use Rattle.entries.specs.PlanRows.{segment_name, IsSegment}
use Rattle.entries.proofs.PlanLemmas.{segments_more, too_many_segments}
use Rattle.entries.proofs.plans.segments_of.Goals as goal

pub loop-place-preserved : goal.loop-place-preserved
loop-place-preserved c =
    let rows = c.args.rows.now.segments in
    let id = c.args.id.now in
    let place = c.loop-place.place in
    let row = c.in-Some.row.now in
    let segment = c.in_ok-segment.segment in
    let times = c.in_ok-segment.times in
    let inv = c.loop-place.invariant in
    let there : fin.get rows (segment_name id c.args.period (place + 1)) ≡ Some row = sym c.in_ok-row.ensures ∙ ap option_copied c.in-Some.is in
    let told : IsSegment row segment times =
    subst (λ s. IsSegment row s times) c.in_ok-segment.segment-is (subst (λ t. IsSegment row c.in_ok-segment.field-0.segment t) c.in_ok-segment.times-is c.in_ok-segment.ensures) in
    let more : c.push.new.self.items ≡ c.loop-place.planned.items ++ segment ∷ [] = search rules in
    let also : c.push-in-loop-place.new.self.items ≡ c.loop-place.flown.items ++ times ∷ [] = search rules in
    segments_more rows id c.args.period c.loop-place.planned.items c.push.new.self.items c.loop-place.flown.items c.push-in-loop-place.new.self.items segment times row place inv.0 inv.1 inv.2 there told more also

pub returns : goal.returns
returns c =
    let inv = c.loop-place.invariant in
    (refl, too_many_segments c.args.rows.now.segments c.args.id.now c.args.period c.loop-place.planned.items c.loop-place.flown.items c.loop-place.place c.loop-place-test.false inv.0 inv.1 inv.2)
