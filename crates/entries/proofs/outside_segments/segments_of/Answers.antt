use Rattle.std.proofs.Common.{rules, ◌≡◌, refl, sym, ap, subst, ◌∙◌, ◌+◌, [], ◌∷◌, ◌++◌, List, Some, None}
use Rattle.std.specs.FinMap as fin
use Rattle.std.specs.Option.{option_copied}
use Rattle.tables.specs.declared.outside_segment.OutsideSegmentRecord.{OutsideSegmentRecord}
use Rattle.entries.specs.OutsideRows.{outside_segment_name}
use Rattle.entries.proofs.KeyedOutsideSegments.{AreInTurn, none_in_turn, next_in_turn, all_in_turn, thirteenth}
use Rattle.entries.proofs.outside_segments.segments_of.Goals as goal

pub loop-place-init : goal.loop-place-init
loop-place-init c = subst (λ (l : List OutsideSegmentRecord). AreInTurn c.args.segments.now c.args.outside.now 0 l) (sym (search rules)) (none_in_turn c.args.segments.now c.args.outside.now)

pub loop-place-preserved : goal.loop-place-preserved
loop-place-preserved c =
    let segments = c.args.segments.now in
    let id = c.args.outside.now in
    let place = c.loop-place.place in
    let row = c.in-Some.row.now in
    let there : fin.get segments (outside_segment_name id (place + 1)) ≡ Some row = sym c.in_ok-row.ensures ∙ ap option_copied c.in-Some.is in
    let more : c.push.new.self.items ≡ c.loop-place.its.items ++ row ∷ [] = search rules in
    next_in_turn segments id place c.loop-place.its.items c.push.new.self.items row c.loop-place.invariant there more

pub returns-in_default : goal.returns-in_default
returns-in_default c =
    let segments = c.args.segments.now in
    let id = c.args.outside.now in
    let place = c.loop-place.place in
    let none : fin.get segments (outside_segment_name id (place + 1)) ≡ None = search rules in
    all_in_turn segments id place c.loop-place.its.items c.requires c.loop-place.invariant none

pub returns : goal.returns
returns c = (refl, thirteenth c.args.segments.now c.args.outside.now c.loop-place.place c.loop-place.its.items c.loop-place-test.false c.loop-place.invariant)
