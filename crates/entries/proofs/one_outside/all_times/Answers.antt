use Rattle.std.proofs.Common.{rules, ◌≡◌, refl, subst, ◌+◌, [], ◌∷◌, ◌++◌, None, Some}
use Rattle.std.specs.Option.{option_copied}
use Rattle.tables.specs.declared.outside_segment.OutsideSegmentRecord.{OutsideSegmentRecord}
use Rattle.entries.specs.OneOutside.{HasNumber, IsNumbered}
use Rattle.entries.proofs.OneOutside.{turn_more, too_many}
use Rattle.entries.proofs.one_outside.all_times.Goals as goal

pub returns-in_default : goal.returns-in_default
returns-in_default c =
    let segments = c.args.segments.now in
    let inv = c.loop-place.invariant in
    let is : option_copied c.segment_with_number.result ≡ None = search rules in
    let none : (it : OutsideSegmentRecord) → HasNumber segments (c.loop-place.place + 1) it → ⊥ = subst (IsNumbered segments (c.loop-place.place + 1)) is c.segment_with_number.ensures in
    record { each = inv.1; instants = inv.2; none_after = λ it has. none it (subst (λ n. HasNumber segments (n + 1) it) inv.0 has) }

pub loop-place-preserved : goal.loop-place-preserved
loop-place-preserved c =
    let segments = c.args.segments.now in
    let inv = c.loop-place.invariant in
    let place = c.loop-place.place in
    let row = c.in-Some.row.now in
    let is : option_copied c.segment_with_number.result ≡ Some row = search rules in
    let has : HasNumber segments (place + 1) row = subst (IsNumbered segments (place + 1)) is c.segment_with_number.ensures in
    let told = c.in_ok-times.ensures in
    let more : c.push.new.self.items ≡ c.loop-place.all.items ++ c.in_ok-times.times ∷ [] = search rules in
    turn_more segments c.loop-place.all.items c.push.new.self.items row c.in_ok-times.times place inv.0 inv.1 inv.2 has told.0 told.1 more

pub returns : goal.returns
returns c =
    let inv = c.loop-place.invariant in
    (refl, too_many c.args.segments.now c.loop-place.all.items c.loop-place.place inv.0 c.loop-place-test.false inv.1)
