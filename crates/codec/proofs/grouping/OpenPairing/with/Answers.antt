use Rattle.std.proofs.Common.{rules, ◌≡◌, ◌+◌, ◌++◌, ◌∷◌, [], length, refl}
use Rattle.codec.specs.Grouping.{open_fdp}
use Rattle.codec.proofs.Grouped.{segment_more, period_more, segment_behind, shows_more, shows_with}
use Rattle.codec.proofs.grouping.OpenPairing.with.Goals as goal

pub returns-then-place-number-clause-segments : goal.returns-then-place-number-clause-segments
returns-then-place-number-clause-segments c =
    segment_more c.args.self.draft.id c.args.self.draft.periods.items c.args.self.period.report c.args.self.period.release c.args.self.period.segments.items _ c.args.it
    c.in_ok-push.ensures.items (search rules) (search rules) (search rules)

pub returns-clause-segments : goal.returns-clause-segments
returns-clause-segments c =
    let fs = c.args.self.draft.periods.items in
    let more : c.push-2.new.self.items ≡ fs ++ open_fdp c.args.self.period ∷ [] = search (rules, c.in_ok-push-2.ensures.items, c.into_fdp.ensures) in
    let number : c.args.it.place.period ≡ length (fs ++ open_fdp c.args.self.period ∷ []) + 1 = search rules in
    let begun = c.in_ok-period.ensures.begun in
    rw (more, begun.0, begun.1, begun.2) (period_more c.args.self.draft.id (fs ++ open_fdp c.args.self.period ∷ []) c.args.it number)

pub returns-then-place-number-clause-shown : goal.returns-then-place-number-clause-shown
returns-then-place-number-clause-shown c shown =
    let p = c.args.self.period in
    let more : c.push.new.self.items ≡ p.segments.items ++ c.args.it.segment ∷ [] = search (rules, c.in_ok-push.ensures.items) in
    shows_with c.args.self.draft.id c.args.self.draft.periods.items (open_fdp p) _ shown (rw more (segment_behind p.segments.items c.args.it.segment))

pub returns-clause-shown : goal.returns-clause-shown
returns-clause-shown c shown =
    let fs = c.args.self.draft.periods.items in
    let more : c.push-2.new.self.items ≡ fs ++ open_fdp c.args.self.period ∷ [] = search (rules, c.in_ok-push-2.ensures.items, c.into_fdp.ensures) in
    let begun = c.in_ok-period.ensures.begun in
    rw more (shows_more c.args.self.draft.id (fs ++ open_fdp c.args.self.period ∷ []) _ shown (rw begun.2 refl))
