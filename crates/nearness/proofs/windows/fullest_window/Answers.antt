use Rattle.std.proofs.Common.{arith}
use Rattle.std.specs.List.{flat_map}
use Rattle.duty.specs.Minutes.{spans_of, minutes_in}
use Rattle.limits.specs.Laws.Parts.{part-minutes}
use Rattle.nearness.proofs.Rounds.{AreAllTried, all_tried, is_fullest, kept_tried, no_minute, nothing_held}
use Rattle.nearness.proofs.windows.fullest_window.Goals as goal

pub try_duties-at_spans-requires-clause-held : goal.try_duties-at_spans-requires-clause-held
try_duties-at_spans-requires-clause-held c = nothing_held (flat_map (spans_of c.args.kind) c.args.all.now) c.args.width

pub returns-then-best-eq0-clause-none : goal.returns-then-best-eq0-clause-none
returns-then-best-eq0-clause-none c =
    let all = flat_map (spans_of c.args.kind) c.args.all.now in
    let new = flat_map (spans_of c.args.kind) c.args.new.now in
    let set = minutes_in c.args.kind c.args.new.now in
    let width = c.args.width in
    let old = c.try_duties-at_spans.result in
    let best = c.try_duties-best.result in
    let first = all_tried c.args.kind c.args.all.now all set width old width
    (rw c.duties.ensures at c.try_duties-at_spans.ensures.tried) in
    let second = all_tried c.args.kind c.args.new.now all set width best 1
    (rw c.duties-2.ensures at c.try_duties-best.ensures.tried) in
    let are : AreAllTried all new width best = record {
      spans = λ P is. (let t = first P is in
          (t.0, t.1, kept_tried all set width old best width t.0 c.try_duties-best.ensures.kept t.2));
      edges = second;
      within = part-minutes c.args.kind c.args.new.now c.args.all.now c.requires.new;
    } in
    no_minute all new width best c.requires.width are
    c.if-best-eq0.true

pub returns-clause-some : goal.returns-clause-some
returns-clause-some c =
    let all = flat_map (spans_of c.args.kind) c.args.all.now in
    let new = flat_map (spans_of c.args.kind) c.args.new.now in
    let set = minutes_in c.args.kind c.args.new.now in
    let width = c.args.width in
    let old = c.try_duties-at_spans.result in
    let best = c.try_duties-best.result in
    let first = all_tried c.args.kind c.args.all.now all set width old width
    (rw c.duties.ensures at c.try_duties-at_spans.ensures.tried) in
    let second = all_tried c.args.kind c.args.new.now all set width best 1
    (rw c.duties-2.ensures at c.try_duties-best.ensures.tried) in
    let are : AreAllTried all new width best = record {
      spans = λ P is. (let t = first P is in
          (t.0, t.1, kept_tried all set width old best width t.0 c.try_duties-best.ensures.kept t.2));
      edges = second;
      within = part-minutes c.args.kind c.args.new.now c.args.all.now c.requires.new;
    } in
    rw (c.by_start.ensures.minutes, c.by_start.ensures.start) (is_fullest all new width best c.requires.width are
    c.try_duties-best.ensures.holds c.try_duties-best.ensures.met (omega arith))
