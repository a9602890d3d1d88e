use Rattle.std.proofs.Common.{◌≡◌, ◌<◌, ◌++◌, ◌∷◌, [], length, take, get_or, ap, ◌∙◌}
use Rattle.std.proofs.lemmas.List.{append_assoc, take_more}
use Rattle.std.proofs.lemmas.Option.{get_or_from_slice_get, slice_get_within}
use Rattle.duty.specs.Minutes.{spans_of}
use Rattle.duty.proofs.duty_in_force.DutyInForce.append_spans.Goals as goal

pub loop-index-preserved : goal.loop-index-preserved
loop-index-preserved c =
    let spans = spans_of c.args.kind c.args.self.now in
    let old = c.args.spans.now.items in
    let i = c.loop-index.index in
    let x = c.span_at.result in
    let within : i < length spans = slice_get_within spans i x c.span_at.ensures in
    let here : get_or spans i x ≡ x = get_or_from_slice_get spans i x x c.span_at.ensures in
    let more = take_more spans i x within ∙ ap (λ y. take i spans ++ y ∷ []) here in
    record {
      items = rw more (c.in_ok-push.ensures.items ∙ ap (λ xs. xs ++ x ∷ []) c.loop-index.invariant.items ∙
          append_assoc old (take i spans) (x ∷ []));
      end = c.loop-index.invariant.end;
    }
