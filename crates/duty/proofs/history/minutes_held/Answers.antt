use Rattle.std.proofs.Common.{sym, ap, ◌∙◌}
use Rattle.std.proofs.lemmas.List.Sorted.{list_any-IsPermutation}
use Rattle.std.proofs.lemmas.Result.{IfOk-weaker}
use Rattle.duty.specs.Minutes.{covers, minutes_of}
use Rattle.duty.proofs.history.minutes_held.Goals as goal

pub returns : goal.returns
returns c =
    let spans = c.in_ok-spans.spans.items in
    let sorted = c.sort_unstable_by_key.new.self.items in
    IfOk-weaker c.of.result _ _
    (λ minutes same minute. (same minute ∙ sym (list_any-IsPermutation (covers minute) spans sorted c.sort_unstable_by_key.ensures.permutation) ∙
    ap (λ xs. minutes_of xs minute) c.in_ok-spans.ensures)) c.of.ensures
