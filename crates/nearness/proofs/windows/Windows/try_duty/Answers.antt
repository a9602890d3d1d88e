use Rattle.std.proofs.Common.{◌≡◌, ◌+◌, ℕ, arith, inl, inr, subst}
use Rattle.std.specs.Prelude.{pos, ◌-ℤ◌, slice_index_or}
use Rattle.std.specs.List.{flat_map}
use Rattle.std.proofs.lemmas.Bool.{cases_eq}
use Rattle.std.proofs.lemmas.Option.{get_or_from_slice_get}
use Rattle.duty.specs.Minutes.{spans_of, minutes_in, Meets}
use Rattle.nearness.specs.Searches.{IsAsGood, IsNoWorse, IsTried}
use Rattle.nearness.proofs.Rounds.{kept_tried}
use Rattle.nearness.proofs.windows.Windows.try_duty.Goals as goal

pub loop-index-preserved : goal.loop-index-preserved
loop-index-preserved c =
    let windows = c.args.self.now in
    let all = flat_map (spans_of windows.kind) windows.all.now in
    let new = minutes_in windows.kind windows.new.now in
    let spans = spans_of windows.kind c.args.duty.now in
    let first = c.better-best.ensures in
    let second = c.better-best-in-loop-index.ensures in
    let best = c.better-best-in-loop-index.result in
    let span = c.span_at-span.result in
    let inv = c.loop-index.invariant in
    let both : IsNoWorse all windows.width c.loop-index.best best = λ e g. second.kept e (first.kept e g) in
    let T : ℕ → Type 0 = λ n. Meets new (pos (n + c.args.after_begin) -ℤ pos windows.width) windows.width →
    IsAsGood all windows.width c.better-best.result (n + c.args.after_begin) in
    let U : ℕ → Type 0 = λ n. Meets new (pos n -ℤ pos windows.width) windows.width →
    IsAsGood all windows.width best n in
    let at_begin : T span.from = subst T c.number.ensures.value first.tried in
    let at_end : U span.to = subst U c.number-in-loop-index.ensures.value second.tried in
    let here : IsTried all new windows.width best c.args.after_begin span = record {
      at_begin = λ m. second.kept (span.from + c.args.after_begin) (at_begin m);
      at_end = at_end;
    } in
    record {
      end = inv.end;
      holds = second.holds;
      met = second.met;
      kept = λ e g. both e (inv.kept e g);
      tried = λ k d l. elim (cases_eq k c.loop-index.index) [
        | inl same ↦ (let at : slice_index_or spans c.loop-index.index d ≡ span =
            get_or_from_slice_get spans c.loop-index.index span d c.span_at-span.ensures in
            rw (same, at) here)
        | inr other ↦ kept_tried all new windows.width c.loop-index.best best c.args.after_begin _ both
            (inv.tried k d (omega arith))
      ];
    }
