use Rattle.std.proofs.Common.{◌≡◌, Bool, false, Some, ◌∙◌, sym, subst}
use Rattle.std.proofs.lemmas.Bool.{not-false}
use Rattle.std.specs.Prelude.{Option, IfSome}
use Rattle.values.specs.Same.{option_same}
use Rattle.duty.specs.declared.span.Span.{Span}
use Rattle.duty.specs.Minutes.{spans_of}
use Rattle.duty.specs.declared.kind.Kind.TheVariants.{Flight}
use Rattle.limits.specs.declared.year_limit.Days.{Days}
use Rattle.limits.specs.contracts.year_limit.DaysLawfulEq.TheImpl.Laws.{exact-law}
use Rattle.limits.specs.Laws.Windows.{days_of}
use Rattle.duty.proofs.Scans.{some_at, none_more}
use Rattle.limits.proofs.year_limit.any_flight_of.Goals.{else-ne-via-then-ne+else-passes, else-ne-via-else-ne}
use Rattle.limits.proofs.year_limit.any_flight_of.Goals as goal

pub returns-then-passes : goal.returns-then-passes
returns-then-passes g c =
    let test : Span → Bool = λ span. g.T.DaysTest.passes c.args.test.now (days_of span) in
    sym (some_at test (spans_of Flight c.args.duty.now) c.loop-index.index c.span_at.result c.span_at.ensures
    (rw c.days_of-days.ensures at (sym c.passes.ensures ∙ c.if-passes.true)))

pub loop-index-preserved : goal.loop-index-preserved
loop-index-preserved g c =
    let over : Days → Bool = g.T.DaysTest.passes c.args.test.now in
    let days = c.days_of-days.result in
    let old : (o : Option Days) → IfSome o (λ d. over d ≡ false) → o ≡ Some days → over days ≡ false =
    λ o none is. subst (λ t. IfSome t (λ d. over d ≡ false)) is none in
    let here : over days ≡ false =
    elim c.else-ne.branch [
      | else-ne-via-then-ne+else-passes w ↦ sym w.passes.ensures ∙ w.if-passes.false
      | else-ne-via-else-ne w ↦ old c.loop-index.tried c.loop-index.invariant.tried
          ((option_same _ exact-law c.loop-index.tried (Some days)).0 (not-false _ (sym c.ne.ensures ∙ w.if-ne.false)))
    ] in
    record {
      end = c.loop-index.invariant.end;
      none = none_more (λ span. over (days_of span)) (spans_of Flight c.args.duty.now) c.loop-index.index
          c.span_at.result c.span_at.ensures c.loop-index.invariant.none (rw c.days_of-days.ensures at here);
      tried = here;
    }
