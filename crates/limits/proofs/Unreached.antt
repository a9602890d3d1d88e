-- A duty during times that none of some spans reaches is far from these.
use Rattle.std.proofs.Common.{◌≡◌, ◌+◌, ◌≤◌, false, List, sym, ◌∙◌, arith, inl, inr, ◌⊎◌}
use Rattle.std.specs.Prelude.{ℤ, pos, ◌≤ℤ◌}
use Rattle.std.specs.List.{Contains}
use Rattle.std.proofs.lemmas.Int.{ints}
use Rattle.std.proofs.lemmas.Bool.{cases_Bool, cases_lt, false≢true, and_from, lt-ltb}
use Rattle.duty.specs.declared.span.Span.{Span}
use Rattle.limits.specs.Reach.{IsApart, UnreachedIsFar, is_reached, may_meet, reach}
use Rattle.limits.specs.Laws.TableRules.{from_contained}

-- times that a window from the span doesn't reach lie before or after it
not_reached : (times span : Span) → may_meet times span ≡ false →
    (times.to + reach ≤ span.from) ⊎ (span.to + reach ≤ times.from)
not_reached times span not =
    elim (cases_lt span.from (times.to + reach)) [
      | inl a ↦ elim (cases_lt times.from (span.to + reach)) [
        | inl b ↦ absurd (false≢true (sym not ∙ and_from _ _ (lt-ltb _ _ a) (lt-ltb _ _ b)))
        | inr late ↦ inr late
      ]
      | inr early ↦ inl early
    ]

-- times that no window reaches are not reached from each span
each_not_reached : (times : Span) (spans : List Span) → is_reached spans times ≡ false →
    (span : Span) → Contains spans span → may_meet times span ≡ false
each_not_reached times spans not span here =
    elim (cases_Bool (may_meet times span)) [
      | inl is ↦ absurd (false≢true (sym not ∙ from_contained (may_meet times) spans span here is))
      | inr other ↦ other
    ]

-- a minute between these times is apart from a span that they may not meet
apart_by_times : (times span : Span) (i : ℤ) → may_meet times span ≡ false → pos times.from ≤ℤ i → i ≤ℤ pos times.to → IsApart span i
apart_by_times times span i not low high =
    elim (not_reached times span not) [
      | inl early ↦ inl (omega (arith, ints))
      | inr late ↦ inr (omega (arith, ints))
    ]

pub unreached_is_far : UnreachedIsFar
unreached_is_far times duty spans inside not = record {
  minutes = λ kind i is span here. (let m = inside.minutes kind i is in
      let b = m.1 in
      apart_by_times times span i (each_not_reached times spans not span here) m.0 (omega (arith, ints)));
  report = λ fdp is span here. (let m = inside.report fdp is in
      let a = m.0 in
      let b = m.1 in
      apart_by_times times span (pos fdp.report) (each_not_reached times spans not span here) (omega (arith, ints)) (omega (arith, ints)));
}
