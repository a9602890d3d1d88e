-- Sorted lists of disjoint intervals, with running sums.
use Rattle.std.specs.Prelude.{◌≡◌, ℕ, ◌+◌, ◌-◌, ◌<◌, ◌≤◌, List, [], ◌∷◌, map, take, length}
use Rattle.std.specs.Prelude.{slice_index_or, min, max}
use Rattle.std.specs.List.{sum_by}
use Rattle.duty.specs.declared.span.Span.{Span}
use Rattle.duty.specs.declared.intervals.Interval.{Interval}

-- Each span has a minute, the first begins at `least` or later, and each later span begins after
-- the end of the span before it: no span meets or touches another.
abbrev pub AreApart : ℕ → List Span → Type 0
AreApart least [] = Unit {0}
AreApart least (span ∷ rest) =
    (least ≤ span.from) × (span.from < span.to) × AreApart (span.to + 1) rest

-- the lengths of the spans, added up
abbrev pub lengths : List Span → ℕ
lengths = sum_by (λ span. span.to - span.from)

-- the spans of intervals
abbrev pub spans_in : List Interval → List Span
spans_in = map (λ interval. interval.span)

-- each of the first `n` intervals has as its total the lengths of the intervals up to and with it
abbrev pub AreSummed : ℕ → List Interval → Type 0
AreSummed n intervals = (k : ℕ) (d : Interval) → k < n →
    (slice_index_or intervals k d).total ≡ lengths (take (k + 1) (spans_in intervals))

-- The intervals are in order and apart, and each has as its total the minutes up to its end.
pub record IsIndex (intervals : List Interval) : Type 0 where
  pub apart : AreApart 0 (spans_in intervals)
  pub summed : AreSummed (length intervals) intervals

-- two spans are joined to one from the first begin to the last end
abbrev pub joined : Span → Span → Span
joined a b = record { from = min a.from b.from; to = max a.to b.to }

-- a span as an interval whose total is not made yet
abbrev pub unsummed : Span → Interval
unsummed span = record { span = span; total = 0 }
