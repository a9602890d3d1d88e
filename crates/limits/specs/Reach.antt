-- How far the limits look. A duty that is at least 365 days from all new duties, before or after
-- them, changes neither what the new duties break nor whether they overlap others.
use Rattle.std.specs.Prelude.{◌≡◌, ℕ, ◌+◌, ◌≤◌, Bool, false, ◌&&◌, nat_lt, IsTrue, List}
use Rattle.std.specs.Prelude.{ℤ, pos, ◌+ℤ◌, ◌≤ℤ◌, ◌<ℤ◌, ◌⊎◌, ◌↔◌}
use Rattle.std.specs.List.{Contains, list_any}
use Rattle.duty.specs.declared.duty_in_force.DutyInForce.{DutyInForce}
use Rattle.duty.specs.declared.duty_in_force.DutyInForce.TheVariants.{Fdp}
use Rattle.duty.specs.declared.kind.Kind.{Kind}
use Rattle.duty.specs.declared.span.Span.{Span}
use Rattle.duty.specs.FdpTimes.{FdpTimes}
use Rattle.duty.specs.Minutes.{Overlap, minutes_in, minutes_of, spans_of}
use Rattle.limits.specs.Judgement.{Broken, IsWithin}

-- ---- By the minutes of duties

-- the minutes of the widest window, the 365 days of 117.23(b)(2)
abbrev pub reach : ℕ
reach = 525_600

-- A minute is so long before or after a span that no window has it and a minute of the span.
abbrev pub IsApart : Span → ℤ → Type 0
IsApart span minute =
    ((minute +ℤ pos reach) ≤ℤ pos span.from) ⊎ ((pos span.to +ℤ pos reach) ≤ℤ minute)

-- Duties lie in spans: each minute of the duties is in one of the spans, and the report of each of
-- their flight duty periods is in one, or at its end.
pub record AreIn (spans : List Span) (duties : List DutyInForce) : Type 0 where
  pub minutes : (kind : Kind) (minute : ℤ) → IsTrue (minutes_in kind duties minute) →
      (span : Span) × Contains spans span × (pos span.from ≤ℤ minute) × (minute <ℤ pos span.to)
  pub reports : (fdp : FdpTimes) → Contains duties (Fdp fdp) →
      (span : Span) × Contains spans span × (span.from ≤ fdp.report) × (fdp.report ≤ span.to)

-- A duty is far from spans: all its minutes are apart from each of the spans, and so is the report
-- of a flight duty period.
pub record IsFar (spans : List Span) (duty : DutyInForce) : Type 0 where
  pub minutes : (kind : Kind) (minute : ℤ) → IsTrue (minutes_of (spans_of kind duty) minute) →
      (span : Span) → Contains spans span → IsApart span minute
  pub report : (fdp : FdpTimes) → duty ≡ Fdp fdp → (span : Span) → Contains spans span →
      IsApart span (pos fdp.report)

-- The duties of the second list are duties of the first, and what the first list has beside them is
-- far from the spans.
pub record AreAllButFar (spans : List Span) (all near : List DutyInForce) : Type 0 where
  pub within : IsWithin near all
  pub others : (duty : DutyInForce) → Contains all duty → Contains near duty ⊎ IsFar spans duty

-- New duties break the same limits among all duties and among these without duties that are far
-- from the spans in which the new ones lie.
abbrev pub FarChangesNothing : Type 0
FarChangesNothing = (all near new : List DutyInForce) (spans : List Span) → AreIn spans new →
    AreAllButFar spans all near → Broken all new ≡ Broken near new

-- New duties overlap some of all duties if and only if they overlap some of these without duties
-- that are far from the spans in which the new ones lie.
abbrev pub FarOverlapsNothing : Type 0
FarOverlapsNothing = (all near new : List DutyInForce) (spans : List Span) → AreIn spans new →
    AreAllButFar spans all near → Overlap all new ↔ Overlap near new

-- ---- By the begin and the end of a duty

-- all minutes of a duty, and the report of a flight duty period, are from the begin to the end of
-- these times
pub record IsDuring (times : Span) (duty : DutyInForce) : Type 0 where
  pub minutes : (kind : Kind) (minute : ℤ) → IsTrue (minutes_of (spans_of kind duty) minute) →
      (pos times.from ≤ℤ minute) × (minute <ℤ pos times.to)
  pub report : (fdp : FdpTimes) → duty ≡ Fdp fdp →
      (times.from ≤ fdp.report) × (fdp.report ≤ times.to)

-- whether these times end less than 365 days before a span, and begin less than 365 days after it:
-- else no window has a minute of both
abbrev pub may_meet : (times : Span) → (span : Span) → Bool
may_meet times span = nat_lt span.from (times.to + reach) && nat_lt times.from (span.to + reach)

-- whether a window may have a minute of some of the spans and one of these times
abbrev pub is_reached : List Span → (times : Span) → Bool
is_reached spans times = list_any (may_meet times) spans

-- A duty during times that none of the spans reaches is far from the spans.
abbrev pub UnreachedIsFar : Type 0
UnreachedIsFar = (times : Span) (duty : DutyInForce) (spans : List Span) → IsDuring times duty →
    is_reached spans times ≡ false → IsFar spans duty
