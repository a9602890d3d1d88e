-- The minutes that duties hold, as sets. A minute is a whole number: 2000-01-01T00:00Z is 0, and
-- what was before it is negative. A set of minutes is a test, so a minute counts once however many
-- duties hold it.
use Rattle.std.specs.Prelude.{◌≡◌, ℕ, zero, suc, ◌+◌, ◌-◌, Bool, ◌&&◌, List, [], ◌∷◌, if◌then◌else◌}
use Rattle.std.specs.Prelude.{ℤ, pos, ◌+ℤ◌, ◌≤ℤ◌, ◌<ℤ◌, int_lt, int_le, IsTrue}
use Rattle.std.specs.List.{list_any, flat_map, sum_by}
use Rattle.duty.specs.FdpTimes.{FdpTimes}
use Rattle.duty.specs.declared.span.Span.{Span}
use Rattle.duty.specs.declared.duty_in_force.DutyInForce.{DutyInForce}
use Rattle.duty.specs.declared.duty_in_force.DutyInForce.TheVariants.{Fdp, Ground}
use Rattle.duty.specs.declared.kind.Kind.{Kind}
use Rattle.duty.specs.declared.kind.Kind.TheVariants.{Flight, FlightDuty, Duty}

-- whether a span has a minute: it has those from its begin up to, and without, its end
abbrev pub covers : ℤ → Span → Bool
covers minute span = int_le (pos span.from) minute && int_lt minute (pos span.to)

-- the set of the minutes that some span of the list has
abbrev pub minutes_of : List Span → ℤ → Bool
minutes_of spans minute = list_any (covers minute) spans

-- the last block-in of these segments, or the report where there is no segment
abbrev pub last_in : ℕ → List Span → ℕ
last_in report [] = report
last_in report (segment ∷ rest) = last_in segment.to rest

-- the length of a flight duty period, from report to the last block-in
abbrev pub fdp_length : FdpTimes → ℕ
fdp_length fdp = last_in fdp.report fdp.segments - fdp.report

-- the flight time in a flight duty period, from block-out to block-in of each segment
abbrev pub flight_time : FdpTimes → ℕ
flight_time fdp = sum_by (λ segment. segment.to - segment.from) fdp.segments

-- flight time (14 CFR 1.1) is from block-out to block-in of each segment, a flight duty period
-- (117.3) from report to the last block-in, and duty (117.3) from report to release; a duty on the
-- ground is all duty
abbrev pub spans_of : Kind → DutyInForce → List Span
spans_of Flight (Fdp fdp) = fdp.segments
spans_of FlightDuty (Fdp fdp) =
    record { from = fdp.report; to = last_in fdp.report fdp.segments } ∷ []
spans_of Duty (Fdp fdp) = record { from = fdp.report; to = fdp.release } ∷ []
spans_of Flight (Ground _) = []
spans_of FlightDuty (Ground _) = []
spans_of Duty (Ground span) = span ∷ []

-- the set of a history's minutes of a kind: flight minutes, minutes in flight duty periods, or duty
-- minutes
abbrev pub minutes_in : Kind → List DutyInForce → ℤ → Bool
minutes_in kind history = minutes_of (flat_map (spans_of kind) history)

-- how many of the `width` minutes from `start` on are in the set
unfoldable pub count : (ℤ → Bool) → ℤ → ℕ → ℕ
count set start zero = 0
count set start (suc width) = (if set start then 1 else 0) + count set (start +ℤ pos 1) width

-- At least one of the `width` minutes from `start` on is in the set.
pub record Meets (set : ℤ → Bool) (start : ℤ) (width : ℕ) : Type 0 where
  pub minute : ℤ
  pub from_start : start ≤ℤ minute
  pub before_end : minute <ℤ (start +ℤ pos width)
  pub member : IsTrue (set minute)

-- Some `length` minutes in a row, all among the `width` minutes from `from` on, hold no minute of
-- the set.
pub record HasFreeRun (set : ℤ → Bool) (from : ℤ) (width length : ℕ) : Type 0 where
  pub start : ℤ
  pub from_start : from ≤ℤ start
  pub to_end : (start +ℤ pos length) ≤ℤ (from +ℤ pos width)
  pub free : count set start length ≡ 0

-- some minute is a duty minute of both histories
pub record Overlap (history other : List DutyInForce) : Type 0 where
  pub minute : ℤ
  pub in_history : IsTrue (minutes_in Duty history minute)
  pub in_other : IsTrue (minutes_in Duty other minute)
