-- Whether two histories overlap, as a function of their spans: `overlaps` is true if and only if
-- `Overlap` of Minutes.antt holds, as `History::overlaps` ensures.
use Rattle.std.specs.Prelude.{Bool, List, max, min, nat_lt}
use Rattle.std.specs.List.{list_any, flat_map}
use Rattle.duty.specs.declared.span.Span.{Span}
use Rattle.duty.specs.declared.duty_in_force.DutyInForce.{DutyInForce}
use Rattle.duty.specs.declared.kind.Kind.TheVariants.{Duty}
use Rattle.duty.specs.Minutes.{spans_of}

-- whether two spans share a minute
abbrev pub meets_span : Span → Span → Bool
meets_span span other = nat_lt (max span.from other.from) (min span.to other.to)

-- whether a span shares a minute with a duty of the history
abbrev pub meets_duty : List DutyInForce → Span → Bool
meets_duty history span = list_any (meets_span span) (flat_map (spans_of Duty) history)

-- whether a duty of one history shares a minute with a duty of the other
unfoldable pub overlaps : List DutyInForce → List DutyInForce → Bool
overlaps history other = list_any (meets_duty other) (flat_map (spans_of Duty) history)
