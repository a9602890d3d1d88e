-- Each rule is decided by a test.
use Rattle.std.specs.Prelude.{Bool, List, IsTrue, ◌↔◌}
use Rattle.std.specs.List.{list_any, flat_map}
use Rattle.std.proofs.Common.{arith}
use Rattle.duty.specs.declared.duty_in_force.DutyInForce.{DutyInForce}
use Rattle.duty.specs.Minutes.{spans_of}
use Rattle.duty.specs.declared.kind.Kind.TheVariants.{Flight, FlightDuty}
use Rattle.limits.specs.declared.section.Section.{Section}
use Rattle.limits.specs.declared.section.Section.TheVariants as section
use Rattle.limits.specs.declared.rest_limits.Rest.TheVariants as rest
use Rattle.limits.specs.Rules.{Rule}
use Rattle.limits.specs.Laws.Tests.{is_over_table_a, is_over_table_b, some_lacks_rest}
use Rattle.limits.specs.Laws.Windows.{some_is_over, some_year_is_over}
use Rattle.limits.specs.Laws.TableRules.{table_a_decides, table_b_decides}
use Rattle.limits.specs.Laws.SumRule.{sum_rule}
use Rattle.limits.specs.Laws.YearRule.{year_rule}
use Rattle.limits.specs.Laws.LookBack.{ten_hours_decides, thirty_hours_decides}

-- whether the new duties break the section's rule; proofs use only `breaks_is` of this definition
pub breaks : Section → List DutyInForce → List DutyInForce → Bool
breaks section.FlightTime history new = list_any is_over_table_a new
breaks section.FlightDutyPeriod history new = list_any is_over_table_b new
breaks section.FlightTime672Hours history new = some_is_over (flat_map (spans_of Flight) history)
    (flat_map (spans_of Flight) new) 40_320 6_000
breaks section.FlightTime365Days history new =
    some_year_is_over (flat_map (spans_of Flight) history)
    (flat_map (spans_of Flight) new) 60_000
breaks section.FlightDutyPeriods168Hours history new =
    some_is_over (flat_map (spans_of FlightDuty) history) (flat_map (spans_of FlightDuty) new)
    10_080 3_600
breaks section.FlightDutyPeriods672Hours history new =
    some_is_over (flat_map (spans_of FlightDuty) history) (flat_map (spans_of FlightDuty) new)
    40_320 11_400
breaks section.ThirtyHourRest history new = some_lacks_rest rest.ThirtyHours history new
breaks section.TenHourRest history new = some_lacks_rest rest.TenHours history new

-- The test of a section's rule is true if and only if the rule is broken.
pub breaks_is : (s : Section) (history new : List DutyInForce) →
    IsTrue (breaks s history new) ↔ Rule s history new
unfolding breaks
breaks_is section.FlightTime history new = table_a_decides history new
breaks_is section.FlightDutyPeriod history new = table_b_decides history new
breaks_is section.FlightTime672Hours history new = sum_rule (flat_map (spans_of Flight) history)
    (flat_map (spans_of Flight) new) 40_320 6_000 (omega arith)
breaks_is section.FlightTime365Days history new = year_rule (flat_map (spans_of Flight) history)
    (flat_map (spans_of Flight) new) 60_000
breaks_is section.FlightDutyPeriods168Hours history new =
    sum_rule (flat_map (spans_of FlightDuty) history) (flat_map (spans_of FlightDuty) new)
    10_080 3_600 (omega arith)
breaks_is section.FlightDutyPeriods672Hours history new =
    sum_rule (flat_map (spans_of FlightDuty) history) (flat_map (spans_of FlightDuty) new)
    40_320 11_400 (omega arith)
breaks_is section.ThirtyHourRest history new = thirty_hours_decides history new
breaks_is section.TenHourRest history new = ten_hours_decides history new
