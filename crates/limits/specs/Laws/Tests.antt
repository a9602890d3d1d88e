-- The tests that the limits are computed by.
use Rattle.std.specs.Prelude.{ℕ, ◌-◌, Bool, false, not, pos, ◌-ℤ◌, ◌&&◌, ◌||◌, nat_lt, List, length}
use Rattle.std.specs.List.{list_any, flat_map, sum_by}
use Rattle.std.specs.Option.{option_map_or}
use Rattle.duty.specs.declared.duty_in_force.DutyInForce.{DutyInForce}
use Rattle.duty.specs.declared.duty_in_force.DutyInForce.TheVariants.{Fdp, Ground}
use Rattle.duty.specs.declared.kind.Kind.TheVariants.{Duty}
use Rattle.duty.specs.Minutes.{spans_of, last_in, minutes_in}
use Rattle.duty.proofs.FreeRuns.{free_run_test}
use Rattle.limits.specs.declared.rest_limits.Rest.{Rest}
use Rattle.limits.specs.declared.rest_limits.Rest.TheVariants.{TenHours, ThirtyHours}
use Rattle.limits.specs.Tables.{table_a, table_b}
use Rattle.limits.specs.Laws.Windows.{reaches}

-- whether a duty is a flight duty period that enters Table A and has more flight time than the
-- table gives
abbrev pub is_over_table_a : DutyInForce → Bool
is_over_table_a (Fdp fdp) =
    option_map_or (λ start. nat_lt (table_a start)
    (sum_by (λ segment. segment.to - segment.from) fdp.segments)) fdp.start false
is_over_table_a (Ground _) = false

-- whether a duty is a flight duty period that enters Table B and is longer than the table gives
abbrev pub is_over_table_b : DutyInForce → Bool
is_over_table_b (Fdp fdp) =
    option_map_or (λ start. nat_lt (table_b start (length fdp.segments))
    (last_in fdp.report fdp.segments - fdp.report)) fdp.start false
is_over_table_b (Ground _) = false

-- whether the `width` minutes before `end` meet a duty minute of the history
abbrev pub is_on_duty_before : List DutyInForce → ℕ → ℕ → Bool
is_on_duty_before history end width =
    list_any (reaches end width) (flat_map (spans_of Duty) history)

-- how many minutes before a report a rest is looked for in
abbrev pub look_width : Rest → ℕ
look_width TenHours = 600
look_width ThirtyHours = 10_080

-- whether the minutes before the report do not have the rest
abbrev pub lacks_rest : Rest → List DutyInForce → ℕ → Bool
lacks_rest TenHours history report = is_on_duty_before history report 600
lacks_rest ThirtyHours history report = not (free_run_test (minutes_in Duty history)
    (pos report -ℤ pos 10_080) 10_080 1_800)

-- a test of a report, as a test of a duty: a ground duty doesn't pass
abbrev pub by_report : (ℕ → Bool) → DutyInForce → Bool
by_report test (Fdp fdp) = test fdp.report
by_report test (Ground _) = false

-- whether the minutes that are looked back at from a report meet a new duty, and lack the rest
abbrev pub is_spoilt : Rest → List DutyInForce → List DutyInForce → ℕ → Bool
is_spoilt rest history new report =
    is_on_duty_before new report (look_width rest) && lacks_rest rest history report

-- whether the report of a new duty lacks the rest, or a report of the history lacks the rest and
-- looks back at a new duty
abbrev pub some_lacks_rest : Rest → List DutyInForce → List DutyInForce → Bool
some_lacks_rest rest history new = list_any (by_report (lacks_rest rest history)) new ||
    list_any (by_report (is_spoilt rest history new)) history
