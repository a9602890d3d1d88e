-- The line of `rosterbook duty`: one flight duty period against Tables A and B.
use Rattle.std.specs.Prelude.{ℕ, Bool, true, false, List, [], ◌∷◌, ◌++◌, length, map, codes, nat_lt}
use Rattle.std.specs.Prelude.{not, ◌&&◌, if◌then◌else◌, Result, Ok, Err}
use Rattle.std.specs.Fmt.{decimal}
use Rattle.time117.specs.Instant.{read_instant}
use Rattle.time117.specs.Local.{is_zone_text, local_minute}
use Rattle.time117.specs.declared.minute.TimeFault.{TimeFault}
use Rattle.duty.specs.DutiesInForce.{fdp_times}
use Rattle.duty.specs.FdpTimes.{FdpTimes}
use Rattle.duty.specs.Minutes.{fdp_length, flight_time}
use Rattle.duty.specs.Pairings.{is_in_order, block_times}
use Rattle.duty.specs.declared.fdp.Fdp.{Fdp}
use Rattle.limits.specs.Tables.{table_a, table_b}
use Rattle.limits.specs.SectionText.{section_text}
use Rattle.limits.specs.declared.section.Section.TheVariants.{FlightTime, FlightDutyPeriod}
use Rattle.period_verdict.specs.FlightDuty.{is_block_time_count, fdp_of}
use Rattle.period_verdict.specs.Texts.{clock_text, hours_text}
use Rattle.period_verdict.specs.declared.verdict.TableVerdict.{TableVerdict}
use Rattle.period_verdict.specs.declared.verdict.Against.{Against}
use Rattle.period_verdict.specs.declared.verdict.TablesExceeded.{TablesExceeded}
use Rattle.period_verdict.specs.declared.fault.LineFault.{LineFault}
use Rattle.period_verdict.specs.declared.fault.LineFault.TheVariants.{Zone, Time, SegmentCount}
use Rattle.period_verdict.specs.declared.fault.LineFault.TheVariants.{BadTimes}

-- the verdict on a flight duty period: its minutes beside what Tables A and B give for the minute
-- of the day of its report
abbrev pub verdict : ℕ → FdpTimes → TableVerdict
verdict start fdp = record {
  start = start;
  segments = length fdp.segments;
  length = record { minutes = fdp_length fdp; limit = table_b start (length fdp.segments) };
  flight = record { minutes = flight_time fdp; limit = table_a start };
}

-- Which tables a flight duty period exceeds. 117.11(a)(1): its flight time is above what Table A
-- gives. 117.13(a): the period is longer than Table B gives.
abbrev pub outcome : TableVerdict → TablesExceeded
outcome v = record {
  is_over_flight_time = nat_lt v.flight.limit v.flight.minutes;
  is_over_length = nat_lt v.length.limit v.length.minutes;
}

-- whether a flight duty period exceeds neither Table A nor Table B
abbrev pub exceeds_no_table : TablesExceeded → Bool
exceeds_no_table o = not o.is_over_flight_time && not o.is_over_length

-- the end of the line of a verdict, by whether the flight time and whether the length is over
abbrev pub sections_text : Bool → Bool → List ℕ
sections_text false false = codes " within"
sections_text true false = codes " exceeds " ++ section_text FlightTime
sections_text false true = codes " exceeds " ++ section_text FlightDutyPeriod
sections_text true true =
    codes " exceeds " ++ section_text FlightTime ++ codes " " ++ section_text FlightDutyPeriod

-- which tables a flight duty period exceeds, as the end of a line prints it
unfoldable pub outcome_text : TablesExceeded → List ℕ
outcome_text o = sections_text o.is_over_flight_time o.is_over_length

-- minutes beside the limit that a table gives, as the two are printed
unfoldable pub against_text : Against → List ℕ
against_text a = hours_text a.minutes ++ codes " of " ++ hours_text a.limit

-- the text of the line of a verdict
unfoldable pub verdict_text : TableVerdict → List ℕ
verdict_text v =
    codes "report " ++ clock_text v.start ++ codes " segments " ++ decimal v.segments
    ++ codes " fdp " ++ against_text v.length ++ codes " flight " ++ against_text v.flight
    ++ outcome_text (outcome v)

-- the line of a verdict: its text, and whether the line ends in `within`
abbrev pub VerdictLine : Type 0
VerdictLine = List ℕ × Bool

-- the line that a verdict makes: its text, and whether no table is exceeded
abbrev pub line_of_verdict : TableVerdict → VerdictLine
line_of_verdict v = (verdict_text v, exceeds_no_table (outcome v))

-- Faults are looked for in this order: the zone, the report, each time in turn, the number of
-- times, the order of the times.

-- the line of a flight duty period, if its times are in order
abbrev pub line_of_fdp : List ℕ → Fdp → Result VerdictLine LineFault
line_of_fdp zone fdp =
    if not (is_in_order fdp.report fdp.release (map block_times fdp.segments)) then Err BadTimes
    else Ok (line_of_verdict (verdict (local_minute zone fdp.planned_report) (fdp_times zone fdp)))

-- the line of a report and times, if they are block-out and block-in of 1 to 12 segments
abbrev pub line_of_times : List ℕ → ℕ → List ℕ → Result VerdictLine LineFault
line_of_times zone report times =
    if not (is_block_time_count (length times)) then Err SegmentCount
    else line_of_fdp zone (fdp_of report times)

-- an instant and the instants that follow it, as one list, or the first fault
abbrev pub then_instant : Result ℕ TimeFault → Result (List ℕ) TimeFault → Result (List ℕ) TimeFault
then_instant (Err fault) rest = Err fault
then_instant (Ok time) (Err fault) = Err fault
then_instant (Ok time) (Ok times) = Ok (time ∷ times)

-- the instants that texts give in turn, or the fault of the first text that gives none
abbrev pub read_instants : List (List ℕ) → Result (List ℕ) TimeFault
read_instants [] = Ok []
read_instants (text ∷ texts) = then_instant (read_instant text) (read_instants texts)

-- the times of a line, or the fault of a time as the fault of the line
abbrev pub as_line_fault : Result (List ℕ) TimeFault → Result (List ℕ) LineFault
as_line_fault (Ok times) = Ok times
as_line_fault (Err fault) = Err (Time fault)

-- the line of a report and times that were read, or the fault of the first that wasn't read
abbrev pub line_of_read : List ℕ → Result ℕ TimeFault → Result (List ℕ) TimeFault →
    Result VerdictLine LineFault
line_of_read zone (Err fault) times = Err (Time fault)
line_of_read zone (Ok report) (Err fault) = Err (Time fault)
line_of_read zone (Ok report) (Ok times) = line_of_times zone report times

-- the line of the texts of `rosterbook duty`: a zone, a report and times
abbrev pub line_of : List ℕ → List ℕ → List (List ℕ) → Result VerdictLine LineFault
line_of zone report times =
    if is_zone_text zone then line_of_read zone (read_instant report) (read_instants times)
    else Err Zone
