-- A member's roster as a text.
use Rattle.std.specs.Prelude.{◌≡◌, ℕ, List, [], ◌++◌, map, codes, Some, if◌then◌else◌}
use Rattle.std.specs.Fmt.{decimal}
use Rattle.std.specs.FinMap as fin
use Rattle.std.specs.List.{filter, flat_map, enumerate_from}
use Rattle.std.specs.Str.{bytes_eq}
use Rattle.time117.specs.Instant.{written}
use Rattle.duty.specs.DutiesInForce.{outside_times}
use Rattle.duty.specs.Minutes.{fdp_length, flight_time}
use Rattle.duty.specs.Plans.{GroundPlan}
use Rattle.duty.specs.Shape.{home}
use Rattle.command.specs.Texts.{seat_text}
use Rattle.command.specs.declared.member.Member.{Member}
use Rattle.roster.specs.Pairings.{holds}
use Rattle.roster.specs.State.{State}
use Rattle.roster.specs.declared.state.OutsideEntry.{OutsideEntry}
use Rattle.roster.specs.declared.state.PairingEntry.{PairingEntry}
use Rattle.period_verdict.specs.Texts.{hours_text}
use Rattle.report.specs.Lines.{AreLinesInOrder}
use Rattle.report.specs.Periods.{pairing_periods, times_word, length_to_last_block_in, flight_time_of}
use Rattle.report.specs.declared.line.Line.{Line}
use Rattle.report.specs.declared.line.LinePlace.TheVariants.{Period, Ground, Outside}
use Rattle.report.specs.declared.periods.PeriodInForce.{PeriodInForce}

-- ---- The lines

-- the two times between which a duty lies, as they are printed
abbrev pub span_text : ℕ → ℕ → List ℕ
span_text begin end = written begin ++ codes " " ++ written end

-- the end of the line of a period: the period's length and its flight time, each in hours and
-- minutes
abbrev pub lengths_text : ℕ → ℕ → List ℕ
lengths_text length flight =
    codes " fdp " ++ hours_text length ++ codes " flight " ++ hours_text flight ++ codes "\n"

-- the line of a period of a pairing; the line runs from the period's report to its release
abbrev pub roster_period_line : List ℕ → ℕ × PeriodInForce → Line
roster_period_line id (number, p) = record {
  begin = p.fdp.report;
  end = p.fdp.release;
  place = Period id number;
  text = span_text p.fdp.report p.fdp.release
      ++ (codes " pairing " ++ id ++ codes "/" ++ decimal number ++ codes " " ++ times_word p)
      ++ lengths_text (length_to_last_block_in p.fdp) (flight_time_of p.fdp);
}

-- the line of a ground duty
abbrev pub ground_line : List ℕ × GroundPlan → Line
ground_line (id, g) = record {
  begin = g.begin;
  end = g.end;
  place = Ground id;
  text = span_text g.begin g.end ++ codes " ground " ++ id ++ codes " " ++ g.task ++ codes "\n";
}

-- the line of an outside period; the line runs from the period's report to its release
abbrev pub outside_line : List ℕ × OutsideEntry → Line
outside_line (id, o) = record {
  begin = o.period.report;
  end = o.period.release;
  place = Outside id;
  text = span_text o.period.report o.period.release ++ (codes " outside " ++ id)
      ++ lengths_text (fdp_length (outside_times o.period)) (flight_time (outside_times o.period));
}

-- ---- A member's lines

-- the lines of a pairing's periods in turn
abbrev pub roster_period_lines : List ℕ × PairingEntry → List Line
roster_period_lines (id, r) = map (roster_period_line id) (enumerate_from 1 (pairing_periods r))

-- the lines of a member's ground duties
abbrev pub ground_lines : State → List ℕ → List Line
ground_lines s who =
    map ground_line (filter (λ row. bytes_eq row.1.crew who) (fin.entries s.grounds))

-- the lines of a member's outside periods
abbrev pub outside_lines : State → List ℕ → List Line
outside_lines s who =
    map outside_line (filter (λ row. bytes_eq row.1.crew who) (fin.entries s.outsides))

-- the lines of a member: the periods of the pairings that the member holds, the member's ground
-- duties, and the member's outside periods
abbrev pub lines_of : State → List ℕ → List Line
lines_of s who =
    flat_map roster_period_lines (filter (λ row. holds who row.1) (fin.entries s.pairings))
    ++ ground_lines s who ++ outside_lines s who

-- ---- The text

-- the line of the base that a member belongs to, or nothing if the base is HOME
abbrev pub base_line : List ℕ → List ℕ
base_line base = if bytes_eq base home then [] else codes "base " ++ base ++ codes "\n"

-- the first line of a roster, with the member's id, seat and name, and then the line of the base,
-- if the base isn't HOME
abbrev pub roster_header : List ℕ → Member → List ℕ
roster_header who member =
    codes "ROSTER " ++ who ++ codes " " ++ seat_text member.seat ++ codes " " ++ member.name
    ++ codes "\n" ++ base_line member.base

-- The roster text of this member: the first line, and then the member's lines in their order.
pub record IsMemberText (s : State) (who : List ℕ) (member : Member) (text : List ℕ) : Type 0 where
  pub lines : List Line
  pub in_order : AreLinesInOrder (lines_of s who) lines
  pub is : text ≡ roster_header who member ++ flat_map (λ line. line.text) lines

-- The roster text of the member with this id, who is in the state.
pub record IsRosterText (s : State) (who text : List ℕ) : Type 0 where
  pub member : Member
  pub is_there : fin.get s.crew who ≡ Some member
  pub told : IsMemberText s who member text
