-- A pairing as a text.
use Rattle.std.specs.Prelude.{ℕ, List, ◌++◌, codes, Option, Some, None}
use Rattle.std.specs.Fmt.{decimal}
use Rattle.std.specs.FinMap as fin
use Rattle.std.specs.List.{flat_map, enumerate_from}
use Rattle.std.specs.Option.{option_map}
use Rattle.time117.specs.Instant.{written}
use Rattle.duty.specs.declared.segment.Segment.{Segment}
use Rattle.roster.specs.State.{State}
use Rattle.roster.specs.declared.state.PairingEntry.{PairingEntry}
use Rattle.report.specs.Periods.{pairing_periods, times_word}
use Rattle.report.specs.declared.periods.PeriodInForce.{PeriodInForce}

-- who holds a seat, or a dash
abbrev pub holder_text : Option (List ℕ) → List ℕ
holder_text None = codes "-"
holder_text (Some crew) = crew

-- the line of a seat: its name and its holder
abbrev pub seat_line : List ℕ → Option (List ℕ) → List ℕ
seat_line seat holder = seat ++ codes " " ++ holder_text holder ++ codes "\n"

-- the line of a period: its number, whether it is planned or flown, and its times in force
abbrev pub pairing_period_line : ℕ → PeriodInForce → List ℕ
pairing_period_line number p =
    (decimal number ++ codes " " ++ times_word p)
    ++ codes " report " ++ written p.fdp.report ++ codes " release " ++ written p.fdp.release
    ++ codes "\n"

-- the line of a segment: period and number, flight, airports and times
abbrev pub segment_line : ℕ → ℕ × Segment → List ℕ
segment_line period (number, s) =
    (decimal period ++ codes "." ++ decimal number ++ codes " " ++ s.flight)
    ++ (codes " " ++ s.from ++ codes " " ++ written s.block_out)
    ++ codes " " ++ s.to ++ codes " " ++ written s.block_in ++ codes "\n"

-- the lines of a period: the period's own line, and the lines of its segments in turn
abbrev pub pairing_period_lines : ℕ × PeriodInForce → List ℕ
pairing_period_lines (number, p) =
    pairing_period_line number p
    ++ flat_map (segment_line number) (enumerate_from 1 p.fdp.segments)

-- the lines of a pairing's periods in turn, each period with its segments
abbrev pub lines_of_periods : PairingEntry → List ℕ
lines_of_periods r = flat_map pairing_period_lines (enumerate_from 1 (pairing_periods r))

-- the lines of a pairing: its id, its two seats, its periods
abbrev pub pairing_lines : List ℕ → PairingEntry → List ℕ
pairing_lines id r =
    (codes "PAIRING " ++ id ++ codes "\n")
    ++ seat_line (codes "captain") r.captain
    ++ seat_line (codes "first officer") r.first_officer
    ++ lines_of_periods r

-- the text of the pairing with this id, if there is one
abbrev pub pairing_text : State → List ℕ → Option (List ℕ)
pairing_text s id = option_map (pairing_lines id) (fin.get s.pairings id)
