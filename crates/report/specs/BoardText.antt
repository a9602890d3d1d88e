-- The board of some days as a text.
use Rattle.std.specs.Prelude.{◌≡◌, ℕ, List, ◌++◌, map, length, codes}
use Rattle.std.specs.Fmt.{decimal}
use Rattle.std.specs.FinMap as fin
use Rattle.std.specs.List.{AllZip, concat, filter, flat_map}
use Rattle.request.specs.Days.{Days, day_text, meets}
use Rattle.command.specs.declared.member.Member.{Member}
use Rattle.roster.specs.State.{State}
use Rattle.report.specs.Board.{open_in}
use Rattle.report.specs.Lines.{AreLinesInOrder}
use Rattle.report.specs.PairingsText.{AreRowsInOrder, listed_row}
use Rattle.report.specs.RosterText.{lines_of, roster_header}
use Rattle.report.specs.declared.line.Line.{Line}
use Rattle.report.specs.declared.row.PairingRow.{PairingRow}

-- ---- A member

-- the lines of a member that meet the days
abbrev pub lines_in : Days → State → (who : List ℕ) → List Line
lines_in days s who = filter (λ line. meets days line.begin line.end) (lines_of s who)

-- The text of a member on the board: the first lines of the member's roster, and then the lines
-- that meet the days, in the order of a roster.
pub record IsMemberInDays (s : State) (days : Days) (entry : List ℕ × Member) (text : List ℕ)
    : Type 0 where
  pub lines : List Line
  pub in_order : AreLinesInOrder (lines_in days s entry.0) lines
  pub is : text ≡ roster_header entry.0 entry.1 ++ flat_map (λ line. line.text) lines

-- ---- The open pairings

-- the rows of the pairings with a free seat of which a period meets the days
abbrev pub open_rows : Days → State → List PairingRow
open_rows days s = map listed_row (open_in days s)

-- the line before the open pairings, with their number
abbrev pub open_header : (count : ℕ) → List ℕ
open_header count = codes "OPEN " ++ decimal count ++ codes "\n"

-- ---- The text

-- the first line of the text, with the first and the last day
abbrev pub board_header : Days → List ℕ
board_header days =
    codes "BOARD " ++ day_text days.first ++ codes " " ++ day_text days.last ++ codes "\n"

-- The text of the board of some days: the first line, the text of each member in turn, in byte
-- order of the ids, and the lines of the open pairings, in the order of first reports, and of ids
-- where first reports are equal.
pub record IsBoardText (s : State) (days : Days) (text : List ℕ) : Type 0 where
  pub members : List (List ℕ)
  pub are_members : AllZip (IsMemberInDays s days) (fin.entries s.crew) members
  pub rows : List PairingRow
  pub in_order : AreRowsInOrder (open_rows days s) rows
  pub is :
      text
      ≡ board_header days ++ concat members
      ++ open_header (length rows) ++ flat_map (λ row. row.line) rows

-- ---- As the program makes it

-- The text is that of all members in turn.
pub record IsMembersInDays (s : State) (days : Days) (text : List ℕ) : Type 0 where
  pub members : List (List ℕ)
  pub are_members : AllZip (IsMemberInDays s days) (fin.entries s.crew) members
  pub is : text ≡ concat members

-- The text is that of the open pairings: their number, and their lines in order.
pub record IsOpenInDays (s : State) (days : Days) (text : List ℕ) : Type 0 where
  pub rows : List PairingRow
  pub in_order : AreRowsInOrder (open_rows days s) rows
  pub is : text ≡ open_header (length rows) ++ flat_map (λ row. row.line) rows
