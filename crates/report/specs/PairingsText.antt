-- The pairings of a state as a text, a line each.
use Rattle.std.specs.Prelude.{◌≡◌, ℕ, ◌-◌, Bool, true, not, List, ◌∷◌, ◌++◌, map, length, codes}
use Rattle.std.specs.Prelude.{slice_get, if◌then◌else◌}
use Rattle.std.specs.Fmt.{decimal}
use Rattle.std.specs.FinMap as fin
use Rattle.std.specs.List.{filter, flat_map}
use Rattle.std.specs.List.Sorted.{IsPermutation, IsSorted}
use Rattle.std.specs.Option.{option_map_or}
use Rattle.values.specs.Name.{name_cmp}
use Rattle.request.specs.declared.subject.Listed.{Listed}
use Rattle.request.specs.declared.subject.Listed.TheVariants as listed
use Rattle.time117.specs.Instant.{written}
use Rattle.roster.specs.Pairings.{is_flown, is_fully_crewed, periods_in_force}
use Rattle.roster.specs.State.{State}
use Rattle.roster.specs.declared.state.PairingEntry.{PairingEntry}
use Rattle.report.specs.PairingText.{holder_text}
use Rattle.report.specs.declared.row.PairingRow.{PairingRow}

-- ---- The line of a pairing

-- The report of the first period of a pairing, which is period 1: the report of the period's
-- actual, if it has one, else the planned report. Without a period it is minute 0, but each pairing
-- of a sound state has a period.
abbrev pub first_report : PairingEntry → ℕ
first_report r = option_map_or (λ p. p.report) (slice_get (periods_in_force r) 0) 0

-- The release of the last period of a pairing, by the numbers of the periods: the release of the
-- period's actual, if it has one, else the planned release. Without a period it is minute 0, but
-- each pairing of a sound state has a period.
abbrev pub last_release : PairingEntry → ℕ
last_release r =
    let periods = periods_in_force r in
    option_map_or (λ p. p.release) (slice_get periods (length periods - 1)) 0

-- the word for whether some period of a pairing has an actual
abbrev pub flown_word : PairingEntry → List ℕ
flown_word r = if is_flown r then codes "flown" else codes "plan"

-- the line of a pairing: its id, its first report and last release, whether it is flown, and who
-- holds its seats, the captain's first
abbrev pub pairing_line : List ℕ × PairingEntry → List ℕ
pairing_line (id, r) =
    (id ++ codes " " ++ written (first_report r) ++ codes " " ++ written (last_release r))
    ++ (codes " " ++ flown_word r)
    ++ codes " " ++ holder_text r.captain ++ codes " " ++ holder_text r.first_officer ++ codes "\n"

-- ---- The rows

-- whether a pairing is listed: each pairing is among all pairings, and a pairing with a free seat
-- is among the open ones
abbrev pub is_listed : Listed → PairingEntry → Bool
is_listed listed.All r = true
is_listed listed.Open r = not (is_fully_crewed r)

-- a pairing as a row: its line, and the first report and the id, by which the row has its place
abbrev pub listed_row : List ℕ × PairingEntry → PairingRow
listed_row (id, r) = record { report = first_report r; id = id; line = pairing_line (id, r) }

-- the rows of the pairings of a state that are listed
abbrev pub listed_rows : State → (which : Listed) → List PairingRow
listed_rows s which =
    map listed_row (filter (λ entry. is_listed which entry.1) (fin.entries s.pairings))

-- what puts a row in its place: the first report, then the id in byte order
abbrev pub row_key : PairingRow → List ℕ
row_key row = row.report ∷ row.id

-- The sorted list has these rows and no others, in the order of first reports, and of ids where
-- first reports are equal.
pub record AreRowsInOrder (rows sorted : List PairingRow) : Type 0 where
  pub same : IsPermutation rows sorted
  pub order : IsSorted (λ a b. name_cmp (row_key a) (row_key b)) sorted

-- ---- The text

-- the first line of the text, with the number of the pairings that are listed
abbrev pub pairings_header : (count : ℕ) → List ℕ
pairings_header count = codes "PAIRINGS " ++ decimal count ++ codes "\n"

-- The text of a state's pairings, all pairings or the open ones: their number, and the line of each
-- pairing in turn, in the order of first reports, and of ids where first reports are equal.
pub record IsPairingsText (s : State) (which : Listed) (text : List ℕ) : Type 0 where
  pub rows : List PairingRow
  pub in_order : AreRowsInOrder (listed_rows s which) rows
  pub is : text ≡ pairings_header (length rows) ++ flat_map (λ row. row.line) rows
