-- The exceedances as a text.
use Rattle.std.specs.Prelude.{◌≡◌, ℕ, List, ◌++◌, length, codes}
use Rattle.std.specs.Fmt.{decimal}
use Rattle.std.specs.FinMap as fin
use Rattle.std.specs.List.{flat_map}
use Rattle.values.specs.Name.{named_rows}
use Rattle.limits.specs.SectionText.{section_text}
use Rattle.roster.specs.State.{State, exceedance_name}
use Rattle.roster.specs.declared.state.ExceedanceId.{ExceedanceId}
use Rattle.roster.specs.declared.state.PeriodId.{PeriodId}
use Rattle.roster.specs.declared.state.DutyId.{DutyId}
use Rattle.roster.specs.declared.state.DutyId.TheVariants.{Period, Outside}

-- an exceedance, and the duty that the exceedance names, in which a limit was exceeded
abbrev pub ExceedanceEntry : Type 0
ExceedanceEntry = ExceedanceId × DutyId

-- the first line of the text, with the number of exceedances
abbrev pub exceedances_header : ℕ → List ℕ
exceedances_header count = codes "EXCEEDANCES " ++ decimal count ++ codes "\n"

-- a period of a pairing as it is printed: the pairing's id and the period's number
abbrev pub period_text : PeriodId → List ℕ
period_text p = p.pairing ++ codes "/" ++ decimal p.number

-- an outside period as it is printed: the word `outside` and its id
abbrev pub outside_text : List ℕ → List ℕ
outside_text id = codes "outside " ++ id

-- the duty that an exceedance names as it is printed: a period of a pairing, or an outside period
abbrev pub duty_text : DutyId → List ℕ
duty_text (Period p) = period_text p
duty_text (Outside id) = outside_text id

-- the line of an exceedance: the number of the command, the member, the section, and the duty that
-- the exceedance names
abbrev pub line : ExceedanceEntry → List ℕ
line (id, named) =
    (decimal id.key.number ++ codes " " ++ id.crew)
    ++ (codes " " ++ section_text id.section)
    ++ codes " " ++ duty_text named ++ codes "\n"

-- The rows are the state's exceedances, in the order of their names: number, part, member, section.
abbrev pub AreExceedanceRows : State → List ExceedanceEntry → Type 0
AreExceedanceRows s rows =
    named_rows (λ id. exceedance_name id.key id.crew id.section) rows ≡ fin.entries s.exceedances

-- The text of a state's exceedances: their number, and the line of each exceedance in turn.
pub record IsExceedanceText (s : State) (text : List ℕ) : Type 0 where
  pub rows : List ExceedanceEntry
  pub are : AreExceedanceRows s rows
  pub is : text ≡ exceedances_header (length rows) ++ flat_map line rows
