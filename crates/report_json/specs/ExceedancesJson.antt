-- The exceedances as JSON.
use Rattle.std.specs.Prelude.{◌≡◌, ℕ, List, [], ◌∷◌, map, codes}
use Rattle.std.specs.Fmt.{decimal}
use Rattle.serde_json.specs.Data.{Data, number, unsigned, string}
use Rattle.limits.specs.SectionText.{section_text}
use Rattle.roster.specs.State.{State}
use Rattle.roster.specs.declared.state.DutyId.TheVariants.{Period, Outside}
use Rattle.report.specs.ExceedanceText.{ExceedanceEntry, AreExceedanceRows}
use Rattle.stored_json.specs.Values.{object_of}
use Rattle.report_json.specs.Objects.{json_text, list_json}

-- the object of an exceedance: the request's number, as a text, and its part, the member, the
-- section, and the duty that the exceedance names
abbrev pub exceedance_row_json : ExceedanceEntry → Data
exceedance_row_json (id, Period p) =
    object_of ((codes "crew", string id.crew) ∷ (codes "kind", string (codes "pairing"))
    ∷ (codes "number", string (decimal id.key.number)) ∷ (codes "pairing", string p.pairing)
    ∷ (codes "part", number (unsigned id.key.part))
    ∷ (codes "period", number (unsigned p.number))
    ∷ (codes "section", string (section_text id.section)) ∷ [])
exceedance_row_json (id, Outside outside) =
    object_of ((codes "crew", string id.crew) ∷ (codes "kind", string (codes "outside"))
    ∷ (codes "number", string (decimal id.key.number)) ∷ (codes "outside", string outside)
    ∷ (codes "part", number (unsigned id.key.part))
    ∷ (codes "section", string (section_text id.section)) ∷ [])

-- the object of these exceedances
abbrev pub exceedances_of_json : List ExceedanceEntry → Data
exceedances_of_json rows = list_json (codes "exceedances") (map exceedance_row_json rows)

-- The value is that of a state's exceedances.
pub record IsExceedancesValue (s : State) (value : Data) : Type 0 where
  pub rows : List ExceedanceEntry
  pub are : AreExceedanceRows s rows
  pub is : value ≡ exceedances_of_json rows

-- The text is that of the value of a state's exceedances.
pub record IsExceedancesJson (s : State) (text : List ℕ) : Type 0 where
  pub value : Data
  pub of_state : IsExceedancesValue s value
  pub is : text ≡ json_text value

-- ---- As the program makes it

-- The values are the objects of a state's exceedances, in their order.
pub record AreExceedanceValues (s : State) (values : List Data) : Type 0 where
  pub rows : List ExceedanceEntry
  pub are : AreExceedanceRows s rows
  pub is : values ≡ map exceedance_row_json rows
