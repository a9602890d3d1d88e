-- What the columns of a row of `exceedance` name.
use Rattle.std.specs.Prelude.{◌≡◌, ◌<◌, ◌≤◌, ⊤, IsUtf8, ℕ, List}
use Rattle.sqlite_value.specs.Order.{Row}
use Rattle.roster.specs.declared.state.DutyId.{DutyId}
use Rattle.roster.specs.declared.state.DutyId.TheVariants.{Period, Outside}
use Rattle.roster.specs.declared.state.ExceedanceId.{ExceedanceId}
use Rattle.state_rows.specs.Rows.{row_of_exceedance, named_id, named_number}

-- the number of a named period is above 0 and has eight bits, as that of each period of a pairing
-- has; nothing is asked of an outside period
abbrev pub IsInRange : DutyId → Type 0
IsInRange (Period p) = (1 ≤ p.number) × (p.number < 256)
IsInRange (Outside id) = ⊤

-- the columns `pairing` and `period` of `exceedance` name this duty: with 0 as the number an
-- outside period, and with a higher number a period of a pairing
pub record IsDutyOf (id : List ℕ) (number : ℕ) (named : DutyId) : Type 0 where
  pub same_id : named_id named ≡ id
  pub same_number : named_number named ≡ number
  pub in_range : IsInRange named
  pub utf8 : IsUtf8 id

-- an exceedance has this row in `exceedance`, with the duty that it names
abbrev pub row_of_recorded : ExceedanceId → DutyId → Row
row_of_recorded id named = row_of_exceedance id.key id.crew id.section named
