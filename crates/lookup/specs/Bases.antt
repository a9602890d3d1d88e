-- What is read of the bases.
use Rattle.std.specs.Prelude.{◌≡◌, ⊤, ℕ, true, List, ◌∷◌, map, take, Some, slice_get}
use Rattle.sqlite_rules.specs.Lists.{Has}
use Rattle.time117.specs.Local.{is_zone_text}
use Rattle.duty.specs.Shape.{home}
use Rattle.roster.specs.Bases.{Bases}
use Rattle.tables.specs.Records.{base_row}
use Rattle.tables.specs.declared.base.BaseRecord.{BaseRecord}
use Rattle.entries.specs.Mapping.{AreOnce, Mapped}
use Rattle.state_rows.specs.Rows.{row_of_base}

-- a book may have these records of bases: one is of HOME, and the zone of each is a rule text
pub record AreOfBases (records : List BaseRecord) : Type 0 where
  pub place : ℕ
  pub of_home : BaseRecord
  pub here : slice_get records place ≡ Some of_home
  pub named : of_home.id ≡ home
  pub zones : (i : ℕ) (it : BaseRecord) → slice_get records i ≡ Some it →
      is_zone_text it.zone ≡ true

-- the map has the base HOME, as one of the records of `base` gives it, and the bases of this many
-- first records, by their ids
pub record AreFirstBases (records : List BaseRecord) (count : ℕ) (bases : Bases) : Type 0 where
  pub zone : List ℕ
  pub of_home : Has (map base_row records) (row_of_base home zone)
  pub mapped : AreOnce row_of_base (map base_row records) →
      Mapped (λ id. id) row_of_base (λ id its_zone. ⊤)
      (row_of_base home zone ∷ take count (map base_row records)) bases
