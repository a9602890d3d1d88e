-- What is read of one member, and what the member's records give.
use Rattle.std.specs.Prelude.{◌≡◌, ℕ, List, [], ◌∷◌, map, Option, None, Some, Result, IfErr, IfOk}
use Rattle.sqlite_value.specs.declared.value.Value.TheVariants.{Text}
use Rattle.sqlite.specs.Effect.{Database}
use Rattle.sqlite.specs.State as conn
use Rattle.sqlite.specs.State.{HasCleanDisk, IsUnchanged}
use Rattle.command.specs.declared.member.Member.{Member}
use Rattle.tables.specs.Records.{crew_base_row, crew_row}
use Rattle.tables.specs.Rows.{Finds, begins_with}
use Rattle.tables.specs.declared.crew.CrewRecord.{CrewRecord}
use Rattle.tables.specs.declared.crew_base.CrewBaseRecord.{CrewBaseRecord}
use Rattle.state_rows.specs.Rows.{table, crew, crew_base, seat_number}
use Rattle.state_rows.specs.declared.fault.StoreFault.{StoreFault}
use Rattle.lookup.specs.Plans.{IfSome}
use Rattle.lookup.specs.Reads.{IsCausedIfStore, Stays}
use Rattle.lookup.specs.declared.member.MemberRecords.{MemberRecords}

-- just the records of one member in `crew` are found, and if there is any, those of the member's
-- base in `crew_base`
pub record FindsMember (id : List ℕ) (db : Database) (rows : MemberRecords) : Type 0 where
  pub crew : Finds (table crew) (begins_with (Text id ∷ [])) db (map crew_row rows.crew.items)
  pub bases : IfSome rows.crew.items
      (Finds (table crew_base) (begins_with (Text id ∷ [])) db
      (map crew_base_row rows.bases.items))

-- The records of one member are read. Nothing is changed, the records are just those of the tables,
-- and a fault of the store has a cause.
pub record ReadsMember (id : List ℕ) (old new : conn.State)
    (result : Result MemberRecords StoreFault) : Type 0 where
  pub stays : Stays old new
  pub told : HasCleanDisk new →
      IfOk result (λ rows. IsUnchanged old new × FindsMember id old.now rows)
  pub caused : IfErr result (IsCausedIfStore old new)

-- a member has the seat and the name of this record of `crew`, and the base of this record of
-- `crew_base`
pub record HasColumns (row : CrewRecord) (its : CrewBaseRecord) (m : Member) : Type 0 where
  pub seat : seat_number m.seat ≡ row.seat
  pub name : m.name ≡ row.name
  pub base : m.base ≡ its.base

-- The first of some records of `crew` gives this member, with the base of the first of some records
-- of `crew_base`, which is there. Where there is no record of `crew`, there is no member.
abbrev pub HasFirst : List CrewRecord → List CrewBaseRecord → Option Member → Type 0
HasFirst [] bases found = found ≡ None
HasFirst (row ∷ rows) [] found = ⊥
HasFirst (row ∷ rows) (its ∷ bases) found = (m : Member) × (found ≡ Some m) × HasColumns row its m
