-- What is read of one outside period, and what its records give.
use Rattle.std.specs.Prelude.{◌≡◌, ℕ, List, [], ◌∷◌, map, Option, None, Some, Result, IfErr, IfOk}
use Rattle.sqlite_value.specs.declared.value.Value.TheVariants.{Text}
use Rattle.sqlite.specs.Effect.{Database}
use Rattle.sqlite.specs.State as conn
use Rattle.sqlite.specs.State.{HasCleanDisk, IsUnchanged}
use Rattle.roster.specs.declared.state.OutsideEntry.{OutsideEntry}
use Rattle.tables.specs.Records.{outside_row, outside_segment_row}
use Rattle.tables.specs.Rows.{Finds, begins_with}
use Rattle.tables.specs.declared.outside.OutsideRecord.{OutsideRecord}
use Rattle.tables.specs.declared.outside_segment.OutsideSegmentRecord.{OutsideSegmentRecord}
use Rattle.state_rows.specs.Rows.{table, outside, outside_segment}
use Rattle.state_rows.specs.declared.fault.StoreFault.{StoreFault}
use Rattle.entries.specs.OneOutside.{IsOutsideToldBy}
use Rattle.lookup.specs.Plans.{IfSome}
use Rattle.lookup.specs.Reads.{IsCausedIfStore, Stays}
use Rattle.lookup.specs.declared.outside.OutsideRecords.{OutsideRecords}

-- just the records of one outside period in `outside` are found, and if there is any, those of its
-- segments in `outside_segment`
pub record FindsOutside (id : List ℕ) (db : Database) (rows : OutsideRecords) : Type 0 where
  pub periods : Finds (table outside) (begins_with (Text id ∷ [])) db
      (map outside_row rows.periods.items)
  pub segments : IfSome rows.periods.items
      (Finds (table outside_segment) (begins_with (Text id ∷ [])) db
      (map outside_segment_row rows.segments.items))

-- The records of one outside period are read. Nothing is changed, the records are just those of the
-- tables, and a fault of the store has a cause.
pub record ReadsOutside (id : List ℕ) (old new : conn.State)
    (result : Result OutsideRecords StoreFault) : Type 0 where
  pub stays : Stays old new
  pub told : HasCleanDisk new →
      IfOk result (λ rows. IsUnchanged old new × FindsOutside id old.now rows)
  pub caused : IfErr result (IsCausedIfStore old new)

-- the first of some records of `outside` gives this outside period, with its segments; where there
-- is no record of `outside`, there is no outside period
abbrev pub HasFirstOutside : List OutsideRecord → List OutsideSegmentRecord → Option OutsideEntry
    → Type 0
HasFirstOutside [] segments found = found ≡ None
HasFirstOutside (row ∷ rows) segments found =
    (o : OutsideEntry) × (found ≡ Some o) × IsOutsideToldBy row segments o

-- some records of `outside` name these outside periods
abbrev pub outside_ids_in : List OutsideRecord → List (List ℕ)
outside_ids_in records = map (λ row. row.id) records
