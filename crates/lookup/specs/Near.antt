-- Which pairings of a member are near some spans, by the records of their periods.
use Rattle.std.specs.Prelude.{◌≡◌, ◌↔◌, ℕ, Bool, true, List, [], ◌∷◌, filter, map, slice_get}
use Rattle.std.specs.Prelude.{unwrap_or, Some, Result, IfErr, IfOk, IsTrue, OnOk}
use Rattle.std.specs.FinMap as fin
use Rattle.std.specs.List.{Contains}
use Rattle.std.specs.List.Sorted.{IsSortedBy}
use Rattle.std.specs.Ordering.{is_lt}
use Rattle.std.specs.Str.{bytes_eq}
use Rattle.values.specs.Name.{name_cmp}
use Rattle.sqlite_rules.specs.Lists.{Has}
use Rattle.sqlite_value.specs.declared.value.Value.TheVariants.{Text}
use Rattle.sqlite_value.specs.Order.{Row}
use Rattle.sqlite.specs.State as conn
use Rattle.sqlite.specs.State.{HasCleanDisk, IsUnchanged}
use Rattle.duty.specs.declared.span.Span.{Span}
use Rattle.limits.specs.Reach.{is_reached}
use Rattle.roster.specs.Near.{AreThere, ids_of, with_free_seats}
use Rattle.roster.specs.State.{State}
use Rattle.roster.specs.declared.state.PairingEntry.{PairingEntry}
use Rattle.tables.specs.Held.{FindsHeld}
use Rattle.tables.specs.Records.{period_row}
use Rattle.tables.specs.Rows.{begins_with}
use Rattle.tables.specs.declared.period.PeriodRecord.{PeriodRecord}
use Rattle.state_rows.specs.Rows.{InPeriod}
use Rattle.state_rows.specs.declared.fault.StoreFault.{StoreFault}
use Rattle.entries.specs.Keyed.{AtInstants}
use Rattle.lookup.specs.Reads.{IsCausedIfStore, IsOpen, Shows, Stays}

-- The periods of the pairings that a member holds are read. Nothing is changed, the rows are just
-- those of the tables, and a fault of the store has a cause.
pub record ReadsHeld {A : Type 0} (who : List ℕ) (rows : A → List Row) (old new : conn.State)
    (result : Result A StoreFault) : Type 0 where
  pub stays : Stays old new
  pub told : HasCleanDisk new →
      IfOk result (λ a. IsUnchanged old new × FindsHeld who old.now (rows a))
  pub caused : IfErr result (IsCausedIfStore old new)

-- a record of `period` has these times, from report to release as it was flown or else planned
abbrev pub times_in_force : PeriodRecord → Span
times_in_force it = record {
  from = unwrap_or it.act_report it.report_at;
  to = unwrap_or it.act_release it.release_at;
}

-- a window may have a minute of one of the spans and of the period with this record
abbrev pub is_period_near : List Span → PeriodRecord → Bool
is_period_near spans it = is_reached spans (times_in_force it)

-- the ids of the pairings of the periods that are near some spans
abbrev pub ids_near : List Span → List PeriodRecord → List (List ℕ)
ids_near spans records = map (λ it. it.pairing) (filter (is_period_near spans) records)

-- some record of `period` has a time that is no instant
abbrev pub HasNoInstants : List PeriodRecord → Type 0
HasNoInstants records =
    (i : ℕ) × (it : PeriodRecord) × (slice_get records i ≡ Some it) × (AtInstants it → ⊥)

-- ---- The pairings of some ids, by the records of their periods

-- some records of `period` stand in the order of their pairings
abbrev pub AreByPairing : List PeriodRecord → Type 0
AreByPairing records = IsSortedBy (λ a b. is_lt (name_cmp a.pairing b.pairing)) records

-- the records of one pairing among some
abbrev pub records_of : List ℕ → List PeriodRecord → List PeriodRecord
records_of id records = filter (λ it. bytes_eq it.pairing id) records

-- The state has a pairing under this id, and some records of `period` are just those of its
-- periods, in any order; one may be there more than once.
pub record HasPeriodRows (s : State) (id : List ℕ) (periods : List PeriodRecord) : Type 0 where
  pub pairing : PairingEntry
  pub there : fin.get s.pairings id ≡ Some pairing
  pub rows : (row : Row) → Has (map period_row periods) row
      ↔ (InPeriod s row × (begins_with (Text id ∷ []) row ≡ true))

-- the state has a pairing under each of these ids, with just the periods that some records tell
abbrev pub HavePeriodRows : State → List (List ℕ) → List PeriodRecord → Type 0
HavePeriodRows s ids records =
    (id : List ℕ) → Contains ids id → HasPeriodRows s id (records_of id records)

-- a pairing is the state's under this id, but with its seats free
pub record IsWithoutHolders (s : State) (id : List ℕ) (free : PairingEntry) : Type 0 where
  pub named : free.plan.id ≡ id
  pub pairing : PairingEntry
  pub there : fin.get s.pairings id ≡ Some pairing
  pub same : free ≡ with_free_seats pairing

-- pairings are the state's under these ids, one for each, but with their seats free
abbrev pub AreWithoutHolders : State → List (List ℕ) → List PairingEntry → Type 0
AreWithoutHolders s ids found = (ids_of found ≡ ids) × AreThere s found

-- these pairings are the state's, each under its id, but for who holds them
abbrev pub AreKnownSo : State → fin.FinMap name_cmp PairingEntry → Type 0
AreKnownSo s known = (id : List ℕ) (some : PairingEntry) → fin.get known id ≡ Some some →
    (r : PairingEntry) × (fin.get s.pairings id ≡ Some r)
    × (with_free_seats some ≡ with_free_seats r)

-- Entries are read of which some records are at hand. Nothing is changed. Where those are the
-- records of the state that is shown, the answer is what that state has, and a fault of the store
-- has a cause.
pub record ReadsKnown {A : Type 0} (AreKnown : State → Type 0) (Is : State → A → Type 0)
    (old new : conn.State) (result : Result A StoreFault) : Type 0 where
  pub stays : Stays old new
  pub opened : OnOk result (IsTrue old.is_open → IsOpen new)
  pub told : HasCleanDisk new → (s : State) → Shows old s → AreKnown s → IfOk result (Is s)
  pub caused : IfErr result
      (λ fault. (s : State) → Shows old s → AreKnown s → IsCausedIfStore old new fault)
