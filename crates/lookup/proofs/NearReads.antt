-- What a read of the periods of a member's pairings says.
use Rattle.std.proofs.Common.{◌≡◌, refl, sym, ◌∙◌, ℕ, List, [], Result, Ok, Err, IsTrue}
use Rattle.sqlite_value.specs.Order.{Row}
use Rattle.sqlite.specs.Effect.{Database}
use Rattle.sqlite.specs.State.{State, HasCleanDisk}
use Rattle.tables.specs.Calls.{CrashLeavesNoMore, HasStepLimit, ReadAs}
use Rattle.tables.specs.Held.{FindsHeld, HasNoHeldRecord}
use Rattle.tables.specs.Records.{IsPeriodRow}
use Rattle.tables.specs.Rows.{begins_with}
use Rattle.tables.specs.declared.table_fault.TableFault.{TableFault}
use Rattle.state_rows.specs.Faults.{store_fault_of}
use Rattle.state_rows.specs.Outcomes.{IsOutside}
use Rattle.state_rows.specs.Rows.{outside_segment, period}
use Rattle.state_rows.specs.declared.fault.StoreFault.{StoreFault}
use Rattle.entries.specs.Right.{AreRight}
use Rattle.lookup.specs.Near.{ReadsHeld}
use Rattle.lookup.proofs.Causes.{read_cause}
use Rattle.lookup.proofs.ReadLemmas.{stays}
use Rattle.lookup.proofs.RightRows.{records_of}

-- ---- The periods of a member's pairings

no_record : (who : List ℕ) (db : Database) → HasNoHeldRecord who IsPeriodRow db → AreRight outside_segment db → ⊥
no_record who db x = records_of period db (begins_with []) (x.1, x.3, refl, x.5)

module _ {A : Type 0} (who : List ℕ) (rows : A → List Row) (old new : State)
    (left : CrashLeavesNoMore old new) (outside : IsOutside old) (same : HasCleanDisk old → IsTrue old.is_open → old.now ≡ old.committed) where
  abbrev FindsThem : Database → A → Type 0
  FindsThem db found = FindsHeld who db (rows found)

  abbrev IsRead : Result A TableFault → Type 0
  IsRead = ReadAs FindsThem (HasNoHeldRecord who IsPeriodRow) (HasStepLimit old) old new

  pub was_read : (a : A) → IsRead (Ok a) → ReadsHeld who rows old new (Ok a)
  was_read a read = record {
    stays = stays FindsThem (HasNoHeldRecord who IsPeriodRow) (HasStepLimit old) old new left outside same (Ok a) read;
    told = λ clean. ((read clean).1, (read clean).0);
    caused = tt;
  }

  pub not_read : (fault : TableFault) (told : StoreFault) → IsRead (Err fault) → told ≡ store_fault_of fault → ReadsHeld who rows old new (Err told)
  not_read fault told read of_fault = record {
    stays = stays FindsThem (HasNoHeldRecord who IsPeriodRow) (HasStepLimit old) old new left outside same (Err fault) read;
    told = λ clean. tt;
    caused = λ clean is. read_cause FindsThem (HasNoHeldRecord who IsPeriodRow) old new fault (no_record who old.now) read clean (sym of_fault ∙ is);
  }
