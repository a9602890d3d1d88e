-- What a table says when it is read whole.
use Rattle.std.proofs.Common.{◌≡◌, ◌⊎◌, ◌↔◌, inl, inr, refl, sym, ap, subst, ◌∙◌, arith, List, [], ◌∷◌, filter, IsPermutation, Result, Ok, Err, IfErr, MatchResult, OnOk}
use Rattle.std.proofs.lemmas.List.Sorted.{IsPermutation-sym}
use Rattle.sqlite_value.specs.Order.{Row}
use Rattle.sqlite_rules.specs.Lists.{Has}
use Rattle.sqlite.specs.Effect.{Database, IsDatabase}
use Rattle.sqlite.specs.State.{State, HasCause, HasCleanDisk, IsLive, store_error}
use Rattle.sqlite_trees.specs.declared.error.StoreError.{StoreError}
use Rattle.sqlite_trees.specs.declared.error.StoreError.TheVariants as cause
use Rattle.tables.proofs.Answering.{has_permuted}
use Rattle.tables.proofs.Stopping.{some_fault}
use Rattle.tables.specs.Calls.{CrashLeavesNoMore, Failed, HasStepLimit, IsInOrder, Loaded}
use Rattle.tables.specs.Faults.{table_fault_of}
use Rattle.tables.specs.Rows.{rows_of, Finds, begins_with}
use Rattle.tables.specs.Schema.{BookTable, IsOfBook}
use Rattle.tables.specs.declared.table_fault.TableFault.{TableFault}
use Rattle.tables.specs.declared.table_fault.TableFault.TheVariants as table_fault
use Rattle.entries.specs.Faults.{load_fault_of, Blames}
use Rattle.loading.specs.Loading.{HasReadCause, IsCaused, IsDamaged, Justifies, state_table}
use Rattle.loading.specs.Reading.{ReadsAs, HasRows, IsUnreadable, BlamesOrFails}
use Rattle.state_rows.specs.Rows.{StateTable, table}
use Rattle.entries.specs.declared.fault.LoadFault.{LoadFault}
use Rattle.entries.specs.declared.fault.LoadFault.TheVariants.{NotABook, Version, Damaged, Fault}
use Rattle.state_rows.specs.declared.fault.StoreFault.{StoreFault}
use Rattle.state_rows.specs.declared.fault.StoreFault.TheVariants.{Memory, Store}
use Rattle.entries.specs.declared.fault.TableName as name
use Rattle.state_rows.proofs.Outcomes.{clean_before}

pub nothing_left : (s : State) → CrashLeavesNoMore s s
nothing_left s = record {
  clean = omega arith;
  shield = λ h. h;
  counts = omega arith;
  limit = refl;
  closes = λ _ h. inl h;
  crash = λ _ _ h. inl h;
}

all_kept : (xs : List Row) → filter (begins_with []) xs ≡ xs
all_kept [] = refl
all_kept (x ∷ xs) = ap (λ l. x ∷ l) (all_kept xs)

found_all : (it : BookTable) (db : Database) (found : List Row) → Finds it (begins_with []) db found → (row : Row) → Has (rows_of it db) row ↔ Has found row
found_all it db found finds row =
    let same : IsPermutation (rows_of it db) found = subst (λ l. IsPermutation l found) (all_kept (rows_of it db)) finds in
    (has_permuted (rows_of it db) found row same, has_permuted found (rows_of it db) row (IsPermutation-sym _ _ same))

-- what a call says that reads the whole of a table
abbrev pub Told : {A : Type 0} → StateTable → name.TableName → (Row → Type 0) → (A → List Row) → State → State → Result A LoadFault → Type 0
Told it its IsRecord rows old new result =
    ReadsAs (λ found. HasRows it old.now (rows found)) (BlamesOrFails its (IsUnreadable it IsRecord old.now)) old new result

-- ---- Why a read failed

failed_for : (old new : State) (why : StoreError) → HasCause old new ⊥ why → table_fault_of (store_error why) ≡ table_fault.Store → HasReadCause old new
failed_for old new cause.OutOfMemory h is = absurd (cc)
failed_for old new cause.Io h is = inl h
failed_for old new cause.Corrupt h is = inl h
failed_for old new cause.Full h is = inl h
failed_for old new cause.Broken h is = inr (inl h)
failed_for old new cause.Unstorable h is = absurd h

failed : (old new : State) (fault : TableFault) → Failed ⊥ old new fault → fault ≡ table_fault.Store → HasReadCause old new
failed old new fault it is = failed_for old new it.1.0 it.1.2 (ap table_fault_of (sym it.1.1) ∙ sym it.2 ∙ is)

refused : (it : StateTable) (old new : State) → HasStepLimit old ⊎ (IsInOrder (table it) old.now → ⊥) → HasReadCause old new
refused it old new (inl limit) = inr (inr (inl limit))
refused it old new (inr unordered) = inr (inr (inr (it, unordered)))

store_is : (fault : StoreFault) → Fault fault ≡ Fault Store → fault ≡ Store
store_is Store is = refl
store_is Memory is = absurd (cc)

-- a refusal of records is no fault of the store
pub uncaused : (old new : State) (its : name.TableName) (Why : Type 0) (fault : LoadFault) → Blames its Why fault → IsCaused old new fault
uncaused old new its Why NotABook blame is = absurd blame
uncaused old new its Why Version blame is = absurd blame
uncaused old new its Why (Damaged other) blame is = absurd (cc)
uncaused old new its Why (Fault fault) memory is = absurd (let no : Memory ≡ Store = sym memory ∙ store_is fault is in cc)

-- ---- What a table says

module _ {A : Type 0} (it : StateTable) (its : name.TableName) (IsRecord : Row → Type 0) (rows : A → List Row) where
  pub found : (old new : State) (a : A) → IsOfBook (table it) old.now.schema → Loaded (table it) IsRecord rows old new (Ok a) → CrashLeavesNoMore old new → IsLive new →
      Told it its IsRecord rows old new (Ok a)
  found old new a there loaded left live = record {
    told = λ clean.
        let is = loaded clean in
        let unchanged = is.1 in (
          unchanged,
          record {
            database = subst IsDatabase unchanged.0.now_is (live unchanged.0.is_open).0;
            there = there;
            stored = is.0.1;
            all = found_all (table it) old.now (rows a) is.0.0;
          },
        );
    caused = λ clean. tt;
    left = left;
  }

  no_record : (old new : State) → Loaded {A = A} (table it) IsRecord rows old new (Err table_fault.NotARecord) → CrashLeavesNoMore old new →
      Told it its IsRecord rows old new (Err (Damaged its))
  no_record old new loaded left = record {
    told = λ clean. (refl, inr (elim (loaded clean) [ inl failed ↦ absurd (some_fault failed.0 (sym failed.2)) | inr it ↦ it.1 ]));
    caused = λ clean is. absurd (cc);
    left = left;
  }

  no_rows : (old new : State) → Loaded {A = A} (table it) IsRecord rows old new (Err table_fault.Store) → CrashLeavesNoMore old new → Told it its IsRecord rows old new (Err (Fault Store))
  no_rows old new loaded left = record {
    told = λ clean. tt;
    caused = λ clean is. elim (loaded clean) [ inl e ↦ failed old new table_fault.Store e refl | inr why ↦ refused it old new why.1 ];
    left = left;
  }

  lost : (old new : State) → CrashLeavesNoMore old new → Told it its IsRecord rows old new (Err (Fault Memory))
  lost old new left = record { told = λ clean. tt; caused = λ clean is. absurd (cc); left = left }

  stopped_by : (old new : State) (fault : TableFault) → Loaded {A = A} (table it) IsRecord rows old new (Err fault) → CrashLeavesNoMore old new →
      Told it its IsRecord rows old new (Err (load_fault_of its fault))
  stopped_by old new table_fault.NotARecord loaded left = no_record old new loaded left
  stopped_by old new table_fault.Store loaded left = no_rows old new loaded left
  stopped_by old new table_fault.Memory loaded left = lost old new left

  pub stopped : (old new : State) (fault : TableFault) (given : LoadFault) → given ≡ load_fault_of its fault → Loaded {A = A} (table it) IsRecord rows old new (Err fault) → CrashLeavesNoMore old new →
      Told it its IsRecord rows old new (Err given)
  stopped old new fault given is loaded left = subst (λ f. Told it its IsRecord rows old new (Err f)) (sym is) (stopped_by old new fault loaded left)

  pub no_memory : (s : State) → Told it its IsRecord rows s s (Err (Fault Memory))
  no_memory s = lost s s (nothing_left s)

  pub not_there : (s : State) → (IsOfBook (table it) s.now.schema → ⊥) → Told it its IsRecord rows s s (Err (Damaged its))
  not_there s none = record { told = λ clean. (refl, inl none); caused = λ clean is. absurd (cc); left = nothing_left s }

-- a fault of one table, for a reason by which the table is damaged
pub of_blame : (its : name.TableName) (Why : Type 0) (db : Database) → (Why → IsDamaged (state_table its) db) → (fault : LoadFault) → BlamesOrFails its Why fault → Justifies fault db
of_blame its Why db damaged NotABook blame = absurd blame
of_blame its Why db damaged Version blame = absurd blame
of_blame its Why db damaged (Damaged other) blame = subst (λ t. IsDamaged (state_table t) db) (sym blame.0) (damaged blame.1)
of_blame its Why db damaged (Fault fault) blame = tt

-- what records are refused for, a table is
pub or_fails : (its : name.TableName) (Why : Type 0) (fault : LoadFault) → Blames its Why fault → BlamesOrFails its Why fault
or_fails its Why NotABook blame = blame
or_fails its Why Version blame = blame
or_fails its Why (Damaged other) blame = blame
or_fails its Why (Fault fault) blame = tt

-- a table that couldn't be read
pub unread : {B : Type 0} (its : name.TableName) (Why : Type 0) (Tells : B → Type 0) (old new : State) (fault : LoadFault) →
    (HasCleanDisk old → Why → IsDamaged (state_table its) old.now) → (HasCleanDisk new → BlamesOrFails its Why fault) → (HasCleanDisk new → IsCaused old new fault) → CrashLeavesNoMore old new →
    ReadsAs Tells (λ f. Justifies f old.now) old new (Err fault)
unread its Why Tells old new fault damaged told caused left = record {
  told = λ clean. of_blame its Why old.now (damaged (clean_before old new left clean)) fault (told clean);
  caused = caused;
  left = left;
}

-- what was told of the adding holds of the roster that is given back
pub given : {A : Type 0} (Adds : A → Type 0) (Blamed : LoadFault → Type 0) (done : Result (Unit {0}) LoadFault) (a : A) (result : Result A LoadFault) →
    OnOk done (result ≡ Ok a) → IfErr done (λ fault. result ≡ Err fault) → MatchResult done (λ _. Adds a) Blamed → MatchResult result Adds Blamed
given Adds Blamed (Ok u) a result is none told = subst (λ r. MatchResult r Adds Blamed) (sym is) told
given Adds Blamed (Err fault) a result none is told = subst (λ r. MatchResult r Adds Blamed) (sym is) told
