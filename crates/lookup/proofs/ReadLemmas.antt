-- What a read by key says.
use Rattle.std.proofs.Common.{◌≡◌, inl, inr, arith, refl, sym, ap, subst, ◌∙◌, Bool, true, false, cond, List, [], ◌∷◌, filter, Result, Ok, Err, OnOk, IsTrue}
use Rattle.std.proofs.lemmas.List.Sorted.{IsPermutation-sym}
use Rattle.sqlite_value.specs.Order.{Row}
use Rattle.sqlite_rules.specs.Lists.{Has}
use Rattle.sqlite.specs.Effect.{Database}
use Rattle.sqlite.specs.State.{State, HasCleanDisk, IsUnchanged}
use Rattle.tables.proofs.Answering.{has_permuted}
use Rattle.tables.specs.Calls.{HasStepLimit, HoldsWhileOpen, CrashLeavesNoMore, Read, ReadAs, IsUnchangedOrUndone as NotMade}
use Rattle.tables.specs.Rows.{Finds, HasNoRecord, rows_of}
use Rattle.tables.specs.declared.table_fault.TableFault.{TableFault}
use Rattle.state_rows.specs.Rows.{StateTable, table}
use Rattle.state_rows.specs.Faults.{store_fault_of}
use Rattle.state_rows.specs.declared.fault.StoreFault.{StoreFault}
use Rattle.state_rows.specs.Kept.{AreStored}
use Rattle.state_rows.proofs.EachTable.{is_there}
use Rattle.tables.specs.Schema.{IsBook}
use Rattle.state_rows.specs.Outcomes.{CrashAddsNothing, IsOutside, IsOverBook}
use Rattle.state_rows.proofs.Outcomes.{unbegun_shows, clean_before}
use Rattle.lookup.proofs.Causes.{read_cause}
use Rattle.lookup.proofs.RightRows.{RecordOf, records_of}
use Rattle.lookup.specs.Reads.{ReadsRows, Stays, IsOpen}

-- ---- Nothing is changed

adds_nothing : (old new : State) → CrashLeavesNoMore old new → CrashAddsNothing old new
adds_nothing old new left = record {
  disk = clean_before old new left;
  crash = λ clean trees may. elim (left.crash clean trees may) [ inl was ↦ was | inr none ↦ absurd none ];
}

pub at_rest : (s : State) → IsOutside s → Stays s s
at_rest s outside = record {
  nothing_new = record { disk = λ clean. clean; crash = λ clean trees may. may };
  still_shown = λ clean opened. (opened, refl);
  outside = outside;
  faults = omega (arith);
  still_open = λ clean opened. inl opened;
  limit = refl;
}

module _ {A : Type 0} (Is : Database → A → Type 0) (IsDamaged : Database → Type 0) (why : Type 0) (old new : State)
    (left : CrashLeavesNoMore old new) (outside : IsOutside old) (same : HasCleanDisk old → IsTrue old.is_open → old.now ≡ old.committed) where
  not_made : (result : Result A TableFault) → ReadAs Is IsDamaged why old new result → HasCleanDisk new → NotMade old new
  not_made (Ok a) read clean = inl (read clean).1
  not_made (Err fault) read clean = elim (read clean) [
    | inl failed ↦ inr failed.1.3
    | inr unread ↦ inl unread.0
  ]

  still_outside : (result : Result A TableFault) → ReadAs Is IsDamaged why old new result → IsOutside new
  still_outside result read clean = elim (not_made result read clean) [
    | inl kept ↦ kept.0.mode ∙ outside (clean_before old new left clean)
    | inr back ↦ back.autocommit
  ]

  pub stays : (result : Result A TableFault) → ReadAs Is IsDamaged why old new result → Stays old new
  stays result read = record {
    nothing_new = adds_nothing old new left;
    still_shown = unbegun_shows old new (clean_before old new left) same (not_made result read);
    outside = still_outside result read;
    faults = left.counts;
    still_open = left.closes;
    limit = left.limit;
  }

module _ {A : Type 0} (it : StateTable) (test : Row → Bool) (rows : A → List Row) (old new : State)
    (left : CrashLeavesNoMore old new) (outside : IsOutside old) (same : HasCleanDisk old → IsTrue old.is_open → old.now ≡ old.committed) where
  abbrev FindsThem : Database → A → Type 0
  FindsThem db found = Finds (table it) test db (rows found)

  pub was_read : (a : A) → Read (table it) test (RecordOf it) rows old new (Ok a) → ReadsRows it test rows old new (Ok a)
  was_read a read = record {
    stays = stays FindsThem (HasNoRecord (table it) test (RecordOf it)) (HasStepLimit old) old new left outside same (Ok a) read;
    told = λ clean. ((read clean).1, (read clean).0);
    caused = tt;
  }

  pub not_read : (fault : TableFault) (told : StoreFault) → Read (table it) test (RecordOf it) rows old new (Err fault) → told ≡ store_fault_of fault →
      ReadsRows it test rows old new (Err told)
  not_read fault told read of_fault = record {
    stays = stays FindsThem (HasNoRecord (table it) test (RecordOf it)) (HasStepLimit old) old new left outside same (Err fault) read;
    told = λ clean. tt;
    caused = λ clean is. read_cause FindsThem (HasNoRecord (table it) test (RecordOf it)) old new fault (records_of it old.now test) read clean (sym of_fault ∙ is);
  }

-- ---- The tables are there

pub holds_open : (it : StateTable) (s : State) → IsOverBook s → HoldsWhileOpen (table it) s
holds_open it s over clean opened = is_there s.now.schema (over clean opened).0 it

abbrev IsFit : Database → Type 0
IsFit db = IsBook db.schema × AreStored db

pub over_on : (old new : State) → Stays old new → IsOverBook old → IsOverBook new
over_on old new stays over clean opened = let it = stays.still_shown clean opened in subst IsFit (sym it.1) (over (stays.nothing_new.disk clean) it.0)

-- ---- Rows that pass a test

pub has_filtered : (test : Row → Bool) (xs : List Row) (x : Row) → Has xs x → test x ≡ true → Has (filter test xs) x
has_filtered test [] x h pass = absurd h
has_filtered test (y ∷ ys) x (inl same) pass =
    elim (test y) as (λ b. test y ≡ b → Has (cond b (y ∷ filter test ys) (filter test ys)) x) [
      | true ↦ λ _. inl same
      | false ↦ λ fail. absurd (let no : true ≡ false = sym pass ∙ ap test same ∙ fail in cc)
    ] refl
has_filtered test (y ∷ ys) x (inr later) pass =
    elim (test y) as (λ b. Has (cond b (y ∷ filter test ys) (filter test ys)) x) [
      | true ↦ inr (has_filtered test ys x later pass)
      | false ↦ has_filtered test ys x later pass
    ]

pub of_filtered : (test : Row → Bool) (xs : List Row) (x : Row) → Has (filter test xs) x → Has xs x × (test x ≡ true)
of_filtered test [] x h = absurd h
of_filtered test (y ∷ ys) x h =
    elim (test y) as (λ b. test y ≡ b → Has (cond b (y ∷ filter test ys) (filter test ys)) x → Has (y ∷ ys) x × (test x ≡ true)) [
      | true ↦ λ pass here. elim here [
        | inl same ↦ (inl same, ap test same ∙ pass)
        | inr later ↦ let it = of_filtered test ys x later in (inr it.0, it.1)
      ]
      | false ↦ λ _ here. let it = of_filtered test ys x here in (inr it.0, it.1)
    ] refl h

module _ (it : StateTable) (test : Row → Bool) (db : Database) (rows : List Row) (finds : Finds (table it) test db rows) where
  pub in_found : (x : Row) → Has (rows_of (table it) db) x → test x ≡ true → Has rows x
  in_found x h pass = has_permuted (filter test (rows_of (table it) db)) rows x finds (has_filtered test (rows_of (table it) db) x h pass)

  pub of_found : (x : Row) → Has rows x → Has (rows_of (table it) db) x × (test x ≡ true)
  of_found x h = of_filtered test (rows_of (table it) db) x (has_permuted rows (filter test (rows_of (table it) db)) x (IsPermutation-sym _ _ finds) h)

-- some rows are just those of a table that pass a test; one may be there more than once
pub record AreOf (it : StateTable) (test : Row → Bool) (db : Database) (rows : List Row) : Type 0 where
  pub there : (x : Row) → Has rows x → Has (rows_of (table it) db) x × (test x ≡ true)
  pub here : (x : Row) → Has (rows_of (table it) db) x → test x ≡ true → Has rows x

pub are_of : (it : StateTable) (test : Row → Bool) (db : Database) (rows : List Row) → Finds (table it) test db rows → AreOf it test db rows
are_of it test db rows finds = record { there = of_found it test db rows finds; here = in_found it test db rows finds }

pub opened_ok : {A E : Type 0} (result : Result A E) (old new : State) → (HasCleanDisk new → IsUnchanged old new) → OnOk result (IsOpen new)
opened_ok (Ok a) old new same = λ clean. (same clean).0.is_open
opened_ok (Err fault) old new same = tt

-- ---- Reads in turn

-- a connection that may be read by key: no transaction is begun, the tables of a book are there, and what is shown is committed
pub record IsReady (s : State) : Type 0 where
  pub outside : IsOutside s
  pub over : IsOverBook s
  pub settled : HasCleanDisk s → IsTrue s.is_open → s.now ≡ s.committed

-- a read, by the rows that it found
abbrev pub FindsRows : StateTable → (Row → Bool) → State → State → Result (List Row) StoreFault → Type 0
FindsRows it test old new result = ReadsRows it test (λ (rows : List Row). rows) old new result

module _ (it : StateTable) (test : Row → Bool) (old new : State) (ready : IsReady old) (left : CrashLeavesNoMore old new) where
  pub reads : (rows : List Row) → Read (table it) test (RecordOf it) (λ (found : List Row). found) old new (Ok rows) → FindsRows it test old new (Ok rows)
  reads rows read = was_read it test (λ (found : List Row). found) old new left ready.outside ready.settled rows read

  pub reads_not : (fault : TableFault) (told : StoreFault) → Read (table it) test (RecordOf it) (λ (found : List Row). found) old new (Err fault) → told ≡ store_fault_of fault →
      FindsRows it test old new (Err told)
  reads_not fault told read of_fault = not_read it test (λ (found : List Row). found) old new left ready.outside ready.settled fault told read of_fault

-- so it may after a read
pub ready_on : (it : StateTable) (test : Row → Bool) (old new : State) (rows : List Row) → IsReady old → FindsRows it test old new (Ok rows) → IsReady new
ready_on it test old new rows ready read = record {
  outside = read.stays.outside;
  over = over_on old new read.stays ready.over;
  settled = λ clean opened.
      let same = (read.told clean).0.0 in
      same.now_is ∙ ready.settled (read.stays.nothing_new.disk clean) same.was_open ∙ sym same.committed_is;
}
