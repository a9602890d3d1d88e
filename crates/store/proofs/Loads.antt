-- Tables that are read one after the other, and a book of version 1 that is brought to version 2.
use Rattle.std.proofs.Common.{◌≡◌, ◌⊎◌, inl, inr, refl, sym, subst, ◌∙◌, false, arith, IsTrue, Result, Ok, Err, IfOk}
use Rattle.sqlite_disk.specs.Disk.{MoreFaults}
use Rattle.sqlite_trees.specs.declared.store.Store.{Ghosts}
use Rattle.sqlite_trees.specs.Tree.{Trees}
use Rattle.sqlite.specs.Effect.{Database}
use Rattle.sqlite.specs.Held.{Held, state}
use Rattle.sqlite.specs.State.{State, HasCleanDisk, IsLive, IsUnchanged}
use Rattle.roster.specs.State as roster
use Rattle.tables.specs.Calls.{CrashLeavesNoMore}
use Rattle.loading.specs.Loading.{IsCaused, Justifies}
use Rattle.entries.specs.Right.{IsOfEdition}
use Rattle.tables.specs.Schema.{later_tables}
use Rattle.writing.specs.Commits.{IsMigrated}
use Rattle.state_rows.specs.Kept.{HoldBookOf, IsBookOf, IsFirstBookOf}
use Rattle.writing.specs.Beside.{KeepBeside}
use Rattle.state_rows.specs.Outcomes.{CrashAddsNothing, CrashLeaves, CrashLeavesOnly, CrashLeavesSome, HoldsNow, IsOutside, IsOverBook, ShowsFirst, ShowsOnly, IsJust}
use Rattle.loading.specs.Reading.{AgreesIn, ReadsAs}
use Rattle.state_rows.specs.Rows.{outside_segment}
use Rattle.state_rows.specs.declared.edition.Edition.{Edition}
use Rattle.state_rows.specs.declared.edition.Edition.TheVariants.{First, Second}
use Rattle.state_rows.specs.declared.fault.StoreFault.{StoreFault}
use Rattle.state_rows.specs.declared.fault.StoreFault.TheVariants.{Memory, Store}
use Rattle.writing.proofs.Ending.{of_trees}
use Rattle.store.proofs.ReadBooks.{read_book_of, read_first_of}
use Rattle.entries.proofs.Editions.{one_edition}
use Rattle.state_rows.proofs.Outcomes.{clean_before}
use Rattle.entries.proofs.RightSound.{right_sound, right_instants}
use Rattle.store.specs.Found.{IsFound}
use Rattle.store.specs.Loaded.{CrashMayMigrate, IsLoaded, IsNotLoaded, ShowsFirstEdition, AreMigrated, ShowsWhatIsLeft}
use Rattle.entries.specs.declared.fault.LoadFault.{LoadFault}
use Rattle.entries.specs.declared.fault.LoadFault.TheVariants.{Fault}

-- ---- A book that is read whole

module _ {S : Type 0} (g : Ghosts S) (old : State) (new : Held S) (r : roster.State) (edition : Edition)
    (told : HasCleanDisk (state g new) → IsUnchanged old (state g new) × AgreesIn edition outside_segment r old.now)
    (live : IsLive (state g new)) (outside : IsOutside old) where
  agrees : HasCleanDisk (state g new) → AgreesIn edition outside_segment r (state g new).now
  agrees clean = let it = told clean in subst (AgreesIn edition outside_segment r) (sym it.0.0.now_is) it.1

  loaded_book : edition ≡ Second → HasCleanDisk (state g new) → IsBookOf r (state g new).now
  loaded_book is clean =
      let it = told clean in
      let now = agrees clean in
      read_book_of r (state g new).now (live it.0.0.is_open).0 now.through (subst (λ e. IsOfEdition e (state g new).now) is now.of)

  pub loaded_first : edition ≡ First → ShowsFirst (state g new) r
  loaded_first is clean opened =
      let now = agrees clean in
      read_first_of r (state g new).now (live opened).0 now.through (subst (λ e. IsOfEdition e (state g new).now) is now.of)

  pub loaded_outside : CrashLeavesNoMore old (state g new) → IsOutside (state g new)
  loaded_outside left clean = (told clean).0.0.mode ∙ outside (clean_before old (state g new) left clean)

  -- it is what was committed last, and that is all that a crash leaves
  pub loaded_leaves : CrashLeavesNoMore old (state g new) → ((state g new).in_transaction ≡ false → IsTrue (state g new).is_open → (state g new).now ≡ (state g new).committed) →
      ((it : S) (trees : Trees) → IsTrue (g.view it).is_open → g.recovers it trees → trees ≡ (g.view it).committed) → edition ≡ Second → CrashLeaves (state g new) (IsJust r)
  loaded_leaves left settled law is = record {
    crash = λ clean trees may.
        let opened = (told clean).0.0.is_open in
        let same = settled (loaded_outside left clean) opened in
        (r, refl, of_trees r (state g new).committed trees (law new.store trees opened may) (subst (IsBookOf r) same (loaded_book is clean)));
  }

  pub loaded_now : edition ≡ Second → HoldsNow (state g new) r
  loaded_now is clean = ((told clean).0.0.is_open, loaded_book is clean)

  its_book : (e : Edition) → edition ≡ e → HasCleanDisk (state g new) → IsFirstBookOf r (state g new).now ⊎ IsBookOf r (state g new).now
  its_book First is clean = inl (loaded_first is clean (told clean).0.0.is_open)
  its_book Second is clean = inr (loaded_book is clean)

  -- and it is what was found
  pub loaded_found : HasCleanDisk (state g new) → IsFound r old.now
  loaded_found clean =
      let it = told clean in
      let right = it.1.through.right in
      record {
        book = subst (λ db. IsFirstBookOf r db ⊎ IsBookOf r db) it.0.0.now_is (its_book edition refl clean);
        right = right;
        sound = right_sound r old.now right;
        instants = right_instants r old.now right;
      }

  pub loaded_over : edition ≡ Second → IsOverBook (state g new)
  loaded_over is clean _ = let book = loaded_book is clean in (book.tables, book.stored)

-- what an open connection shows, outside a transaction, is what a crash leaves
pub shows_what_is_left : {S : Type 0} (g : Ghosts S) (now : Held S) → IsTrue (state g now).is_open → (state g now).now ≡ (state g now).committed →
    ((it : S) → IsTrue (g.view it).is_open → g.recovers it (g.view it).committed) → ShowsWhatIsLeft (state g now)
shows_what_is_left g now opened same stays = subst (λ (db : Database). (state g now).may_leave db.trees) (sym same) (stays now.store opened)

-- what is so of what was read
pub on_read : {A : Type 0} (Is P : A → Type 0) (Refuses : LoadFault → Type 0) (old new : State) (result : Result A LoadFault) → ReadsAs Is Refuses old new result →
    ((a : A) → (HasCleanDisk new → IsUnchanged old new × Is a) → P a) → IfOk result P
on_read Is P Refuses old new (Ok a) it so = so a it.told
on_read Is P Refuses old new (Err fault) it so = tt

-- ---- A book that is left as it was

pub still : (old new : State) → CrashAddsNothing old new → CrashMayMigrate old new
still old new left = record { disk = left.disk; crash = λ clean trees may. inl (left.crash clean trees may) }

-- no book was read
pub not_read : (old new : State) (fault : LoadFault) → (HasCleanDisk new → Justifies fault old.now) → (HasCleanDisk new → IsCaused old new fault) → CrashLeavesNoMore old new → CrashAddsNothing old new →
    CrashLeavesSome new → IsOutside new → IsNotLoaded old new fault
not_read old new fault told caused left nothing_new some outside = record {
  says = told;
  caused = λ clean is. inl (caused clean is);
  crash = still old new nothing_new;
  nothing_new = λ _. nothing_new;
  others_left = record { crash = λ clean trees may. inl (nothing_new.crash clean trees may) };
  some_left = some;
  still_open = left.closes;
  limit = left.limit;
  outside = outside;
}

module _ (old new : State) (r : roster.State) (saw : HasCleanDisk new → IsUnchanged old new × AgreesIn Second outside_segment r old.now) (left : CrashLeavesNoMore old new)
    (found : HasCleanDisk new → IsFound r old.now) (shows : HasCleanDisk new → ShowsWhatIsLeft old) where
  no_first : HasCleanDisk new → ShowsFirstEdition old → ⊥
  no_first clean first = one_edition old.now first (saw clean).1.of

  pub second_loaded : CrashAddsNothing old new → CrashLeaves new (IsJust r) → CrashLeavesSome new → HoldsNow new r → IsLoaded old new r
  second_loaded nothing_new crash some shown = record {
    found = found;
    left = shows;
    crash = crash;
    some_left = some;
    shown = shown;
    nothing_new = λ _. nothing_new;
    unchanged = λ clean _. (saw clean).0;
    others_crash = λ first. record { crash = λ clean trees may. absurd (no_first clean first) };
    others_shown = λ first clean. absurd (no_first clean first);
    disk = nothing_new.disk;
    limit = left.limit;
  }

-- ---- A book that is brought to version 2

module _ {A : Type 0} (old mid new : State) (r : roster.State) (result : Result A StoreFault)
    (saw : HasCleanDisk mid → IsUnchanged old mid × AgreesIn First outside_segment r old.now) (left : CrashLeavesNoMore old mid)
    (found : HasCleanDisk mid → IsFound r old.now) (shows : HasCleanDisk mid → ShowsWhatIsLeft old) (first : ShowsFirst mid r)
    (migrated : IsMigrated mid new r result) where
  clean_first : HasCleanDisk new → HasCleanDisk old
  clean_first clean = clean_before old mid left (migrated.disk clean)

  is_first : HasCleanDisk new → ShowsFirstEdition old
  is_first clean = (saw (migrated.disk clean)).1.of

  same_now : HasCleanDisk new → mid.now ≡ old.now
  same_now clean = (saw (migrated.disk clean)).0.0.now_is

  no_outcome : (db : Trees) → HasCleanDisk mid → mid.may_leave db → old.may_leave db
  no_outcome db clean may = elim (left.crash clean db may) [ inl was ↦ was | inr none ↦ absurd none ]

  same_limit : new.step_limit ≡ old.step_limit
  same_limit = migrated.limit ∙ left.limit

  pub first_loaded : CrashLeaves new (IsJust r) → HoldsNow new r → CrashLeavesOnly new (KeepBeside later_tables mid.now) →
      ShowsOnly new (KeepBeside later_tables mid.now) → IsLoaded old new r
  first_loaded crash shown others others_shown = record {
    found = λ clean. found (migrated.disk clean);
    left = λ clean. shows (migrated.disk clean);
    crash = crash;
    some_left = migrated.some_left;
    shown = shown;
    nothing_new = λ bad. record { disk = clean_first; crash = λ clean trees may. absurd (bad (is_first clean)) };
    unchanged = λ clean bad. absurd (bad (is_first clean));
    others_crash = λ _. record { crash = λ clean trees may. subst (λ (db : Database). KeepBeside later_tables db trees) (same_now clean) (others.crash clean trees may) };
    others_shown = λ _ clean. subst (λ (db : Database). KeepBeside later_tables db new.now.trees) (same_now clean) (others_shown clean);
    disk = clean_first;
    limit = same_limit;
  }

  was_first : HasCleanDisk new → IsFirstBookOf r old.now
  was_first clean = let mid_clean = migrated.disk clean in subst (IsFirstBookOf r) (same_now clean) (first mid_clean (saw mid_clean).0.0.is_open)

  are_migrated : (trees : Trees) → HasCleanDisk new → HoldBookOf trees r → AreMigrated old trees
  are_migrated trees clean holds = record {
    left = shows (migrated.disk clean);
    it = r;
    found = found (migrated.disk clean);
    was = was_first clean;
    is = holds;
  }

  may_migrate : CrashMayMigrate old new
  may_migrate = record {
    disk = clean_first;
    crash = λ clean trees may. elim (migrated.store.crash clean trees may) [
      | inl was ↦ inl (no_outcome trees (migrated.disk clean) was)
      | inr is ↦ inr (are_migrated trees clean is)
    ];
  }

  more_faults : MoreFaults mid.faults new.faults → MoreFaults old.faults new.faults
  more_faults more = let before = left.counts in omega (arith, more, before)

  nothing : (f : StoreFault) → (f ≡ Memory → CrashAddsNothing mid new) → (Fault f ≡ Fault Store → ShowsFirstEdition old → ⊥) → CrashAddsNothing old new
  nothing Memory memory unless = let same = memory refl in record {
    disk = clean_first;
    crash = λ clean trees may. no_outcome trees (migrated.disk clean) (same.crash clean trees may);
  }
  nothing Store memory unless = record { disk = clean_first; crash = λ clean trees may. absurd (unless refl (is_first clean)) }

  pub first_stopped : (fault : StoreFault) → (fault ≡ Memory → CrashAddsNothing mid new) → IsOutside new → IsNotLoaded old new (Fault fault)
  first_stopped fault memory outside = record {
    says = λ clean. tt;
    caused = λ clean _. inr (r, found (migrated.disk clean), was_first clean);
    crash = may_migrate;
    nothing_new = λ unless. nothing fault memory unless;
    others_left = record {
      crash = λ clean trees may. elim (migrated.others_left.crash clean trees may) [
        | inl was ↦ inl (no_outcome trees (migrated.disk clean) was)
        | inr is ↦ inr (subst (λ (db : Database). KeepBeside later_tables db trees) (same_now clean) is)
      ];
    };
    some_left = migrated.some_left;
    still_open = λ clean opened. elim (migrated.still_open clean (saw (migrated.disk clean)).0.0.is_open) [
      | inl is ↦ inl is
      | inr more ↦ inr (more_faults more)
    ];
    limit = same_limit;
    outside = outside;
  }
