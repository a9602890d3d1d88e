-- Other tables keep their rows through one command more.
use Rattle.std.proofs.Common.{◌≡◌, ◌≤◌, IsTrue, arith, ◌∙◌, ◌⊎◌, inl, inr, sym, ap, subst}
use Rattle.sqlite_schema.specs.declared.schema.Schema.{Schema}
use Rattle.sqlite_trees.specs.Objects.{catalog_tree}
use Rattle.sqlite_trees.specs.Tree.{Trees}
use Rattle.sqlite_trees.specs.declared.store.Store.{Ghosts}
use Rattle.sqlite_catalog.proofs.ReadLemmas.{lists_once}
use Rattle.sqlite.specs.Effect.{Database, IsDatabase}
use Rattle.sqlite.specs.Held.{state}
use Rattle.sqlite.specs.State as conn
use Rattle.sqlite.specs.State.{HasCleanDisk}
use Rattle.roster.specs.State.{State}
use Rattle.writing.specs.Beside.{KeepOthers}
use Rattle.state_rows.specs.Outcomes.{CrashAddsOnly, HoldsNow, CrashLeavesOnly, ShowsOnly, StaysOpen}
use Rattle.lookup.proofs.Changes.{changes_then}
use Rattle.lookup.specs.Reads.{ChangesNothing, IsOpen}
use Rattle.book.specs.Headline.{SparesOthers, Untouched}
use Rattle.book.specs.Kept.{IsClean, Kept}
use Rattle.book.proofs.Asked.{adds_none, adds_nothing_more}

-- what was committed on a connection that was open
pub spares : (old new : conn.State) (s : State) → (HasCleanDisk new → IsTrue old.is_open) → CrashLeavesOnly new (KeepOthers old.now) → ShowsOnly new (KeepOthers old.now) → HoldsNow new s → SparesOthers old new
spares old new s was leaves shows holds = record {
  was_open = was;
  leaves = leaves;
  shows = shows;
  schema = λ clean. lists_once (new.now.trees catalog_tree) new.now.schema old.now.schema (holds clean).1.database.lists (shows clean).database.lists;
  is_open = λ clean. (holds clean).0;
}

-- and more after it
keeps_on : (old mid : conn.State) → mid.now.schema ≡ old.now.schema → KeepOthers old.now mid.now.trees → (trees : Trees) → KeepOthers mid.now trees → KeepOthers old.now trees
keeps_on old mid same first trees second = record {
  database = subst (λ (x : Schema). IsDatabase (record { schema = x; trees = trees })) same second.database;
  others = λ t has other. second.others t (rw same has) other ∙ first.others t has other;
}

module _ (old mid new : conn.State) (clean : HasCleanDisk new → HasCleanDisk mid) where
  module _ (first : SparesOthers old mid) where
    spares_on : SparesOthers mid new → SparesOthers old new
    spares_on second = record {
      was_open = λ c. first.was_open (clean c);
      leaves = record { crash = λ c trees may. keeps_on old mid (first.schema (clean c)) (first.shows (clean c)) trees (second.leaves.crash c trees may) };
      shows = λ c. keeps_on old mid (first.schema (clean c)) (first.shows (clean c)) new.now.trees (second.shows c);
      schema = λ c. second.schema c ∙ first.schema (clean c);
      is_open = second.is_open;
    }

    -- and nothing after it
    spares_still : Untouched mid new → SparesOthers old new
    spares_still second =
        let same = λ (c : HasCleanDisk new). (second.changes.still_shown c (second.is_open c)).1 in
        record {
          was_open = λ c. first.was_open (clean c);
          leaves = record { crash = λ c trees may. first.leaves.crash (clean c) trees (second.changes.nothing_new.crash c trees may) };
          shows = λ c. subst (λ (db : Database). KeepOthers old.now db.trees) (sym (same c)) (first.shows (clean c));
          schema = λ c. ap (λ (db : Database). db.schema) (same c) ∙ first.schema (clean c);
          is_open = second.is_open;
        }

    adds_on : CrashAddsOnly mid new (KeepOthers mid.now) → CrashAddsOnly old new (KeepOthers old.now)
    adds_on second = record {
      crash = λ c trees may. elim (second.crash c trees may) [
        | inl was ↦ inr (first.leaves.crash (clean c) trees was)
        | inr keeps ↦ inr (keeps_on old mid (first.schema (clean c)) (first.shows (clean c)) trees keeps)
      ];
    }

  -- the same after a read
  module _ (read : ChangesNothing old mid) (opened : IsOpen mid) where
    seen : HasCleanDisk new → IsTrue old.is_open × (mid.now ≡ old.now)
    seen c = read.still_shown (clean c) (opened (clean c))

    pub spares_after : SparesOthers mid new → SparesOthers old new
    spares_after second = record {
      was_open = λ c. (seen c).0;
      leaves = record { crash = λ c trees may. subst (λ (db : Database). KeepOthers db trees) (seen c).1 (second.leaves.crash c trees may) };
      shows = λ c. subst (λ (db : Database). KeepOthers db new.now.trees) (seen c).1 (second.shows c);
      schema = λ c. second.schema c ∙ ap (λ (db : Database). db.schema) (seen c).1;
      is_open = second.is_open;
    }

    adds_after : CrashAddsOnly mid new (KeepOthers mid.now) → CrashAddsOnly old new (KeepOthers old.now)
    adds_after second = record {
      crash = λ c trees may. elim (second.crash c trees may) [
        | inl was ↦ inl (read.nothing_new.crash (clean c) trees was)
        | inr keeps ↦ inr (subst (λ (db : Database). KeepOthers db trees) (seen c).1 keeps)
      ];
    }

    untouched_then : Untouched mid new → Untouched old new
    untouched_then second = record { changes = changes_then old mid new read second.changes; is_open = second.is_open }

-- a book that is as it was, that only read, or that spared the others
module _ {S : Type 0} (g : Ghosts S) where
  abbrev pub ReadsOrSpares : Kept S → Kept S → Type 0
  ReadsOrSpares old new = Untouched (state g old.held) (state g new.held) ⊎ SparesOthers (state g old.held) (state g new.held)

  abbrev pub SameOrSpares : Kept S → Kept S → Type 0
  SameOrSpares old new = (new ≡ old) ⊎ ReadsOrSpares old new

  module _ (old mid new : Kept S) (clean : IsClean g new → IsClean g mid) where
    pub spared_then : SameOrSpares old mid → ReadsOrSpares mid new → SameOrSpares old new
    spared_then (inl same) second = inr (subst (λ (k : Kept S). ReadsOrSpares k new) same second)
    spared_then (inr (inl first)) (inl second) = inr (inl (untouched_then (state g old.held) (state g mid.held) (state g new.held) clean first.changes first.is_open second))
    spared_then (inr (inl first)) (inr second) = inr (inr (spares_after (state g old.held) (state g mid.held) (state g new.held) clean first.changes first.is_open second))
    spared_then (inr (inr first)) (inl second) = inr (inr (spares_still (state g old.held) (state g mid.held) (state g new.held) clean first second))
    spared_then (inr (inr first)) (inr second) = inr (inr (spares_on (state g old.held) (state g mid.held) (state g new.held) clean first second))

    pub adds_then : SameOrSpares old mid → CrashAddsOnly (state g mid.held) (state g new.held) (KeepOthers (state g mid.held).now) → CrashAddsOnly (state g old.held) (state g new.held) (KeepOthers (state g old.held).now)
    adds_then (inl same) adds = subst (λ (k : Kept S). CrashAddsOnly (state g k.held) (state g new.held) (KeepOthers (state g k.held).now)) same adds
    adds_then (inr (inl first)) adds = adds_after (state g old.held) (state g mid.held) (state g new.held) clean first.changes first.is_open adds
    adds_then (inr (inr first)) adds = adds_on (state g old.held) (state g mid.held) (state g new.held) clean first adds

  pub spared_adds : (old new : Kept S) → SameOrSpares old new → CrashAddsOnly (state g old.held) (state g new.held) (KeepOthers (state g old.held).now)
  spared_adds old new (inl same) = subst (λ (k : Kept S). CrashAddsOnly (state g old.held) (state g k.held) (KeepOthers (state g old.held).now)) (sym same) (adds_none (state g old.held) _)
  spared_adds old new (inr (inl read)) = adds_nothing_more (state g old.held) (state g new.held) _ read.changes.nothing_new
  spared_adds old new (inr (inr spares)) = record { crash = λ c trees may. inr (spares.leaves.crash c trees may) }

  -- it is open where it was, and where it isn't at last, it has met a fault
  pub spared_open : (old mid new : Kept S) → (IsClean g new → IsClean g mid) → (state g old.held).faults ≤ (state g mid.held).faults → SameOrSpares old mid → StaysOpen (state g mid.held) (state g new.held) → StaysOpen (state g old.held) (state g new.held)
  spared_open old mid new clean counts spared stays c was =
      let shown : IsTrue (state g mid.held).is_open = elim spared [
        | inl same ↦ subst (λ (k : Kept S). IsTrue (state g k.held).is_open) (sym same) was
        | inr other ↦ elim other [
          | inl read ↦ read.is_open (clean c)
          | inr spares ↦ spares.is_open (clean c)
        ]
      ] in
      elim (stays c shown) [
        | inl is ↦ inl is
        | inr more ↦ inr (omega (arith, counts, more))
      ]
