-- Calls in a transaction, one after the other.
use Rattle.std.proofs.Common.{ℕ, zero, suc, ◌+◌, List, [], ◌∷◌, take, Some, slice_get, ◌≡◌, inl, inr, refl, sym, subst, ◌∙◌, arith, true, cond, IsTrue, Result, Ok, Err}
use Rattle.std.proofs.lemmas.Bool.{true≢false}
use Rattle.sqlite.specs.Effect.{Database}
use Rattle.sqlite.specs.State.{State, HasCleanDisk, Shows, KeepsCommit}
use Rattle.sqlite.proofs.StateLemmas.{survives_then, survives_weaker}
use Rattle.tables.specs.Calls.{Ran, CrashMayLeave, IsUnchangedOrUndone, CrashLeavesNoMore}
use Rattle.tables.specs.declared.table_fault.TableFault.{TableFault}
use Rattle.writing.specs.Calls.{IsInside, Changed, Then, Each, Fitting, IsFit, IsReady, Wrote}

-- ---- What was committed stays

shown_keeps : (old new : State) (now : Database) → Shows old new now old.committed true → KeepsCommit old new
shown_keeps old new now shows = record { was_open = λ _. shows.was_open; committed = λ _. shows.committed_is }

pub left_keeps : (old new : State) → IsUnchangedOrUndone old new → KeepsCommit old new
left_keeps old new (inl same) = record { was_open = λ _. same.0.was_open; committed = λ _. same.0.committed_is }
left_keeps old new (inr back) = record { was_open = back.was_open; committed = λ o. (back.undone o).1 }

pub keeps_then : (a b c : State) → KeepsCommit a b → KeepsCommit b c → KeepsCommit a c
keeps_then a b c one two = record {
  was_open = λ o. one.was_open (two.was_open o);
  committed = λ o. two.committed o ∙ one.committed (two.was_open o);
}

-- ---- One call

module _ (Is : Database → Database → Type 0) (old new : State) (inside : IsInside old) (left : CrashMayLeave Is old new) where
  clean_before : HasCleanDisk new → HasCleanDisk old
  clean_before clean = omega (arith, left.clean)

  nothing_left : CrashLeavesNoMore old new
  nothing_left = survives_weaker old new _ _ (λ clean db may. true≢false (sym (inside (clean_before clean)) ∙ may.0)) left

  pub one_call : {A : Type 0} (result : Result A TableFault) → Ran Is old new result → Changed Is old new result
  one_call (Ok a) ran =
      let shown = λ (clean : HasCleanDisk new).
      subst (λ b. Shows old new new.now (cond b old.committed new.now) b) (inside (clean_before clean)) (ran clean).1.shown in
      record {
        done = λ clean. ((ran clean).0, shown clean);
        kept = λ clean. shown_keeps old new new.now (shown clean);
        left = nothing_left;
      }
  one_call (Err fault) ran = record {
    done = λ clean. tt;
    kept = λ clean. left_keeps old new (ran clean).0;
    left = nothing_left;
  }

-- ---- Two calls

pub still_inside : {A E : Type 0} {Is : Database → Database → Type 0} (old new : State) (a : A) → Changed {E = E} Is old new (Ok a) → IsInside new
still_inside old new a changed clean = (changed.done clean).1.mode

pub then_call : {A B E F : Type 0} {First Second : Database → Database → Type 0} (old mid new : State) (a : A) (result : Result B E) →
    Changed {E = F} First old mid (Ok a) → Changed Second mid new result → Changed (Then First Second) old new result
then_call old mid new a (Ok b) one two =
    let before = λ (clean : HasCleanDisk new). let d : HasCleanDisk mid = omega (arith, two.left.clean) in d in
    record {
      done = λ clean.
          let f = one.done (before clean) in
          let s = two.done clean in (
            (mid.now, f.0, s.0),
            record {
              was_open = f.1.was_open;
              is_open = s.1.is_open;
              now_is = refl;
              committed_is = s.1.committed_is ∙ f.1.committed_is;
              mode = s.1.mode;
            },
          );
      kept = λ clean. keeps_then old mid new (one.kept (before clean)) (two.kept clean);
      left = survives_then old mid new _ _ _ (λ _ db none. none) (λ _ db none. none) one.left two.left;
    }
then_call old mid new a (Err fault) one two =
    let before = λ (clean : HasCleanDisk new). let d : HasCleanDisk mid = omega (arith, two.left.clean) in d in
    record {
      done = λ clean. tt;
      kept = λ clean. keeps_then old mid new (one.kept (before clean)) (two.kept clean);
      left = survives_then old mid new _ _ _ (λ _ db none. none) (λ _ db none. none) one.left two.left;
    }

-- a call that failed changed nothing that counts
pub stopped : {A B E F : Type 0} {First Second : Database → Database → Type 0} (old new : State) (fault : E) (other : F) →
    Changed {A = A} First old new (Err fault) → Changed {A = B} Second old new (Err other)
stopped old new fault other changed = record { done = λ clean. tt; kept = changed.kept; left = changed.left }

-- the same change in other words
pub as_change : {A E : Type 0} {First Second : Database → Database → Type 0} → ((a b : Database) → First a b → Second a b) → (old new : State) (result : Result A E) →
    Changed First old new result → Changed Second old new result
as_change also old new (Ok a) changed = record {
  done = λ clean. let it = changed.done clean in (also old.now new.now it.0, it.1);
  kept = changed.kept;
  left = changed.left;
}
as_change also old new (Err fault) changed = record { done = λ clean. tt; kept = changed.kept; left = changed.left }

-- nothing is done yet
pub nothing_done : {A E : Type 0} (Is : Database → Database → Type 0) (s : State) (a : A) → IsInside s → (HasCleanDisk s → IsTrue s.is_open) → Is s.now s.now → Changed {E = E} Is s s (Ok a)
nothing_done Is s a inside opened is = record {
  done = λ clean. (is, record { was_open = opened clean; is_open = opened clean; now_is = refl; committed_is = refl; mode = inside clean });
  kept = λ clean. record { was_open = λ o. o; committed = λ _. refl };
  left = record {
    clean = omega arith;
    shield = λ h. h;
    counts = omega arith;
    limit = refl;
    closes = λ _ h. inl h;
    crash = λ _ _ h. inl h;
  };
}

-- ---- Calls over the tables of a book

-- a change that leaves the tables of a book
abbrev pub Keeps : (Database → Database → Type 0) → Type 0
Keeps Is = (old new : Database) → IsFit old → Is old new → IsFit new

pub one_write : {A : Type 0} {Is : Database → Database → Type 0} (old new : State) (result : Result A TableFault) → Keeps Is → IsReady old → Ran Is old new result → CrashMayLeave Is old new →
    Wrote Is old new result
one_write {Is = Is} old new (Ok a) keeps ready ran left =
    let changed = one_call Is old new ready.inside left (Ok a) ran in
    record {
      changed = changed;
      ready = record {
        inside = still_inside old new a changed;
        opened = λ clean. (changed.done clean).1.is_open;
        fit = λ clean. keeps old.now new.now (ready.fit (omega (arith, left.clean))) (ran clean).0;
      };
    }
one_write {Is = Is} old new (Err fault) keeps ready ran left = record { changed = one_call Is old new ready.inside left (Err fault) ran; ready = tt }

pub wrote_ok : {A E : Type 0} {Is : Database → Database → Type 0} (old new : State) (a : A) → Keeps Is → IsReady old → Ran Is old new (Ok a) → CrashMayLeave Is old new → Wrote {E = E} Is old new (Ok a)
wrote_ok {E = E} {Is = Is} old new a keeps ready ran left =
    let wrote = one_write old new (Ok a) keeps ready ran left in
    record {
      changed = record { done = wrote.changed.done; kept = wrote.changed.kept; left = wrote.changed.left };
      ready = wrote.ready;
    }

pub then_write : {A B E F : Type 0} {First Second : Database → Database → Type 0} (old mid new : State) (a : A) (result : Result B E) →
    Wrote {E = F} First old mid (Ok a) → Wrote Second mid new result → Wrote (Then First Second) old new result
then_write old mid new a result one two = record { changed = then_call old mid new a result one.changed two.changed; ready = two.ready }

pub write_stopped : {A B E F : Type 0} {First Second : Database → Database → Type 0} (old new : State) (fault : E) (other : F) →
    Wrote {A = A} First old new (Err fault) → Wrote {A = B} Second old new (Err other)
write_stopped old new fault other wrote = record { changed = stopped old new fault other wrote.changed; ready = tt }

-- nothing more is to be done
pub then_nothing : {A E F : Type 0} {First Second : Database → Database → Type 0} (old new : State) (a : A) → ((db : Database) → Second db db) →
    Wrote {E = E} First old new (Ok a) → Wrote {E = F} (Then First Second) old new (Ok a)
then_nothing {First = First} {Second = Second} old new a nothing wrote = record {
  changed = record {
    done = λ clean.
        let it = wrote.changed.done clean in
        let both : Then First Second old.now new.now = (new.now, it.0, nothing new.now) in (both, it.1);
    kept = wrote.changed.kept;
    left = wrote.changed.left;
  };
  ready = wrote.ready;
}

-- a call that changes nothing
pub wrote_nothing : {A E : Type 0} (Is : Database → Database → Type 0) (s : State) (fault : E) → Wrote {A = A} Is s s (Err fault)
wrote_nothing Is s fault = record {
  changed = record {
    done = λ clean. tt;
    kept = λ clean. record { was_open = λ o. o; committed = λ _. refl };
    left = record { clean = omega arith; shield = λ h. h; counts = omega arith; limit = refl; closes = λ _ h. inl h; crash = λ _ _ h. inl h };
  };
  ready = tt;
}

none_taken : {V : Type 0} (Is : ℕ → V → Database → Database → Type 0) (vs : List V) (db : Database) → Each Is 0 (take 0 vs) db db
none_taken Is [] db = refl
none_taken Is (v ∷ vs) db = refl

-- a loop that begins
pub each_start : {V A E : Type 0} (Is : ℕ → V → Database → Database → Type 0) (vs : List V) (s : State) (a : A) → IsReady s → Wrote {E = E} (Each Is 0 (take 0 vs)) s s (Ok a)
each_start Is vs s a ready = record { changed = nothing_done (Each Is 0 (take 0 vs)) s a ready.inside ready.opened (none_taken Is vs s.now); ready = ready }

-- ---- A call for each value

each_one_more : {V : Type 0} (Is : ℕ → V → Database → Database → Type 0) (from n : ℕ) (vs : List V) (v : V) (a b c : Database) →
    slice_get vs n ≡ Some v → Each Is from (take n vs) a b → Is (from + n) v b c → Each Is from (take (suc n) vs) a c
each_one_more Is from n [] v a b c at before more = absurd (cc)
each_one_more Is from zero (x ∷ vs) v a b c at before more =
    let same : v ≡ x = cc in
    let place : from + 0 ≡ from = omega arith in
    (c, subst (λ p. Is p x a c) place (subst (λ y. Is (from + 0) y a c) same (subst (λ d. Is (from + 0) v d c) before more)), refl)
each_one_more Is from (suc n) (x ∷ vs) v a b c at before more =
    let place : from + suc n ≡ suc from + n = omega arith in
    (before.0, before.1, each_one_more Is (suc from) n vs v before.0 b c at before.2 (subst (λ p. Is p v b c) place more))

-- a loop's turn
pub each_turn : {V A B E F : Type 0} (Is : ℕ → V → Database → Database → Type 0) (n : ℕ) (vs : List V) (v : V) (old mid new : State) (a : A) (b : B) →
    slice_get vs n ≡ Some v → Wrote {E = E} (Each Is 0 (take n vs)) old mid (Ok a) → Wrote {E = F} (Is n v) mid new (Ok b) → Wrote {E = E} (Each Is 0 (take (n + 1) vs)) old new (Ok a)
each_turn {E = E} Is n vs v old mid new a b at before more =
    let both = then_write old mid new a (Ok b) before more in
    let grown : (d e : Database) → Then (Each Is 0 (take n vs)) (Is n v) d e → Each Is 0 (take (n + 1) vs) d e = λ d e it.
    subst (λ k. Each Is 0 (take k vs) d e) (let s : suc n ≡ n + 1 = omega arith in s)
    (each_one_more Is 0 n vs v d it.0 e at it.1 (subst (λ p. Is p v it.0 e) (let z : n ≡ 0 + n = omega arith in z) it.2)) in
    record {
      changed = record {
        done = λ clean. let it = both.changed.done clean in (grown old.now new.now it.0, it.1);
        kept = both.changed.kept;
        left = both.changed.left;
      };
      ready = more.ready;
    }

-- a change, with what it leaves
pub wrote_fit : {A E : Type 0} {Is : Database → Database → Type 0} (old new : State) (a : A) → Wrote {E = E} Is old new (Ok a) → Wrote {E = E} (Fitting Is) old new (Ok a)
wrote_fit old new a wrote = record {
  changed = record {
    done = λ clean. let it = wrote.changed.done clean in ((it.0, wrote.ready.fit clean), it.1);
    kept = wrote.changed.kept;
    left = wrote.changed.left;
  };
  ready = wrote.ready;
}
