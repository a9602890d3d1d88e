-- From what one command did to what is said of it.
use Rattle.std.proofs.Common.{◌≡◌, ◌≤◌, arith, inl, inr, refl, sym, ap, subst, ◌∙◌, false, IsTrue, Result, Ok, Err, OnOk, OnErr, IfErr, IfOk}
use Rattle.std.proofs.lemmas.Bool.{cases_Bool}
use Rattle.sqlite_trees.specs.Tree.{Trees}
use Rattle.sqlite.specs.State as conn
use Rattle.sqlite.specs.State.{HasCleanDisk}
use Rattle.sqlite.specs.Effect.{Database}
use Rattle.stored_json.specs.Laws.{IsCommand}
use Rattle.roster.specs.Folds.{Asked, answer_of}
use Rattle.roster.specs.State.{State}
use Rattle.roster.specs.Steps.{after}
use Rattle.roster.specs.declared.change.Change.{Change}
use Rattle.roster.specs.declared.change.Verdict.{Verdict}
use Rattle.state_rows.specs.declared.fault.StoreFault.{StoreFault}
use Rattle.state_rows.specs.declared.fault.StoreFault.TheVariants.{Store, Memory}
use Rattle.entries.specs.Right.{IsKey}
use Rattle.lookup.specs.Reads.{ChangesNothing, HasStoreCause, IsOpen, IsReadFault, Shows}
use Rattle.state_rows.specs.Kept.{HoldBookOf, IsBookOf}
use Rattle.writing.specs.Beside.{KeepOthers}
use Rattle.writing.specs.Next.{IsAcceptedChange}
use Rattle.store.proofs.TypedRows.{typed_right}
use Rattle.store.specs.Typed.{HasUtf8, IsTypedChange}
use Rattle.state_rows.specs.Outcomes.{CrashAddsNothing, CrashAddsOnly, HoldsNow, CrashLeaves, CrashLeavesSome, StaysOpen, StillShows, IsEither, IsJust}
use Rattle.book.specs.Asking.{StepOutcome, Done}
use Rattle.book.specs.Headline.{MakesNoChange}
use Rattle.book.specs.Kept.{HasCauseElsewhere, IsCausedElsewhere, HasOne, IsAnswerBy, IsKept, Keeps, StillHolds, IsEitherKept, is_store_fault, result_of}
use Rattle.book.specs.declared.answer.Answer.{Answer}
use Rattle.book.proofs.States.{both_kept, kept_after, kept_instants, shows_still, shown_before, keeps_as, shows_as, either_as, still_as, same_state, one_of_either, still_keeps}

-- ---- Where a state has another name

module _ (now : conn.State) (s t : State) (same : HasCleanDisk now → t ≡ s) where
  keeps_if : Keeps now s → Keeps now t
  keeps_if keeps = record {
    kept = λ clean. subst IsKept (sym (same clean)) (keeps.kept clean);
    leaves = record { crash = λ clean trees may. let it = keeps.leaves.crash clean trees may in (it.0, it.1 ∙ sym (same clean), it.2) };
    some = keeps.some;
  }

  holds_if : StillHolds now s → StillHolds now t
  holds_if shown clean opened = subst (λ (x : State). IsBookOf x now.now) (sym (same clean)) (shown clean opened)

  now_if : HoldsNow now s → HoldsNow now t
  now_if shown clean = let it = shown clean in (it.0, subst (λ (x : State). IsBookOf x now.now) (sym (same clean)) it.1)

  leaves_if : (was : State) → CrashLeaves now (IsEitherKept was s) → CrashLeaves now (IsEitherKept was t)
  leaves_if was leaves = record {
    crash = λ clean trees may. subst (λ (x : State). (r : State) × IsEitherKept was x r × HoldBookOf trees r) (sym (same clean)) (leaves.crash clean trees may);
  }

-- ---- A read

-- a state that a crash would leave, and that is shown while the connection is open, is shown to who reads by key
pub shows_it : (now : conn.State) (s : State) → Keeps now s → StillHolds now s → HasCleanDisk now → Shows now s
shows_it now s keeps shown clean = record { sound = (keeps.kept clean).sound; instants = kept_instants s (keeps.kept clean); book = shown }

-- what was shown is shown while it is
pub shown_on : (old new : conn.State) (s : State) → (HasCleanDisk new → HasCleanDisk old) → StillShows old new → StillHolds old s → StillHolds new s
shown_on old new s honest still shown clean opened =
    let it = still clean opened in
    subst (λ (db : Database). IsBookOf s db) (sym it.1) (shown (honest clean) it.0)

-- what was not touched leaves what it left before
pub adds_none : (now : conn.State) (P : Trees → Type 0) → CrashAddsOnly now now P
adds_none now P = record { crash = λ clean trees may. inl may }

pub adds_nothing_more : (old new : conn.State) (P : Trees → Type 0) → CrashAddsNothing old new → CrashAddsOnly old new P
adds_nothing_more old new P left = record { crash = λ clean trees may. inl (left.crash clean trees may) }

-- the tables of a book are right, and so are no cause of a fault
pub elsewhere : (old new : conn.State) (s : State) → Keeps old s → StillHolds old s → HasCleanDisk old → HasStoreCause old new → HasCauseElsewhere old new
elsewhere old new s keeps shown clean (inl faults) = inl faults
elsewhere old new s keeps shown clean (inr (inl shut)) = inr (inl shut)
elsewhere old new s keeps shown clean (inr (inr (inl limit))) = inr (inr limit)
elsewhere old new s keeps shown clean (inr (inr (inr wrong))) =
    let kept = keeps.kept clean in
    elim (cases_Bool old.is_open) [
      | inl opened ↦ absurd (wrong (s, typed_right s old.now kept.sound kept.typed (inr (shown clean opened))))
      | inr shut ↦ inr (inl shut)
    ]

-- a fault of the reads of a book in a state has a cause
pub read_fault : {A : Type 0} (old new : conn.State) (s : State) (result : Result A StoreFault) → (HasCleanDisk new → HasCleanDisk old) → Keeps old s → StillHolds old s →
    IfErr result (IsReadFault old new) → IfErr result (IsCausedElsewhere old new)
read_fault old new s (Ok a) disk keeps shown fault = tt
read_fault old new s (Err fault) disk keeps shown caused = λ clean is.
    let was = disk clean in
    elsewhere old new s keeps shown was (caused s (shows_it old s keeps shown was) clean is)

-- ---- The answer that a verdict gives

-- it is that of the step
pub answered_as : (verdict : Result Verdict StoreFault) (answer : Result Answer StoreFault) (step : Verdict) → IsAnswerBy verdict answer → IfOk verdict (λ v. v ≡ step) →
    IfOk answer (λ a. result_of a ≡ answer_of step)
answered_as (Ok v) (Ok a) step is same = is ∙ ap answer_of same
answered_as (Ok v) (Err fault) step is same = tt
answered_as (Err fault) (Ok a) step is same = absurd is
answered_as (Err fault) (Err other) step is same = tt

-- a fault is passed on
pub passes_fault : (P : StoreFault → Type 0) (verdict : Result Verdict StoreFault) (answer : Result Answer StoreFault) → IsAnswerBy verdict answer → IfErr verdict P → IfErr answer P
passes_fault P (Ok v) (Ok a) is it = tt
passes_fault P (Ok v) (Err fault) is it = absurd is
passes_fault P (Err fault) (Ok a) is it = absurd is
passes_fault P (Err fault) (Err other) is it = subst P (sym is) it

one_fault : (fault : StoreFault) → is_store_fault {A = Answer} (Err fault) ≡ is_store_fault {A = Verdict} (Err fault)
one_fault Store = refl
one_fault Memory = refl

pub fails_alike : (verdict : Result Verdict StoreFault) (answer : Result Answer StoreFault) → IsAnswerBy verdict answer → is_store_fault verdict ≡ is_store_fault answer
fails_alike (Ok v) (Ok a) is = refl
fails_alike (Ok v) (Err fault) is = absurd is
fails_alike (Err fault) (Ok a) is = absurd is
fails_alike (Err fault) (Err other) is = sym (ap (λ (f : StoreFault). is_store_fault {A = Answer} (Err f)) is ∙ one_fault fault)

pub opens_alike : (P : Type 0) (verdict : Result Verdict StoreFault) (answer : Result Answer StoreFault) → IsAnswerBy verdict answer → OnOk verdict P → OnOk answer P
opens_alike P (Ok v) (Ok a) is it = it
opens_alike P (Ok v) (Err fault) is it = tt
opens_alike P (Err fault) (Ok a) is it = absurd is
opens_alike P (Err fault) (Err other) is it = tt

-- ---- Faults

-- what is answered where nothing is changed is no fault of the store
pub no_fault : {A : Type 0} (old new : conn.State) (result : Result A StoreFault) → (HasCleanDisk new → is_store_fault result ≡ false) → IfErr result (IsCausedElsewhere old new)
no_fault old new (Ok a) none = tt
no_fault old new (Err Store) none = λ clean is. absurd (let no = none clean in cc)
no_fault old new (Err Memory) none = λ clean is. absurd (cc)

-- a book means one state, whichever name that has
pub of_same : {A : Type 0} (old new : conn.State) (it s : State) (asked : Asked) (result : Result A StoreFault) → (HasCleanDisk new → HasCleanDisk old) → (HasCleanDisk old → it ≡ s) →
    MakesNoChange s asked → (MakesNoChange it asked → IfErr result (IsCausedElsewhere old new)) → IfErr result (IsCausedElsewhere old new)
of_same old new it s asked (Ok a) disk same change caused = tt
of_same old new it s asked (Err fault) disk same change caused = λ clean. caused (subst (λ (x : State). MakesNoChange x asked) (sym (same (disk clean))) change) clean

-- nothing could be read
pub did_not_read : {A : Type 0} (old new : conn.State) (was wanted : State) (fault : StoreFault) → ChangesNothing old new → CrashLeavesSome new →
    Keeps old was → StillHolds old was → StepOutcome {A = A} old new was wanted (Err fault)
did_not_read old new was wanted Memory read some keeps shown = record {
  disk = read.nothing_new.disk;
  some_left = some;
  others_left = adds_nothing_more old new _ read.nothing_new;
  faults = read.faults;
  limit = read.limit;
  still_open = λ _. read.still_open;
  done = (still_keeps old new was read.nothing_new some keeps, shown_on old new was read.nothing_new.disk read.still_shown shown);
}
did_not_read old new was wanted Store read some keeps shown = record {
  disk = read.nothing_new.disk;
  some_left = some;
  others_left = adds_nothing_more old new _ read.nothing_new;
  faults = read.faults;
  limit = read.limit;
  still_open = λ no. absurd (cc);
  done = (one_of_either new was wanted (still_keeps old new was read.nothing_new some keeps), shown_on old new was read.nothing_new.disk read.still_shown shown);
}

-- what was done after a read is done from before it
module _ (old mid new : conn.State) (was wanted : State) (read : ChangesNothing old mid) (opened : IsOpen mid) where
  pub shows_same : HasCleanDisk mid → IsTrue old.is_open × (mid.now ≡ old.now)
  shows_same clean = read.still_shown clean (opened clean)

  held_before : HoldsNow old was → HoldsNow mid was
  held_before shown clean = (opened clean, subst (λ (db : Database). IsBookOf was db) (sym (shows_same clean).1) (shown (read.nothing_new.disk clean)).1)

  after_read : {A : Type 0} (r : Result A StoreFault) → Done mid new was wanted r → Done old new was wanted r
  after_read (Ok a) done = (done.0, done.1, λ shown. done.2 (held_before shown))
  after_read (Err Memory) done = done
  after_read (Err Store) done = done

  others_after : (HasCleanDisk new → HasCleanDisk mid) → CrashAddsOnly mid new (KeepOthers mid.now) → CrashAddsOnly old new (KeepOthers old.now)
  others_after clean adds = record {
    crash = λ c trees may. elim (adds.crash c trees may) [
      | inl was ↦ inl (read.nothing_new.crash (clean c) trees was)
      | inr keeps ↦ inr (subst (λ (db : Database). KeepOthers db trees) (shows_same (clean c)).1 keeps)
    ];
  }

  still_after : (HasCleanDisk new → HasCleanDisk mid) → StaysOpen mid new → StaysOpen old new
  still_after clean stays c was = elim (stays c (opened (clean c))) [
    | inl is ↦ inl is
    | inr more ↦ inr (omega (arith, more, read.faults))
  ]

  pub did_after : {A : Type 0} (result : Result A StoreFault) → StepOutcome mid new was wanted result → StepOutcome old new was wanted result
  did_after result did = record {
    disk = λ clean. read.nothing_new.disk (did.disk clean);
    some_left = did.some_left;
    others_left = others_after did.disk did.others_left;
    faults = omega (arith, read.faults, did.faults);
    limit = did.limit ∙ read.limit;
    still_open = λ is. still_after did.disk (did.still_open is);
    done = after_read result did.done;
  }

-- ---- An answer

-- there was no memory for it
pub did_nothing : {A : Type 0} (now : conn.State) (was wanted : State) → Keeps now was → StillHolds now was → StepOutcome {A = A} now now was wanted (Err Memory)
did_nothing now was wanted keeps shown = record {
  disk = λ clean. clean;
  some_left = keeps.some;
  others_left = adds_none now _;
  faults = omega arith;
  limit = refl;
  still_open = λ _ clean is. inl is;
  done = (keeps, shown);
}

-- it was answered with the same state
pub did_answer : {A : Type 0} (now : conn.State) (was wanted : State) (a : A) → Keeps now was → StillHolds now was → (HasCleanDisk now → wanted ≡ was) → StepOutcome now now was wanted (Ok a)
did_answer now was wanted a keeps shown same = record {
  disk = λ clean. clean;
  some_left = keeps.some;
  others_left = adds_none now _;
  faults = omega arith;
  limit = refl;
  still_open = λ no. absurd (cc);
  done = (keeps_if now was wanted same keeps, holds_if now was wanted same shown, now_if now was wanted same);
}

module _ (old new : conn.State) (was : State) (change : Change) (keeps : Keeps old was) (held : StillHolds old was) (next : HasCleanDisk old → IsAcceptedChange was change) (clean : HasCleanDisk new → HasCleanDisk old) (some : CrashLeavesSome new)
    (others : CrashAddsOnly old new (KeepOthers old.now)) (counts : old.faults ≤ new.faults) (limit : new.step_limit ≡ old.step_limit)
    (types : IsKey change.key × HasUtf8 change.command) where
  of_types : IsCommand change.command → IsTypedChange change
  of_types command = record { key = types.0; command = command; utf8 = types.1 }

  -- it was kept
  pub did_keep : {A : Type 0} (a : A) → IsCommand change.command →
      (IsAcceptedChange was change → CrashLeaves old (IsJust was) → CrashLeaves new (IsJust (after was change))) →
      (IsAcceptedChange was change → CrashLeaves old (IsJust was) → HoldsNow new (after was change)) → StepOutcome old new was (after was change) (Ok a)
  did_keep a command ok made =
      let shown : HoldsNow new (after was change) = λ c. made (next (clean c)) keeps.leaves c in
      record {
        disk = clean;
        some_left = some;
        others_left = others;
        faults = counts;
        limit = limit;
        still_open = λ no. absurd (cc);
        done = (
          record {
            kept = λ c. let n = next (clean c) in kept_after was n.key n.instruction change n.reply (of_types command) (keeps.kept (clean c)) n.accepted;
            leaves = record { crash = λ c trees may. (ok (next (clean c)) keeps.leaves).crash c trees may };
            some = some;
          },
          shows_still new (after was change) shown,
          λ _. shown,
        );
      }

  -- it was not, or nobody knows
  pub did_fail : {A B : Type 0} (fault : StoreFault) →
      (CrashLeaves old (IsJust was) → ◌≡◌ {A = Result B StoreFault} (Err fault) (Err Memory) → CrashLeaves new (IsJust was)) →
      (IsAcceptedChange was change → CrashLeaves old (IsJust was) → ◌≡◌ {A = Result B StoreFault} (Err fault) (Err Store) → CrashLeaves new (IsEither was (after was change))) →
      (◌≡◌ {A = Result B StoreFault} (Err fault) (Err Store) → IsCommand change.command) → StillShows old new →
      (◌≡◌ {A = Result B StoreFault} (Err fault) (Err Memory) → StaysOpen old new) → StepOutcome {A = A} old new was (after was change) (Err fault)
  did_fail Memory memory store command shown still_open = record {
    disk = clean;
    some_left = some;
    others_left = others;
    faults = counts;
    limit = limit;
    still_open = λ _. still_open refl;
    done = (
      record { kept = λ c. keeps.kept (clean c); leaves = memory keeps.leaves refl; some = some },
      shown_on old new was clean shown held,
    );
  }
  did_fail Store memory store command shown still_open = record {
    disk = clean;
    some_left = some;
    others_left = others;
    faults = counts;
    limit = limit;
    still_open = λ no. absurd (cc);
    done = (
      record {
        crash = λ c trees may.
            let it = (store (next (clean c)) keeps.leaves refl).crash c trees may in
            let n = next (clean c) in
            let first = keeps.kept (clean c) in
            let second = kept_after was n.key n.instruction change n.reply (of_types (command refl)) first n.accepted in
            (it.0, (it.1, both_kept was (after was change) it.0 it.1 first second), it.2);
      },
      shown_on old new was clean shown held,
    );
  }

-- the same, where the state that was wanted has another name
done_as : {A : Type 0} (old new : conn.State) (was wanted other : State) → (HasCleanDisk new → other ≡ wanted) → (r : Result A StoreFault) →
    Done old new was wanted r → Done old new was other r
done_as old new was wanted other same (Ok a) done =
    (keeps_if new wanted other same done.0, holds_if new wanted other same done.1, λ shown. now_if new wanted other same (done.2 shown))
done_as old new was wanted other same (Err Memory) done = done
done_as old new was wanted other same (Err Store) done = (leaves_if new wanted other same was done.0, done.1)

pub did_as : {A : Type 0} (old new : conn.State) (was wanted other : State) (result : Result A StoreFault) → (HasCleanDisk old → other ≡ wanted) → StepOutcome old new was wanted result → StepOutcome old new was other result
did_as old new was wanted other result same did = record {
  disk = did.disk;
  some_left = did.some_left;
  others_left = did.others_left;
  faults = did.faults;
  limit = did.limit;
  still_open = did.still_open;
  done = done_as old new was wanted other (λ clean. same (did.disk clean)) result did.done;
}

-- ---- What is said

-- a book that hasn't failed has one state
one_kept : {A : Type 0} (old new : conn.State) (was wanted : State) (result : Result A StoreFault) → Done old new was wanted result → is_store_fault result ≡ false → HasOne new
one_kept old new was wanted (Ok a) done is = record { it = wanted; keeps = done.0; shown = done.1 }
one_kept old new was wanted (Err Memory) done is = record { it = was; keeps = done.0; shown = done.1 }
one_kept old new was wanted (Err Store) done is = absurd (cc)

pub closes : {A : Type 0} (old new : conn.State) (was wanted : State) (result : Result A StoreFault) → StepOutcome old new was wanted result → CrashLeavesSome new × (is_store_fault result ≡ false → HasOne new)
closes old new was wanted result did = (did.some_left, one_kept old new was wanted result did.done)

module _ (old new : conn.State) (was : State) (of : State → State) (held : Keeps old was) (s : State) (keeps : Keeps old s) (clean : HasCleanDisk new → HasCleanDisk old) where
  pub told_ok : {A : Type 0} (result : Result A StoreFault) → Done old new was (of was) result → OnOk result (Keeps new (of s))
  told_ok (Ok a) done = keeps_as old new s was held keeps clean of (of was) done.0 refl
  told_ok (Err fault) done = tt

  pub told_tables : {A : Type 0} (result : Result A StoreFault) → Done old new was (of was) result → HoldsNow old s → OnOk result (HoldsNow new (of s))
  told_tables (Ok a) done shown = shows_as old new s was held keeps clean of (of was) (done.2 (shown_before old s was keeps held shown)) refl
  told_tables (Err fault) done shown = tt

  pub told_memory : {A : Type 0} (result : Result A StoreFault) → Done old new was (of was) result → result ≡ Err Memory → Keeps new s
  told_memory (Ok a) done is = absurd (cc)
  told_memory (Err Memory) done is = keeps_as old new s was held keeps clean (λ x. x) was done.0 refl
  told_memory (Err Store) done is = absurd (cc)

  pub told_store : {A : Type 0} (result : Result A StoreFault) → Done old new was (of was) result → result ≡ Err Store → CrashLeaves new (IsEitherKept s (of s))
  told_store (Ok a) done is = absurd (cc)
  told_store (Err Memory) done is = absurd (cc)
  told_store (Err Store) done is = either_as old new s was held keeps clean of done.0

  pub told_shown : {A : Type 0} (result : Result A StoreFault) → Done old new was (of was) result → OnErr result (StillHolds new s)
  told_shown (Ok a) done = tt
  told_shown (Err Memory) done = still_as old new s was held keeps clean done.1
  told_shown (Err Store) done = still_as old new s was held keeps clean done.1

  pub told_reply : {A B : Type 0} (result : Result A StoreFault) (answer : A → B) (reply : State → B) → IfOk result (λ a. answer a ≡ reply was) → HasCleanDisk new → IfOk result (λ a. answer a ≡ reply s)
  told_reply (Ok a) answer reply is c = is ∙ ap reply (same_state old was s held keeps (clean c))
  told_reply (Err fault) answer reply is c = tt

-- what is answered is answered by whatever is equal
pub reply_as : {A B E : Type 0} (result : Result A E) (answer : A → B) (a b : B) → IfOk result (λ x. answer x ≡ a) → a ≡ b → IfOk result (λ x. answer x ≡ b)
reply_as (Ok x) answer a b is same = is ∙ same
reply_as (Err fault) answer a b is same = tt
