-- Why a read answers a fault of the store (90).
use Rattle.std.proofs.Common.{◌≡◌, inl, inr, sym, ap, subst, ◌∙◌, true, false, arith, Result, Ok, Err, IfErr, IsSome}
use Rattle.std.proofs.lemmas.Bool.{cases_Bool}
use Rattle.sqlite_trees.specs.declared.error.StoreError.{StoreError}
use Rattle.sqlite_trees.specs.declared.error.StoreError.TheVariants as cause
use Rattle.sqlite.specs.Effect.{Database}
use Rattle.sqlite.specs.State.{State, HasCause, HasCleanDisk, store_error}
use Rattle.tables.specs.Calls.{Failed, GivesNoRows, HasStepLimit, ReadAs}
use Rattle.tables.specs.Faults.{table_fault_of}
use Rattle.tables.specs.declared.table_fault.TableFault.{TableFault}
use Rattle.tables.specs.declared.table_fault.TableFault.TheVariants as table_fault
use Rattle.state_rows.specs.Faults.{store_fault_of}
use Rattle.state_rows.specs.Rows.{outside_segment}
use Rattle.state_rows.specs.declared.fault.StoreFault.{StoreFault}
use Rattle.state_rows.specs.declared.fault.StoreFault.TheVariants.{Memory, Store}
use Rattle.roster.specs.State as roster
use Rattle.state_rows.specs.Kept.{IsBookOf}
use Rattle.entries.specs.Right.{AreRight}
use Rattle.lookup.specs.Reads.{ChangesNothing, HasStoreCause, IsCausedIfStore, IsReadFault, ReadsByKey, Shows, Stays, HaveNone}

-- ---- One read

failed_for : (old new : State) (why : StoreError) → HasCause old new ⊥ why → store_fault_of (table_fault_of (store_error why)) ≡ Store → HasStoreCause old new
failed_for old new cause.OutOfMemory h is = absurd (cc)
failed_for old new cause.Io h is = inl h
failed_for old new cause.Corrupt h is = inl h
failed_for old new cause.Full h is = inl h
failed_for old new cause.Broken h is = inr (inl h)
failed_for old new cause.Unstorable h is = absurd h

failed : (old new : State) (fault : TableFault) → Failed ⊥ old new fault → store_fault_of fault ≡ Store → HasStoreCause old new
failed old new fault it is =
    failed_for old new it.1.0 it.1.2 (ap (λ e. store_fault_of (table_fault_of e)) (sym it.1.1) ∙ ap store_fault_of (sym it.2) ∙ is)

module _ (old new : State) (damaged : Type 0) (wrong : damaged → AreRight outside_segment old.now → ⊥) where
  refused : (fault : TableFault) → GivesNoRows (HasStepLimit old) damaged fault → store_fault_of fault ≡ Store → HasStoreCause old new
  refused table_fault.Store h is = inr (inr (inl h))
  refused table_fault.Memory h is = absurd (cc)
  refused table_fault.NotARecord h is = inr (inr (inr (wrong h)))

-- of a read of a table whose rows are records where all is right
pub read_cause : {A : Type 0} (Is : Database → A → Type 0) (IsDamaged : Database → Type 0) (old new : State) (fault : TableFault) → (IsDamaged old.now → AreRight outside_segment old.now → ⊥) →
    ReadAs Is IsDamaged (HasStepLimit old) old new (Err fault) → HasCleanDisk new → store_fault_of fault ≡ Store → HasStoreCause old new
read_cause Is IsDamaged old new fault wrong read clean is = elim (read clean) [
  | inl it ↦ failed old new fault it is
  | inr it ↦ refused old new (IsDamaged old.now) wrong fault it.1 is
]

-- a read by key whose rows were not read
pub not_told : {B : Type 0} (Is : roster.State → B → Type 0) (old new : State) (fault : StoreFault) → Stays old new → IsCausedIfStore old new fault → ReadsByKey Is old new (Err fault)
not_told Is old new fault stays caused = record { stays = stays; opened = tt; told = λ clean s shows. tt; caused = λ s shows. caused }

pub no_memory : {B : Type 0} (Is : roster.State → B → Type 0) (old new : State) → Stays old new → ReadsByKey Is old new (Err Memory)
no_memory Is old new stays = record { stays = stays; opened = tt; told = λ clean s shows. tt; caused = λ s shows clean is. absurd (cc) }

-- ---- Reads in turn

shut_then : (a b c : State) → ChangesNothing a b → ChangesNothing b c → HasCleanDisk c → b.is_open ≡ false → HasStoreCause a c
shut_then a b c p q clean shut = elim (cases_Bool a.is_open) [
  | inl opened ↦ elim (p.still_open (q.nothing_new.disk clean) opened) [
    | inl still ↦ absurd (let no : true ≡ false = sym still ∙ shut in cc)
    | inr more ↦ inl (omega (arith, more, q.faults))
  ]
  | inr was ↦ inr (inl was)
]

-- a later read has a cause among those of all
pub cause_then : (a b c : State) → ChangesNothing a b → ChangesNothing b c → HasCleanDisk c → HasStoreCause b c → HasStoreCause a c
cause_then a b c p q clean (inl more) = inl (omega (arith, more, p.faults))
cause_then a b c p q clean (inr (inl shut)) = shut_then a b c p q clean shut
cause_then a b c p q clean (inr (inr (inl limit))) = inr (inr (inl (subst (λ l. IsSome l) p.limit limit)))
cause_then a b c p q clean (inr (inr (inr wrong))) = elim (cases_Bool b.is_open) [
  | inl opened ↦ inr (inr (inr (λ right. wrong (subst (AreRight outside_segment) (sym (p.still_shown (q.nothing_new.disk clean) opened).1) right))))
  | inr shut ↦ shut_then a b c p q clean shut
]

-- what was shown is shown after a read
pub shows_on : (a b : State) (s : roster.State) → ChangesNothing a b → Shows a s → Shows b s
shows_on a b s p shows = record {
  sound = shows.sound;
  instants = shows.instants;
  book = λ clean opened. let it = p.still_shown clean opened in subst (λ (db : Database). IsBookOf s db) (sym it.1) (shows.book (p.nothing_new.disk clean) it.0);
}

pub fault_then : (a b c : State) (fault : StoreFault) → ChangesNothing a b → ChangesNothing b c → IsReadFault b c fault → IsReadFault a c fault
fault_then a b c fault p q caused s shows clean is = cause_then a b c p q clean (caused s (shows_on a b s p shows) clean is)

-- out of memory is no fault of the store
pub memory_fault : (a b : State) (fault : StoreFault) → fault ≡ Memory → IsReadFault a b fault
memory_fault a b fault memory s shows clean is = absurd (let no : Memory ≡ Store = sym memory ∙ is in cc)

-- ---- What is read is of no entry

pub wrong_there : (old new : State) → (AreRight outside_segment old.now → ⊥) → HasStoreCause old new
wrong_there old new wrong = inr (inr (inr wrong))

-- a fact of the records is why they are refused, which they have not where all is right
pub wrong_cause : {A : Type 0} (Why : Type 0) (old new : State) (result : Result A StoreFault) → IfErr result (λ fault. fault ≡ Store → Why) →
    (HasCleanDisk new → (s : roster.State) → Shows old s → AreRight outside_segment old.now → Why → ⊥) → IfErr result (IsReadFault old new)
wrong_cause Why old new (Ok a) why none = tt
wrong_cause Why old new (Err fault) why none = λ s shows clean is. wrong_there old new (λ right. none clean s shows right (why is))

pub told_cause : {A : Type 0} (Told : A → Type 0) (old new : State) (result : Result A StoreFault) → IfErr result (λ fault. fault ≡ Store → HaveNone Told) →
    (HasCleanDisk new → (s : roster.State) → Shows old s → AreRight outside_segment old.now → (found : A) × Told found) →
    IfErr result (IsReadFault old new)
told_cause Told old new result none some =
    wrong_cause (HaveNone Told) old new result none (λ clean s shows right unread. let it = some clean s shows right in unread it.0 it.1)
