-- Tables that are read one after the other, and what a refusal of one says.
use Rattle.std.proofs.Common.{◌≡◌, inl, inr, sym, subst, ◌∙◌, arith, true, false, IsSome, List, map, Result, Ok, Err, IfOk, MatchResult}
use Rattle.sqlite_value.specs.Order.{Row}
use Rattle.sqlite.proofs.StateLemmas.{survives_then}
use Rattle.sqlite.specs.Effect.{Database}
use Rattle.sqlite.specs.State.{State, HasCleanDisk, IsUnchanged}
use Rattle.tables.specs.Calls.{CrashLeavesNoMore, IsInOrder}
use Rattle.state_rows.proofs.Outcomes.{clean_before}
use Rattle.loading.proofs.Telling.{or_fails, uncaused}
use Rattle.loading.specs.Loading.{HasReadCause, IsCaused}
use Rattle.loading.specs.Reading.{ReadsAs, HasRows, IsUnreadable, BlamesOrFails}
use Rattle.entries.specs.Faults.{Blames}
use Rattle.state_rows.specs.Rows.{StateTable, table}
use Rattle.entries.specs.declared.fault.LoadFault.{LoadFault}
use Rattle.entries.specs.declared.fault.LoadFault.TheVariants.{NotABook, Version, Damaged, Fault}
use Rattle.entries.specs.declared.fault.TableName as name

-- a fault of a table, for a reason that is one for more
pub blames_for : (its : name.TableName) (Why More : Type 0) → (Why → More) → (fault : LoadFault) → BlamesOrFails its Why fault → BlamesOrFails its More fault
blames_for its Why More f NotABook blame = absurd blame
blames_for its Why More f Version blame = absurd blame
blames_for its Why More f (Damaged other) blame = (blame.0, f blame.1)
blames_for its Why More f (Fault fault) blame = tt

-- what holds of whatever is read
pub if_read : {A : Type 0} (Is Also : A → Type 0) (Refuses : LoadFault → Type 0) → ((a : A) → Is a → Also a) → (result : Result A LoadFault) → MatchResult result Is Refuses → IfOk result Also
if_read Is Also Refuses f (Ok a) is = f a is
if_read Is Also Refuses f (Err fault) is = tt

-- ---- A table whose records are read, and then looked at

module _ {R A : Type 0} (it : StateTable) (its : name.TableName) (IsRecord : Row → Type 0) (row : R → Row) (IsRight : Type 0) (Tells : A → Type 0)
    (old new : State) (left : CrashLeavesNoMore old new) where
  pub not_read : (fault : LoadFault) → (HasCleanDisk old → IsUnreadable it IsRecord old.now → IsRight → ⊥) →
      (HasCleanDisk new → BlamesOrFails its (IsUnreadable it IsRecord old.now) fault) → (HasCleanDisk new → IsCaused old new fault) → ReadsAs Tells (BlamesOrFails its (IsRight → ⊥)) old new (Err fault)
  not_read fault unreadable told caused = record {
    told = λ clean. blames_for its (IsUnreadable it IsRecord old.now) (IsRight → ⊥) (unreadable (clean_before old new left clean)) fault (told clean);
    caused = caused;
    left = left;
  }

  module _ (records seen : List R) (same : seen ≡ records) (Found : List R → A → Type 0) (Wanting : List R → Type 0)
      (saw : HasCleanDisk new → IsUnchanged old new × HasRows it old.now (map row records))
      (right : HasCleanDisk old → HasRows it old.now (map row records) → (a : A) → Found records a → Tells a)
      (wrong : HasCleanDisk old → HasRows it old.now (map row records) → Wanting records → IsRight → ⊥) where
    pub is_read : (result : Result A LoadFault) → MatchResult result (Found seen) (Blames its (Wanting seen)) → ReadsAs Tells (BlamesOrFails its (IsRight → ⊥)) old new result
    is_read (Ok a) done = record {
      told = λ clean.
          let both = saw clean in
          (both.0, right (clean_before old new left clean) both.1 a (subst (λ l. Found l a) same done));
      caused = λ clean. tt;
      left = left;
    }
    is_read (Err fault) blame = record {
      told = λ clean.
          blames_for its (Wanting records) (IsRight → ⊥) (wrong (clean_before old new left clean) (saw clean).1) fault
          (or_fails its (Wanting records) fault (subst (λ l. Blames its (Wanting l) fault) same blame));
      caused = λ clean. uncaused old new its (Wanting seen) fault blame;
      left = left;
    }

-- ---- One read after the other

unchanged_then : (a b c : State) → IsUnchanged a b → IsUnchanged b c → IsUnchanged a c
unchanged_then a b c one two = (
  record {
    was_open = one.0.was_open;
    is_open = two.0.is_open;
    now_is = two.0.now_is ∙ one.0.now_is;
    committed_is = two.0.committed_is ∙ one.0.committed_is;
    mode = two.0.mode ∙ one.0.mode;
  },
  record { changes = two.1.changes ∙ one.1.changes; last_rowid = two.1.last_rowid ∙ one.1.last_rowid },
  two.2 ∙ one.2,
)

left_then : (a b c : State) → CrashLeavesNoMore a b → CrashLeavesNoMore b c → CrashLeavesNoMore a c
left_then a b c one two = survives_then a b c _ _ _ (λ _ _ none. none) (λ _ _ none. none) one two

-- a read after another has a cause among those of both
cause_then : (a b c : State) → IsUnchanged a b → CrashLeavesNoMore a b → HasReadCause b c → HasReadCause a c
cause_then a b c same one (inl more) = inl (omega (arith, more, one.counts))
cause_then a b c same one (inr (inl shut)) = absurd (let no : true ≡ false = sym same.0.is_open ∙ shut in cc)
cause_then a b c same one (inr (inr (inl limit))) = inr (inr (inl (subst (λ l. IsSome l) one.limit limit)))
cause_then a b c same one (inr (inr (inr unordered))) = inr (inr (inr (unordered.0, subst (λ db. IsInOrder (table unordered.0) db → ⊥) same.0.now_is unordered.1)))

pub then_saw : {A B : Type 0} (Is : A → Type 0) (Refuses : LoadFault → Type 0) (IsNext : Database → B → Type 0) (RefusesNext : Database → LoadFault → Type 0)
    (a : A) (old mid new : State) (result : Result B LoadFault) → ReadsAs Is Refuses old mid (Ok a) → ReadsAs (IsNext mid.now) (RefusesNext mid.now) mid new result →
    ReadsAs (IsNext old.now) (RefusesNext old.now) old new result
then_saw Is Refuses IsNext RefusesNext a old mid new (Ok b) one two = record {
  told = λ clean.
      let first = one.told (clean_before mid new two.left clean) in
      let second = two.told clean in
      (unchanged_then old mid new first.0 second.0, subst (λ db. IsNext db b) first.0.0.now_is second.1);
  caused = λ clean. tt;
  left = left_then old mid new one.left two.left;
}
then_saw Is Refuses IsNext RefusesNext a old mid new (Err fault) one two = record {
  told = λ clean.
      let first = one.told (clean_before mid new two.left clean) in
      subst (λ db. RefusesNext db fault) first.0.0.now_is (two.told clean);
  caused = λ clean is. cause_then old mid new (one.told (clean_before mid new two.left clean)).0 one.left (two.caused clean is);
  left = left_then old mid new one.left two.left;
}

-- what follows from what was read
pub told_as : {A : Type 0} (Is Tells : A → Type 0) (Refuses : LoadFault → Type 0) → ((a : A) → Is a → Tells a) → (old new : State) (result : Result A LoadFault) →
    ReadsAs Is Refuses old new result → ReadsAs Tells Refuses old new result
told_as Is Tells Refuses f old new (Ok a) read = record { told = λ clean. let it = read.told clean in (it.0, f a it.1); caused = read.caused; left = read.left }
told_as Is Tells Refuses f old new (Err fault) read = record { told = read.told; caused = read.caused; left = read.left }

-- a refusal says nothing of what an answer would say
pub refused_as : {A B : Type 0} (Is : A → Type 0) (Tells : B → Type 0) (Refuses : LoadFault → Type 0) (old new : State) (fault : LoadFault) → ReadsAs Is Refuses old new (Err fault) →
    ReadsAs Tells Refuses old new (Err fault)
refused_as Is Tells Refuses old new fault read = record { told = read.told; caused = read.caused; left = read.left }

-- what was said of the database before a read holds of it after
pub seen_here : {A : Type 0} (Is : Database → A → Type 0) (Refuses : LoadFault → Type 0) (a : A) (old new : State) → ReadsAs (Is old.now) Refuses old new (Ok a) → HasCleanDisk new → Is new.now a
seen_here Is Refuses a old new saw clean = let it = saw.told clean in subst (λ db. Is db a) (sym it.0.0.now_is) it.1

-- what was known of the database before a read is known of it after
pub still_here : {A : Type 0} (P : Database → Type 0) (Is : A → Type 0) (Refuses : LoadFault → Type 0) (a : A) (old new : State) → ReadsAs Is Refuses old new (Ok a) → (HasCleanDisk old → P old.now) →
    HasCleanDisk new → P new.now
still_here P Is Refuses a old new saw before clean = subst P (sym (saw.told clean).0.0.now_is) (before (clean_before old new saw.left clean))
