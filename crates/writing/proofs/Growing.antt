-- One table, changed several times.
use Rattle.std.proofs.Common.{◌≡◌, ◌≢◌, ◌⊎◌, ◌↔◌, inl, inr, refl, sym, ap, subst, ◌∙◌, arith, ℕ, zero, suc, ◌+◌, List, [], ◌∷◌, Some, slice_get}
use Rattle.std.specs.List.{AllByRecursion}
use Rattle.sqlite_value.specs.Order.{Row}
use Rattle.sqlite_schema.specs.declared.schema.Table.{Table}
use Rattle.sqlite_rules.specs.Lists.{Has}
use Rattle.sqlite.specs.Effect.{Database}
use Rattle.tables.specs.Schema.{BookTable, IsTable}
use Rattle.tables.specs.Rows.{IsStored, Changes, rows_of, stored}
use Rattle.writing.specs.Calls.{Each, IsFit}
use Rattle.state_rows.specs.Rows.{StateTable, table}
use Rattle.state_rows.proofs.Lists.{some_same}
use Rattle.writing.proofs.Tables.{fit_after}

all_both : {X : Type 0} (P Q R : X → Type 0) → ((x : X) → P x → Q x → R x) → (xs : List X) → AllByRecursion P xs → AllByRecursion Q xs → AllByRecursion R xs
all_both P Q R f [] p q = tt
all_both P Q R f (x ∷ xs) p q = (f x p.0 q.0, all_both P Q R f xs p.1 q.1)

all_hold : {X : Type 0} (P : X → Type 0) → ((x : X) → P x) → (xs : List X) → AllByRecursion P xs
all_hold P f [] = tt
all_hold P f (x ∷ xs) = (f x, all_hold P f xs)

module _ (kept : BookTable) where
  abbrev Stays : Database → Database → Table → Type 0
  Stays old new t = t.name ≢ kept.name → new.trees t.tree ≡ old.trees t.tree

  -- nothing has changed
  pub unchanged : (old new : Database) (Is : Row → Type 0) → new ≡ old → ((x : Row) → Has (rows_of kept old) x ↔ Is x) → Changes kept old new Is
  unchanged old new Is same is = record {
    schema = ap (λ (d : Database). d.schema) same;
    has = λ x h. (is x).0 (subst (λ d. Has (rows_of kept d) x) same h);
    all = λ x h. subst (λ d. Has (rows_of kept d) x) (sym same) ((is x).1 h);
    others = all_hold (Stays old new) (λ t _. ap (λ (d : Database). d.trees t.tree) same) old.schema.tables;
    keeps = λ other there apart. ap (stored other) same;
    stored = λ numbered. subst (IsStored kept) (sym same) numbered;
  }

  -- one change after the other
  pub changed_twice : (a b c : Database) (P Q R : Row → Type 0) → Changes kept a b P → Changes kept b c Q → ((x : Row) → Q x ↔ R x) → Changes kept a c R
  changed_twice a b c P Q R one two same = record {
    schema = two.schema ∙ one.schema;
    has = λ x h. (same x).0 (two.has x h);
    all = λ x h. two.all x ((same x).1 h);
    others = all_both (Stays a b) (Stays b c) (Stays a c) (λ t p q other. q other ∙ p other) a.schema.tables one.others
        (subst (λ (s : List Table). AllByRecursion (Stays b c) s) (ap (λ s. s.tables) one.schema) two.others);
    keeps = λ other there apart. two.keeps other (subst (IsTable other) (sym one.schema) there) apart ∙ one.keeps other there apart;
    stored = λ numbered. two.stored (one.stored numbered);
  }

-- ---- Rows that are added for each value

-- it holds of some value at its place
abbrev pub SomeOf : {V : Type 0} → (ℕ → V → Row → Type 0) → ℕ → List V → Row → Type 0
SomeOf New from [] x = ⊥
SomeOf New from (v ∷ vs) x = New from v x ⊎ SomeOf New (suc from) vs x

pub record Placed {V : Type 0} (New : ℕ → V → Row → Type 0) (from : ℕ) (vs : List V) (x : Row) : Type 0 where
  pub place : ℕ
  pub value : V
  pub there : slice_get vs place ≡ Some value
  pub is : New (from + place) value x

pub placed : {V : Type 0} (New : ℕ → V → Row → Type 0) (from : ℕ) (vs : List V) (x : Row) → SomeOf New from vs x → Placed New from vs x
placed New from [] x h = absurd h
placed New from (v ∷ vs) x (inl now) = record {
  place = 0;
  value = v;
  there = refl;
  is = subst (λ n. New n v x) (let e : from ≡ from + 0 = omega arith in e) now;
}
placed New from (v ∷ vs) x (inr later) =
    let it = placed New (suc from) vs x later in
    record {
      place = suc it.place;
      value = it.value;
      there = it.there;
      is = subst (λ n. New n it.value x) (let e : suc from + it.place ≡ from + suc it.place = omega arith in e) it.is;
    }

pub some_of : {V : Type 0} (New : ℕ → V → Row → Type 0) (from : ℕ) (vs : List V) (x : Row) (place : ℕ) (v : V) → slice_get vs place ≡ Some v → New (from + place) v x → SomeOf New from vs x
some_of New from [] x place v at is = absurd (cc)
some_of New from (w ∷ vs) x zero v at is =
    inl (subst (λ u. New from u x) (sym (some_same at)) (subst (λ n. New n v x) (let e : from + 0 ≡ from = omega arith in e) is))
some_of New from (w ∷ vs) x (suc place) v at is =
    inr (some_of New (suc from) vs x place v at (subst (λ n. New n v x) (let e : from + suc place ≡ suc from + place = omega arith in e) is))

module _ {V : Type 0} (a : StateTable) (Is : ℕ → V → Database → Database → Type 0) (New : ℕ → V → Row → Type 0)
    (grows : (place : ℕ) (v : V) (old new : Database) → IsFit old → Is place v old new → Changes (table a) old new (λ x. New place v x ⊎ Has (rows_of (table a) old) x)) where
  pub each_grows : (from : ℕ) (vs : List V) (old new : Database) → IsFit old → Each Is from vs old new →
      Changes (table a) old new (λ x. SomeOf New from vs x ⊎ Has (rows_of (table a) old) x)
  each_grows from [] old new fit is = unchanged (table a) old new _ is (λ x. (λ h. inr h, λ h. elim h [ inl none ↦ absurd none | inr was ↦ was ]))
  each_grows from (v ∷ vs) old new fit is =
      let first = grows from v old is.0 fit is.1 in
      let rest = each_grows (suc from) vs is.0 new (fit_after old is.0 fit a _ first) is.2 in
      changed_twice (table a) old is.0 new _ _ _ first rest (λ x. (
        λ h. elim h [
          | inl later ↦ inl (inr later)
          | inr was ↦ elim (first.has x was) [ inl now ↦ inl (inl now) | inr before ↦ inr before ]
        ],
        λ h. elim h [
          | inl some ↦ elim some [ inl now ↦ inr (first.all x (inl now)) | inr later ↦ inl later ]
          | inr before ↦ inr (first.all x (inr before))
        ],
      ))
