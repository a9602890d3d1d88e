-- Which rows a test by first columns picks.
use Rattle.std.proofs.Common.{◌≡◌, inl, inr, refl, sym, ap, ◌∙◌, ℕ, ◌+◌, true, false, List, [], ◌∷◌, Ordering, Less, Equal, Greater}
use Rattle.std.specs.FinMap.{int_cmp-IsAntisymmetric}
use Rattle.std.specs.Ordering.{is_eq, int_cmp}
use Rattle.std.proofs.lemmas.Bool.{and_parts, and_from, cases_Bool, true≢false}
use Rattle.std.proofs.lemmas.Cmp.{tied_itself}
use Rattle.values.proofs.Names.{exact_names}
use Rattle.sqlite_value.specs.declared.value.Value.{Value}
use Rattle.sqlite_value.specs.declared.value.Value.TheVariants.{Null, Int, Real, Text, Blob}
use Rattle.sqlite_value.specs.Order.{Row, column, value_cmp}
use Rattle.sqlite_value.proofs.OrderLemmas.{value_cmp_total, value_cmp-Int, value_cmp-Text}
use Rattle.tables.specs.Rows.{begins_from, begins_with}

-- a text or a whole number
abbrev pub IsPlain : Value → Type 0
IsPlain (Int n) = Unit {0}
IsPlain (Text t) = Unit {0}
IsPlain _ = ⊥

equal_from : (o : Ordering) → is_eq o ≡ true → o ≡ Equal
equal_from Less e = absurd (cc)
equal_from Equal e = refl
equal_from Greater e = absurd (cc)

value_same : (a v : Value) → IsPlain a → IsPlain v → is_eq (value_cmp a v) ≡ true → a ≡ v
unfolding value_cmp
value_same (Int m) (Int n) p q e = ap Int (int_cmp-IsAntisymmetric m n (equal_from (int_cmp m n) (ap is_eq (sym (value_cmp-Int m n)) ∙ e)))
value_same (Int m) (Text t) p q e = absurd (cc)
value_same (Text s) (Int n) p q e = absurd (cc)
value_same (Text s) (Text t) p q e = ap Text (exact_names s t (equal_from _ (ap is_eq (sym (value_cmp-Text s t)) ∙ e)))
value_same (Int m) Null p q e = absurd q
value_same (Int m) (Real x) p q e = absurd q
value_same (Int m) (Blob b) p q e = absurd q
value_same (Text s) Null p q e = absurd q
value_same (Text s) (Real x) p q e = absurd q
value_same (Text s) (Blob b) p q e = absurd q
value_same Null v p q e = absurd p
value_same (Real x) v p q e = absurd p
value_same (Blob b) v p q e = absurd p

-- the columns from a place on are these
abbrev pub Columns : ℕ → List Value → Row → Type 0
Columns at [] row = Unit {0}
Columns at (v ∷ vs) row = (column row at ≡ v) × Columns (at + 1) vs row

-- they and what they are compared with are texts and numbers
abbrev pub ArePlain : ℕ → List Value → Row → Type 0
ArePlain at [] row = Unit {0}
ArePlain at (v ∷ vs) row = IsPlain (column row at) × IsPlain v × ArePlain (at + 1) vs row

passes_from : (at : ℕ) (vs : List Value) (row : Row) → Columns at vs row → begins_from at vs row ≡ true
passes_from at [] row c = refl
passes_from at (v ∷ vs) row c = and_from _ _ (ap (λ x. is_eq (value_cmp x v)) c.0 ∙ ap is_eq (tied_itself value_cmp_total v)) (passes_from (at + 1) vs row c.1)

found_from : (at : ℕ) (vs : List Value) (row : Row) → ArePlain at vs row → begins_from at vs row ≡ true → Columns at vs row
found_from at [] row p e = tt
found_from at (v ∷ vs) row p e =
    let parts = and_parts _ _ e in
    (value_same (column row at) v p.0 p.1 parts.0, found_from (at + 1) vs row p.2 parts.1)

module _ (vs : List Value) (row : Row) where
  pub passes : Columns 0 vs row → begins_with vs row ≡ true
  passes = passes_from 0 vs row

  pub found : ArePlain 0 vs row → begins_with vs row ≡ true → Columns 0 vs row
  found = found_from 0 vs row

  pub fails : ArePlain 0 vs row → (Columns 0 vs row → ⊥) → begins_with vs row ≡ false
  fails plain other = elim (cases_Bool (begins_with vs row)) [ inl passed ↦ absurd (other (found plain passed)) | inr failed ↦ failed ]

  pub others : begins_with vs row ≡ false → Columns 0 vs row → ⊥
  others failed c = true≢false (sym (passes c) ∙ failed)
