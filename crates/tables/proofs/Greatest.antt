-- The greatest value of a column, as max() gives it.
use Rattle.std.proofs.Common.{◌≡◌, ◌≢◌, ◌⊎◌, inl, inr, ◌≤ℤ◌, ℤ, Bool, true, false, true≢false, ◌||◌, List, [], ◌∷◌, ◌++◌, Ordering, Less, Equal, Greater, refl, sym, ap, subst, ◌∙◌, arith}
use Rattle.std.specs.Prelude.{fold, if◌then◌else◌}
use Rattle.std.specs.Ordering.{is_lt, int_cmp, ordering_reverse}
use Rattle.std.proofs.lemmas.Bool.{cases_Bool, or_cases, or_parts}
use Rattle.std.proofs.lemmas.Bool.Decides.{nat_tests}
use Rattle.std.proofs.lemmas.Cmp.{tied_itself}
use Rattle.std.proofs.lemmas.Int.{ints}
use Rattle.sqlite_value.specs.declared.keys.Collation.TheVariants.{Binary}
use Rattle.sqlite_value.specs.declared.value.Value.{Value}
use Rattle.sqlite_value.specs.declared.value.Value.TheVariants.{Null, Int}
use Rattle.sqlite_value.specs.Order.{value_cmp}
use Rattle.sqlite_value.proofs.OrderLemmas.{value_cmp_total, value_cmp-Int}
use Rattle.sqlite_sql.specs.Aggregate.{arguments, best, better, skips, is_among}
use Rattle.sqlite_sql.specs.Ops.{is_null}
use Rattle.sqlite_rules.specs.Lists.{Has}
use Rattle.sqlite_rules.proofs.ListLemmas.{has_left, has_right, has_either}

-- ---- the values that are not NULL

abbrev push : List Value → Value → List Value
push seen v = if skips Binary false seen v then seen else seen ++ v ∷ []

abbrev Pushed : Bool → List Value → Value → List Value
Pushed null seen v = if null || false then seen else seen ++ v ∷ []

one_pushed : (seen : List Value) (v x : Value) → Has (push seen v) x → Has seen x ⊎ ((x ≡ v) × (is_null v ≡ false))
one_pushed seen v x h =
    elim (is_null v) as (λ b. is_null v ≡ b → Has (Pushed b seen v) x → Has seen x ⊎ ((x ≡ v) × (is_null v ≡ false))) [
      | true ↦ λ _ was. inl was
      | false ↦ λ some now. elim (has_either seen (v ∷ []) x now) [
        | inl was ↦ inl was
        | inr new ↦ elim new [ inl same ↦ inr (same, some) | inr none ↦ absurd none ]
      ]
    ] refl h

one_keeps : (seen : List Value) (v x : Value) → Has seen x → Has (push seen v) x
one_keeps seen v x h = elim (is_null v) as (λ b. Has (Pushed b seen v) x) [ true ↦ h | false ↦ has_left seen (v ∷ []) x h ]

one_adds : (seen : List Value) (v : Value) → is_null v ≡ false → Has (push seen v) v
one_adds seen v some = rw some (has_right seen (v ∷ []) v (inl refl))

pushed_has : (seen vs : List Value) (x : Value) → Has (fold push seen vs) x → Has seen x ⊎ (Has vs x × (is_null x ≡ false))
pushed_has seen [] x h = inl h
pushed_has seen (v ∷ vs) x h = elim (pushed_has (push seen v) vs x h) [
  | inl was ↦ elim (one_pushed seen v x was) [ inl before ↦ inl before | inr new ↦ inr (inl new.0, ap is_null new.0 ∙ new.1) ]
  | inr later ↦ inr (inr later.0, later.1)
]

pushed_keeps : (seen vs : List Value) (x : Value) → Has seen x → Has (fold push seen vs) x
pushed_keeps seen [] x h = h
pushed_keeps seen (v ∷ vs) x h = pushed_keeps (push seen v) vs x (one_keeps seen v x h)

pushed_adds : (seen vs : List Value) (x : Value) → Has vs x → is_null x ≡ false → Has (fold push seen vs) x
pushed_adds seen [] x h some = absurd h
pushed_adds seen (v ∷ vs) x (inl same) some = pushed_keeps (push seen v) vs x (subst (Has (push seen v)) (sym same) (one_adds seen v (sym (ap is_null same) ∙ some)))
pushed_adds seen (v ∷ vs) x (inr later) some = pushed_adds (push seen v) vs x later some

arguments_has : (vs : List Value) (x : Value) → Has (arguments Binary false vs) x → Has vs x × (is_null x ≡ false)
arguments_has vs x h = elim (pushed_has [] vs x h) [ inl none ↦ absurd none | inr it ↦ it ]

-- ---- the order

abbrev AtLeast : Value → Value → Type 0
AtLeast a b = is_lt (value_cmp a b) ≡ false

less_is : (o : Ordering) → is_lt o ≡ true → o ≡ Less
less_is Less h = refl
less_is Equal h = absurd (true≢false (sym h))
less_is Greater h = absurd (true≢false (sym h))

not_less : (o : Ordering) → (o ≡ Less → ⊥) → is_lt o ≡ false
not_less Less none = absurd (none refl)
not_less Equal none = refl
not_less Greater none = refl

is_less : (o : Ordering) → o ≡ Less → is_lt o ≡ false → ⊥
is_less o same none = true≢false (ap is_lt (sym same) ∙ none)

above_less : (a b c : Value) → AtLeast a c → value_cmp b c ≡ Less → AtLeast a b
above_less a b c over less = not_less _ (λ below. is_less _ (value_cmp_total.trans a b c below less) over)

above_above : (a b c : Value) → AtLeast a b → AtLeast b c → AtLeast a c
above_above a b c over also = elim (value_cmp b c) as (λ o. value_cmp b c ≡ o → AtLeast a c) [
  | Less ↦ λ less. absurd (is_less _ less also)
  | Equal ↦ λ tied.
      let one : value_cmp a b ≡ value_cmp a c = value_cmp_total.antisymm a b ∙ ap ordering_reverse (value_cmp_total.congr b c a tied) ∙ sym (value_cmp_total.antisymm a c) in
      ap is_lt (sym one) ∙ over
  | Greater ↦ λ greater.
      let less : value_cmp c b ≡ Less = value_cmp_total.antisymm c b ∙ ap ordering_reverse greater in
      not_less _ (λ below. is_less _ (value_cmp_total.trans a c b below less) over)
] refl

-- ---- the best of some values

record Best (b : Value) (vs : List Value) (r : Value) : Type 0 where
  pub from : (r ≡ b) ⊎ Has vs r
  pub first : is_null b ≡ false → (is_null r ≡ false) × AtLeast r b
  pub over : (v : Value) → Has vs v → (is_null r ≡ false) × AtLeast r v

best_is : (b : Value) (vs : List Value) → ((v : Value) → Has vs v → is_null v ≡ false) → Best b vs (fold (better Binary true) b vs)
best_is b [] full = record { from = inl refl; first = λ some. (some, ap is_lt (tied_itself value_cmp_total b)); over = λ v h. absurd h }
best_is b (v ∷ vs) full = elim (cases_Bool (is_null b || is_lt (value_cmp b v))) [
  | inl takes ↦
      let rest = best_is v vs (λ w h. full w (inr h)) in
      let is : better Binary true b v ≡ v = rw takes refl in
      let its = rest.first (full v (inl refl)) in
      subst (λ x. Best b (v ∷ vs) (fold (better Binary true) x vs)) (sym is) (record {
        from = elim rest.from [ inl same ↦ inr (inl same) | inr later ↦ inr (inr later) ];
        first = λ some. (
          its.0,
          elim (or_cases _ _ takes) [
            | inl null ↦ absurd (true≢false (sym null ∙ some))
            | inr less ↦ above_less _ b v its.1 (less_is _ less)
          ],
        );
        over = λ w h. elim h [
          | inl same ↦ (its.0, subst (AtLeast (fold (better Binary true) v vs)) (sym same) its.1)
          | inr later ↦ rest.over w later
        ];
      })
  | inr stays ↦
      let parts = or_parts _ _ stays in
      let rest = best_is b vs (λ w h. full w (inr h)) in
      let is : better Binary true b v ≡ b = rw stays refl in
      let its = rest.first parts.0 in
      subst (λ x. Best b (v ∷ vs) (fold (better Binary true) x vs)) (sym is) (record {
        from = elim rest.from [ inl same ↦ inl same | inr later ↦ inr (inr later) ];
        first = rest.first;
        over = λ w h. elim h [
          | inl same ↦ (its.0, subst (AtLeast (fold (better Binary true) b vs)) (sym same) (above_above _ b v its.1 parts.1))
          | inr later ↦ rest.over w later
        ];
      })
]

-- ---- the greatest of the values that are not NULL

abbrev pub greatest : List Value → Value
greatest vs = best Binary true (arguments Binary false vs)

module _ (vs : List Value) where
  is_best : Best Null (arguments Binary false vs) (greatest vs)
  is_best = best_is Null (arguments Binary false vs) (λ v h. (arguments_has vs v h).1)

  pub greatest_has : is_null (greatest vs) ≡ false → Has vs (greatest vs)
  greatest_has some = elim is_best.from [
    | inl null ↦ absurd (true≢false (sym (ap is_null null) ∙ some))
    | inr there ↦ (arguments_has vs _ there).0
  ]

  pub greatest_over : (n : ℤ) → Has vs (Int n) → (is_null (greatest vs) ≡ false) × AtLeast (greatest vs) (Int n)
  greatest_over n h = is_best.over (Int n) (pushed_adds [] vs (Int n) h refl)

  pub none_greatest : greatest vs ≡ Null → (n : ℤ) → Has vs (Int n) → ⊥
  none_greatest null n h = true≢false (sym (ap is_null null) ∙ (greatest_over n h).0)

  pub highest : (n m : ℤ) → greatest vs ≡ Int n → Has vs (Int m) → m ≤ℤ n
  highest n m is h =
      let over : is_lt (int_cmp n m) ≡ false = ap is_lt (sym (value_cmp-Int n m)) ∙ subst (λ v. AtLeast v (Int m)) is (greatest_over m h).1 in
      grind (arith, ints, nat_tests)
