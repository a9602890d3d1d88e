-- A sound state has one text of its count.
use Rattle.std.proofs.Common.{◌≡◌, ◌⊎◌, inl, inr, refl, sym, ap, subst, ◌∙◌, arith, ℕ, ◌+◌, ◌≤◌, true, List, [], ◌∷◌, Contains, Option, Some, None, IsSome, nat_le}
use Rattle.std.specs.FinMap as fin
use Rattle.std.proofs.lemmas.Bool.{cases_Bool, and_parts, and_from, both_ways}
use Rattle.std.proofs.lemmas.Bool.Decides.{nat_tests}
use Rattle.request.specs.Range.{is_in_range}
use Rattle.command.specs.Keys.{KeyParts, key_name}
use Rattle.roster.specs.Sound.{Sound}
use Rattle.roster.specs.State.{State}
use Rattle.roster.specs.declared.state.LoggedCommand.{LoggedCommand}
use Rattle.roster.proofs.Members.{first_or_later, from_rows, in_rows, is_first, is_later, none_in}
use Rattle.report.specs.Kept.{number_in}
use Rattle.report_json.specs.CountJson.{count_json}
use Rattle.report_json.specs.Objects.{json_text}
use Rattle.lookup.specs.Count.{IsAboveAll, IsNextNumber}
use Rattle.lookup.specs.declared.count.RequestCount.{RequestCount}
use Rattle.asking.specs.Count.{count_text}
use Rattle.asking.specs.Laws.{EachHasCountText, HasOneCountText}

-- ---- The highest number

abbrev Row : Type 0
Row = List ℕ × LoggedCommand

-- the highest of the numbers of some rows; 0 if there is none
record HasHighest (rows : List Row) : Type 0 where
  top : ℕ
  at_most : (row : Row) → Contains rows row → number_in row.0 ≤ top
  reached : (top ≡ 0) ⊎ ((row : Row) × Contains rows row × (number_in row.0 ≡ top))

lower_or_higher : (m n : ℕ) → (m ≤ n) ⊎ (n ≤ m)
lower_or_higher m n = elim (cases_Bool (nat_le m n)) [
  | inl test ↦ inl (grind (arith, nat_tests))
  | inr test ↦ inr (grind (arith, nat_tests))
]

highest : (rows : List Row) → HasHighest rows
highest [] = record { top = 0; at_most = λ row c. absurd (none_in row c); reached = inl refl }
highest (first ∷ rows) =
    let rest = highest rows in
    elim (lower_or_higher (number_in first.0) rest.top) [
      | inl lower ↦ record {
        top = rest.top;
        at_most = λ row c. elim (first_or_later first rows row c) [
          | inl same ↦ subst (λ (r : Row). number_in r.0 ≤ rest.top) same lower
          | inr later ↦ rest.at_most row later
        ];
        reached = elim rest.reached [
          | inl none ↦ inl none
          | inr at ↦ inr (at.0, is_later first rows at.0 at.1, at.2)
        ];
      }
      | inr higher ↦ record {
        top = number_in first.0;
        at_most = λ row c. elim (first_or_later first rows row c) [
          | inl same ↦ subst (λ (r : Row). number_in r.0 ≤ number_in first.0) same (omega arith)
          | inr later ↦ let low = rest.at_most row later in omega (arith, low, higher)
        ];
        reached = inr (first, is_first first rows first refl, refl);
      }
    ]

-- ---- Which number is free

at_least : (m n : ℕ) → nat_le m n ≡ true → m ≤ n
at_least m n test = grind (arith, nat_tests)

as_test : (m n : ℕ) → m ≤ n → nat_le m n ≡ true
as_test m n low = grind (arith, nat_tests)

first_in : (n : ℕ) → is_in_range n ≡ true → 1 ≤ n
first_in n range = at_least 1 n (and_parts (nat_le 1 n) (nat_le n 9_223_372_036_854_775_807) range).0

still_in : (low n : ℕ) → 1 ≤ low → low ≤ n → is_in_range n ≡ true → is_in_range low ≡ true
still_in low n above below range =
    let high = at_least n 9_223_372_036_854_775_807 (and_parts (nat_le 1 n) (nat_le n 9_223_372_036_854_775_807) range).1 in
    and_from (nat_le 1 low) (nat_le low 9_223_372_036_854_775_807) (as_test 1 low above) (as_test low 9_223_372_036_854_775_807 (omega (arith, below, high)))

module _ (s : State) (sound : Sound s) (all : HasHighest (fin.entries s.requests)) where
  held_at : (key : KeyParts) (o : Option LoggedCommand) → fin.get s.requests (key_name key) ≡ o → IsSome o → key.number ≤ all.top
  held_at key None e some = absurd cc
  held_at key (Some v) e some = all.at_most (key_name key, v) (in_rows s.requests (key_name key) v e)

  above : IsAboveAll s (all.top + 1)
  above key some = let low = held_at key (fin.get s.requests (key_name key)) refl some in omega (arith, low)

  lowest : (m : ℕ) → is_in_range m ≡ true → IsAboveAll s m → all.top + 1 ≤ m
  lowest m range over = elim all.reached [
    | inl none ↦ omega (arith, none, first_in m range)
    | inr (row, c, is) ↦
        let there = from_rows s.requests row.0 row.1 c in
        let of = sound.requests row.0 row.1 there in
        let held : fin.get s.requests (key_name of.key) ≡ Some row.1 = ap (fin.get s.requests) (sym of.known_by) ∙ there in
        let low = over of.key (subst (λ (o : Option LoggedCommand). IsSome o) (sym held) refl) in
        let same : number_in row.0 ≡ of.key.number = ap number_in of.known_by in
        omega (arith, low, same, is)
  ]

  next : (number : Option ℕ) × IsNextNumber s number
  next = elim (cases_Bool (is_in_range (all.top + 1))) [
    | inl range ↦ (Some (all.top + 1), (range, above, lowest))
    | inr out ↦ (None, λ n range over. both_ways _ out (still_in (all.top + 1) n (omega arith) (lowest n range over) range))
  ]

pub each_has_count_text : EachHasCountText
each_has_count_text s sound =
    let free = next s sound (highest (fin.entries s.requests)) in
    let count : RequestCount = record { kept = fin.len s.requests; next = free.0 } in
    (count_text count, (count, record { kept = refl; next = free.1 }, refl))

one_next : (s : State) (a b : Option ℕ) → IsNextNumber s a → IsNextNumber s b → a ≡ b
one_next s None None is is' = refl
one_next s None (Some n) is is' = absurd (is n is'.0 is'.1)
one_next s (Some n) None is is' = absurd (is' n is.0 is.1)
one_next s (Some m) (Some n) is is' =
    let low = is.2 n is'.0 is'.1 in
    let high = is'.2 m is.0 is.1 in
    ap Some (omega (arith, low, high))

pub one_count_text : HasOneCountText
one_count_text s a b (count, is, told) (other, is', told') =
    told
    ∙ ap (λ kept. json_text (count_json kept count.next)) (is.kept ∙ sym is'.kept)
    ∙ ap (λ next. json_text (count_json other.kept next)) (one_next s count.next other.next is.next is'.next)
    ∙ sym told'
