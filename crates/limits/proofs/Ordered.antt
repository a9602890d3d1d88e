-- Sections that stand in their order stand so where some are left out.
use Rattle.std.proofs.Common.{◌≡◌, ℕ, Bool, true, nat_lt, List, [], ◌∷◌, map, filter, refl, inl, inr, arith, ltb-true, lt-ltb}
use Rattle.std.proofs.lemmas.Bool.{and_parts, and_from, cases_Bool}
use Rattle.duty.specs.Words.{each_next}
use Rattle.limits.specs.Judgement.{Broken, all_sections}
use Rattle.limits.specs.Laws.Decisions.{breaks}
use Rattle.limits.specs.Meaning.{AreInOrder, BrokenIsInOrder}
use Rattle.limits.specs.SectionText.{section_number}
use Rattle.limits.specs.declared.section.Section.{Section}

-- in order, behind a lower number
abbrev Ascends : ℕ → List Section → Type 0
Ascends n sections = each_next nat_lt (n ∷ map section_number sections) ≡ true

without_first : (n : ℕ) (s : Section) (sections : List Section) → Ascends n (s ∷ sections) → Ascends n sections
without_first n s [] up = refl
without_first n s (t ∷ sections) up =
    let one = and_parts (nat_lt n (section_number s)) _ up in
    let two = and_parts (nat_lt (section_number s) (section_number t)) _ one.1 in
    let a = ltb-true n (section_number s) one.0 in
    let b = ltb-true (section_number s) (section_number t) two.0 in
    and_from _ _ (lt-ltb n (section_number t) (omega (arith, a, b))) two.1

left_out : (test : Section → Bool) (n : ℕ) (sections : List Section) → Ascends n sections → Ascends n (filter test sections)
left_out test n [] up = refl
left_out test n (s ∷ sections) up = elim (cases_Bool (test s)) [
  | inl is ↦
      let parts = and_parts (nat_lt n (section_number s)) _ up in
      rw is (and_from _ _ parts.0 (left_out test (section_number s) sections parts.1))
  | inr is ↦ rw is (left_out test n sections (without_first n s sections up))
]

behind : (n : ℕ) (sections : List Section) → Ascends n sections → AreInOrder sections
behind n [] up = refl
behind n (s ∷ sections) up = (and_parts (nat_lt n (section_number s)) _ up).1

pub broken_is_in_order : BrokenIsInOrder
unfolding Broken
broken_is_in_order history new =
    let test = λ (section : Section). breaks section history new in
    behind 0 (filter test all_sections) (left_out test 0 all_sections refl)
