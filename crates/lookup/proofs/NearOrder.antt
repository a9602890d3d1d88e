-- In records that stand in the order of their pairings, those of one pairing stand side by side.
use Rattle.std.proofs.Common.{◌≡◌, refl, sym, ap, ◌∙◌, arith, ℕ, zero, suc, ◌+◌, ◌≤◌, Bool, true, false, List, [], ◌∷◌, length, get_or, take, drop, filter, Ordering, Less, Equal, Greater, get_or-drop, length-drop}
use Rattle.std.specs.Cmp.Lexicographic.{texts_ties}
use Rattle.std.specs.List.{AllWithin}
use Rattle.std.specs.List.Sorted.{IsNonDecreasingBy, IsPartitionPoint, IsPartitionedBy}
use Rattle.std.specs.Ordering.{is_eq, is_le, is_lt, ordering_index}
use Rattle.std.specs.Str.{bytes_eq}
use Rattle.std.proofs.lemmas.Cmp.{nat_list_cmp_total}
use Rattle.std.proofs.lemmas.List.Sorted.{IsNonDecreasingBy-drop, searchable_from_sorted}
use Rattle.values.specs.Name.{name_cmp}
use Rattle.tables.specs.declared.period.PeriodRecord.{PeriodRecord}
use Rattle.lookup.specs.Near.{AreByPairing, records_of}

-- ---- A filter of what stands side by side

module _ {X : Type 0} (test : X → Bool) where
  none_kept : (xs : List X) → AllWithin (λ x. test x ≡ false) xs 0 (length xs) → filter test xs ≡ []
  none_kept [] none = refl
  none_kept (x ∷ xs) none = rw (none 0 x (omega arith) (omega arith)) (none_kept xs (λ k d low high. none (suc k) d (omega arith) (omega arith)))

  first_kept : (xs : List X) (n : ℕ) → AllWithin (λ x. test x ≡ true) xs 0 n → AllWithin (λ x. test x ≡ false) xs n (length xs) → n ≤ length xs → filter test xs ≡ take n xs
  first_kept xs zero all none within = none_kept xs none
  first_kept [] (suc n) all none within = absurd (omega arith)
  first_kept (x ∷ xs) (suc n) all none within =
      rw (all 0 x (omega arith) (omega arith))
      (ap (λ l. x ∷ l) (first_kept xs n (λ k d low high. all (suc k) d (omega arith) (omega arith)) (λ k d low high. none (suc k) d (omega arith) (omega arith)) (omega arith)))

  first_left : (xs : List X) (n : ℕ) → AllWithin (λ x. test x ≡ false) xs 0 n → n ≤ length xs → filter test xs ≡ filter test (drop n xs)
  first_left xs zero none within = refl
  first_left [] (suc n) none within = absurd (omega arith)
  first_left (x ∷ xs) (suc n) none within = rw (none 0 x (omega arith) (omega arith)) (first_left xs n (λ k d low high. none (suc k) d (omega arith) (omega arith)) (omega arith))

-- ---- Before, at and behind an id

lower_too : (a b : Ordering) → ordering_index a ≤ ordering_index b → is_lt b ≡ true → is_lt a ≡ true
lower_too Less b le e = refl
lower_too Equal Less le e = absurd (omega arith)
lower_too Equal Equal le e = e
lower_too Equal Greater le e = e
lower_too Greater Less le e = absurd (omega arith)
lower_too Greater Equal le e = e
lower_too Greater Greater le e = e

no_higher_too : (a b : Ordering) → ordering_index a ≤ ordering_index b → is_le b ≡ true → is_le a ≡ true
no_higher_too Less b le e = refl
no_higher_too Equal b le e = refl
no_higher_too Greater Less le e = absurd (omega arith)
no_higher_too Greater Equal le e = absurd (omega arith)
no_higher_too Greater Greater le e = e

before : (o : Ordering) → is_lt o ≡ true → is_eq o ≡ false
before Less e = refl
before Equal e = absurd (cc)
before Greater e = absurd (cc)

here : (o : Ordering) → is_lt o ≡ false → is_le o ≡ true → is_eq o ≡ true
here Less e f = absurd (cc)
here Equal e f = refl
here Greater e f = absurd (cc)

behind : (o : Ordering) → is_le o ≡ false → is_eq o ≡ false
behind Less e = absurd (cc)
behind Equal e = absurd (cc)
behind Greater e = refl

module _ (id : List ℕ) where
  abbrev against : PeriodRecord → Ordering
  against it = name_cmp it.pairing id

  same_as : (it : PeriodRecord) → bytes_eq it.pairing id ≡ is_eq (against it)
  same_as it = texts_ties it.pairing id

  module _ (records : List PeriodRecord) (ordered : AreByPairing records) where
    rises : IsNonDecreasingBy (λ it. ordering_index (against it)) records
    rises = searchable_from_sorted nat_list_cmp_total (λ (it : PeriodRecord). it.pairing) records id ordered

    pub parted_below : IsPartitionedBy (λ it. is_lt (against it)) records
    parted_below i j d le within below = lower_too (against (get_or records i d)) (against (get_or records j d)) (rises i j d le within) below

    pub parted_from : (first : ℕ) → IsPartitionedBy (λ it. is_le (against it)) (drop first records)
    parted_from first i j d le within below =
        no_higher_too (against (get_or (drop first records) i d)) (against (get_or (drop first records) j d))
        (IsNonDecreasingBy-drop (λ it. ordering_index (against it)) first records rises i j d le within) below

  pub side_by_side : (records : List PeriodRecord) (first count : ℕ) → first ≤ length records → count ≤ length (drop first records) →
      IsPartitionPoint (λ it. is_lt (against it) ≡ true) (λ it. is_lt (against it) ≡ false) records first →
      IsPartitionPoint (λ it. is_le (against it) ≡ true) (λ it. is_le (against it) ≡ false) (drop first records) count →
      take count (drop first records) ≡ records_of id records
  side_by_side records first count within also start end =
      let rest = drop first records in
      let at_rest = λ (k : ℕ) (d : PeriodRecord). get_or-drop first records k d in
      sym (
      first_left (λ it. bytes_eq it.pairing id) records first (λ k d low high. same_as (get_or records k d) ∙ before (against (get_or records k d)) (start.0 k d low high)) within
      ∙ first_kept (λ it. bytes_eq it.pairing id) rest count
      (λ k d low high.
      same_as (get_or rest k d)
      ∙ here (against (get_or rest k d)) (ap (λ it. is_lt (against it)) (at_rest k d) ∙ start.1 (first + k) d (omega arith) (omega (arith, length-drop first records))) (end.0 k d low high))
      (λ k d low high. same_as (get_or rest k d) ∙ behind (against (get_or rest k d)) (end.1 k d low high))
      also
      )
