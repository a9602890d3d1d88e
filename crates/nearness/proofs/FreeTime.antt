-- Free time: a shorter run is free where a longer one is, and there is a longest.
use Rattle.std.proofs.Common.{◌≡◌, ℕ, zero, suc, ◌+◌, ◌-◌, ◌<◌, ◌≤◌, Bool, sym, ap, ◌∙◌, subst, arith, inl, inr, ◌⊎◌}
use Rattle.std.specs.Prelude.{ℤ, pos, ◌+ℤ◌, ◌-ℤ◌, ◌≤ℤ◌}
use Rattle.std.proofs.lemmas.Int.{ints}
use Rattle.std.proofs.lemmas.Bool.{false≢true, cases_Bool, cases_eq, cases_lt}
use Rattle.duty.specs.Minutes.{count, Meets, HasFreeRun}
use Rattle.duty.proofs.Counting.{count-none, count-more, meets-count, meets_or_free}
use Rattle.duty.proofs.FreeRuns.{free_run_test, free_run_decides}
use Rattle.nearness.specs.Rests.{IsLongestFreeRun, IsFreeBefore}

-- the first minutes of a window hold no more than all of them
count-prefix : (set : ℤ → Bool) (start : ℤ) (short more : ℕ) → count set start short ≤ count set start (short + more)
count-prefix set start zero more = let e = count-none set start in omega arith
count-prefix set start (suc short) more =
    let a = count-more set start short in
    let b = count-more set start (short + more) in
    let rest = count-prefix set (start +ℤ pos 1) short more in
    let e : suc short + more ≡ suc (short + more) = omega arith in
    let whole : count set start (suc short + more) ≡ count set start (suc (short + more)) = ap (count set start) e in
    omega arith

pub shorter : (set : ℤ → Bool) (from : ℤ) (width short long : ℕ) → short ≤ long → HasFreeRun set from width long →
    HasFreeRun set from width short
shorter set from width short long l has =
    let to = has.to_end in
    let e : short + (long - short) ≡ long = omega arith in
    let prefix : count set has.start short ≤ count set has.start long = rw e at (count-prefix set has.start short (long - short)) in
    let free = has.free in
    record {
      start = has.start;
      from_start = has.from_start;
      to_end = omega (arith, ints);
      free = omega arith;
    }

-- no minutes at all are free
pub free_of_none : (set : ℤ → Bool) (from : ℤ) (width : ℕ) → HasFreeRun set from width 0
free_of_none set from width = record {
  start = from;
  from_start = omega (arith, ints);
  to_end = omega (arith, ints);
  free = count-none set from;
}

-- a free run is no longer than what it lies in
pub run_fits : (set : ℤ → Bool) (from : ℤ) (width length : ℕ) → HasFreeRun set from width length → length ≤ width
run_fits set from width length has = let a = has.from_start in let b = has.to_end in omega (arith, ints)

pub is_longest : (set : ℤ → Bool) (from : ℤ) (width long too_long : ℕ) → HasFreeRun set from width long →
    (HasFreeRun set from width too_long → ⊥) → too_long ≤ long + 1 → IsLongestFreeRun set from width long
is_longest set from width long too_long has none next = record {
  runs = has;
  longest = λ other more. elim (cases_lt long other) [
    | inl longer ↦ absurd (none (shorter set from width too_long other (omega arith) more))
    | inr not ↦ not
  ];
}

-- minutes that meet the set are met by more minutes before the same end
pub meets_more : (set : ℤ → Bool) (end : ℤ) (short long : ℕ) → short ≤ long → Meets set (end -ℤ pos short) short →
    Meets set (end -ℤ pos long) long
meets_more set end short long l m =
    let from = m.from_start in
    let to = m.before_end in
    record { minute = m.minute; from_start = omega (arith, ints); before_end = omega (arith, ints); member = m.member }

pub no_meeting : (set : ℤ → Bool) (start : ℤ) (width : ℕ) → (Meets set start width → ⊥) → count set start width ≡ 0
no_meeting set start width none = elim (meets_or_free set start width) [ inl m ↦ absurd (none m) | inr free ↦ free ]

pub is_free_before : (set : ℤ → Bool) (end : ℤ) (most free too_long : ℕ) → free ≤ most → count set (end -ℤ pos free) free ≡ 0 →
    ((too_long ≡ most + 1) ⊎ Meets set (end -ℤ pos too_long) too_long) → too_long ≤ free + 1 → IsFreeBefore set end most free
is_free_before set end most free too_long within is met next = record {
  within = within;
  is_free = is;
  longest = λ other l none. elim (cases_lt free other) [
    | inl longer ↦ elim met [
      | inl all ↦ absurd (omega arith)
      | inr m ↦ (let some = meets-count set (end -ℤ pos other) other (meets_more set end too_long other (omega arith) m) in
          absurd (omega arith))
    ]
    | inr not ↦ not
  ];
}

-- there is a longest free run
longest_upto : (set : ℤ → Bool) (from : ℤ) (width n : ℕ) → ((m : ℕ) → n < m → HasFreeRun set from width m → ⊥) →
    (length : ℕ) × IsLongestFreeRun set from width length
longest_upto set from width zero none = (
  0,
  record {
    runs = free_of_none set from width;
    longest = λ other has. elim (cases_lt 0 other) [ inl more ↦ absurd (none other more has) | inr is ↦ is ];
  },
)
longest_upto set from width (suc n) none =
    let d = free_run_decides set from width (suc n) in
    elim (cases_Bool (free_run_test set from width (suc n))) [
      | inl is ↦ (
        suc n,
        record {
          runs = d.0 is;
          longest = λ other has. elim (cases_lt (suc n) other) [ inl more ↦ absurd (none other more has) | inr fits ↦ fits ];
        },
      )
      | inr not ↦ longest_upto set from width n (λ m l has. elim (cases_eq m (suc n)) [
        | inl same ↦ false≢true (sym not ∙ d.1 (subst (HasFreeRun set from width) same has))
        | inr other ↦ none m (omega arith) has
      ])
    ]

pub longest_of : (set : ℤ → Bool) (from : ℤ) (width : ℕ) → (length : ℕ) × IsLongestFreeRun set from width length
longest_of set from width = longest_upto set from width width (λ m l has. (let fits = run_fits set from width m has in absurd (omega arith)))

-- and so for the free minutes before an end
free_upto : (set : ℤ → Bool) (end : ℤ) (most n : ℕ) → n ≤ most →
    ((m : ℕ) → n < m → m ≤ most → count set (end -ℤ pos m) m ≡ 0 → ⊥) → (free : ℕ) × IsFreeBefore set end most free
free_upto set end most zero l none = (
  0,
  record {
    within = l;
    is_free = count-none set (end -ℤ pos 0);
    longest = λ other fits free. elim (cases_lt 0 other) [ inl more ↦ absurd (none other more fits free) | inr is ↦ is ];
  },
)
free_upto set end most (suc n) l none =
    elim (meets_or_free set (end -ℤ pos (suc n)) (suc n)) [
      | inr is ↦ (
        suc n,
        record {
          within = l;
          is_free = is;
          longest = λ other fits free. elim (cases_lt (suc n) other) [ inl more ↦ absurd (none other more fits free) | inr fit ↦ fit ];
        },
      )
      | inl met ↦ free_upto set end most n (omega arith) (λ m more fits free. elim (cases_eq m (suc n)) [
        | inl same ↦ (let some = meets-count set (end -ℤ pos (suc n)) (suc n) met in
            let f : count set (end -ℤ pos (suc n)) (suc n) ≡ 0 = subst (λ j. count set (end -ℤ pos j) j ≡ 0) same free in absurd (omega arith))
        | inr other ↦ none m (omega arith) fits free
      ])
    ]

pub free_of : (set : ℤ → Bool) (end : ℤ) (most : ℕ) → (free : ℕ) × IsFreeBefore set end most free
free_of set end most = free_upto set end most most (omega arith) (λ m more fits free. absurd (omega arith))

-- a run that meets the set is not free
pub worked_short : (set : ℤ → Bool) (end : ℤ) (width length n : ℕ) →
    ((start : ℤ) → (end -ℤ pos width) ≤ℤ start → (start +ℤ pos length) ≤ℤ end → Meets set start length) →
    HasFreeRun set (end -ℤ pos width) width n → n < length
worked_short set end width length n worked has = elim (cases_lt n length) [
  | inl less ↦ less
  | inr long ↦ (let s = shorter set (end -ℤ pos width) width length n long has in
      let from = s.from_start in
      let to = s.to_end in
      let some = meets-count set s.start length (worked s.start from (omega (arith, ints))) in
      let free = s.free in
      absurd (omega arith))
]
