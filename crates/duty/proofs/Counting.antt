-- Counting the members of a set of minutes below a minute, and what a window holds.
use Rattle.std.proofs.Common.{◌≡◌, ℕ, zero, suc, ◌+◌, ◌-◌, ◌<◌, ◌≤◌, Bool, true, false, refl, sym, ap, ◌∙◌, arith, inl, inr, ◌⊎◌}
use Rattle.std.specs.Prelude.{ℤ, pos, negsuc, ◌+ℤ◌, ◌-ℤ◌, ◌≤ℤ◌, ◌<ℤ◌, int_lt, unsigned_abs, if◌then◌else◌}
use Rattle.std.proofs.lemmas.Int.{ints}
use Rattle.std.proofs.lemmas.Bool.{cases_Bool, cases_lt, false≢true, ltb-true}
use Rattle.duty.specs.Minutes.{count, Meets}
pub use Rattle.duty.specs.Sweeps.{below, natural}

-- 1 for a member
abbrev pub one_if : Bool → ℕ
one_if b = if b then 1 else 0

pub below-zero : (set : ℕ → Bool) → below set 0 ≡ 0
unfolding below
below-zero set = refl

pub below-suc : (set : ℕ → Bool) (n : ℕ) → below set (suc n) ≡ below set n + one_if (set n)
unfolding below
below-suc set n = refl

pub below-member : (set : ℕ → Bool) (n : ℕ) → set n ≡ true → below set (suc n) ≡ below set n + 1
unfolding below
below-member set n is = rw is refl

pub below-other : (set : ℕ → Bool) (n : ℕ) → set n ≡ false → below set (suc n) ≡ below set n
unfolding below
below-other set n is = rw is (omega arith)

-- one more minute adds one at most
pub below-suc_range : (set : ℕ → Bool) (n : ℕ) → (below set n ≤ below set (suc n)) ×
    (below set (suc n) ≤ below set n + 1)
below-suc_range set n =
    elim (cases_Bool (set n)) [
      | inl is ↦ (let one = below-member set n is in (omega arith, omega arith))
      | inr is ↦ (let one = below-other set n is in (omega arith, omega arith))
    ]

pub below-range : (set : ℕ → Bool) (n k : ℕ) → (below set n ≤ below set (n + k)) × (below set (n + k) ≤ below set n + k)
below-range set n zero = let e : n + 0 ≡ n = omega arith in rw e (omega arith, omega arith)
below-range set n (suc k) =
    let e : n + suc k ≡ suc (n + k) = omega arith in
    let one = below-suc_range set (n + k) in
    let rest = below-range set n k in
    rw e (omega arith, omega arith)

pub below-all : (set : ℕ → Bool) (n k : ℕ) → ((i : ℕ) → n ≤ i → i < n + k → set i ≡ true) →
    below set (n + k) ≡ below set n + k
below-all set n zero all = let e : n + 0 ≡ n = omega arith in rw e (omega arith)
below-all set n (suc k) all =
    let e : n + suc k ≡ suc (n + k) = omega arith in
    let one = below-member set (n + k) (all (n + k) (omega arith) (omega arith)) in
    let rest = below-all set n k (λ i l h. all i l (omega arith)) in
    rw e (omega arith)

pub below-none : (set : ℕ → Bool) (n k : ℕ) → ((i : ℕ) → n ≤ i → i < n + k → set i ≡ false) →
    below set (n + k) ≡ below set n
below-none set n zero none = let e : n + 0 ≡ n = omega arith in rw e refl
below-none set n (suc k) none =
    let e : n + suc k ≡ suc (n + k) = omega arith in
    let one = below-other set (n + k) (none (n + k) (omega arith) (omega arith)) in
    let rest = below-none set n k (λ i l h. none i l (omega arith)) in
    rw e (one ∙ rest)

pub count-none : (set : ℤ → Bool) (start : ℤ) → count set start 0 ≡ 0
unfolding count
count-none set start = refl

pub count-more : (set : ℤ → Bool) (start : ℤ) (width : ℕ) →
    count set start (suc width) ≡ one_if (set start) + count set (start +ℤ pos 1) width
unfolding count
count-more set start width = refl

-- how many of a window's minutes before 0 are members: none
pub natural-negsuc : (n width : ℕ) → natural (negsuc n +ℤ pos width) ≡ width - suc n
natural-negsuc n width =
    elim (cases_lt n width) [
      | inl h ↦ (let e : negsuc n +ℤ pos width ≡ pos (width - suc n) = omega (arith, ints) in rw e refl)
      | inr h ↦ (let e : negsuc n +ℤ pos width ≡ negsuc (n - width) = omega (arith, ints) in rw e (omega arith))
    ]

-- how many members lie before a whole number
abbrev pub low : (ℤ → Bool) → ℤ → ℕ
low set z = below (λ n. set (pos n)) (natural z)

low-next : (set : ℤ → Bool) (none : (n : ℕ) → set (negsuc n) ≡ false) (z : ℤ) →
    one_if (set z) + low set z ≡ low set (z +ℤ pos 1)
low-next set none (pos n) =
    let e : n + 1 ≡ suc n = omega arith in
    rw (e, below-suc) (omega arith)
low-next set none (negsuc n) =
    let e : 1 - suc n ≡ 0 = omega arith in
    let z : natural (negsuc n +ℤ pos 1) ≡ 0 = natural-negsuc n 1 ∙ e in
    rw (z, none n) (omega arith)

-- what a window holds, where no negative minute is a member
pub count-below :
    (set : ℤ → Bool) (none : (n : ℕ) → set (negsuc n) ≡ false) (start : ℤ) (width : ℕ) →
    count set start width + low set start ≡ low set (start +ℤ pos width)
count-below set none start zero =
    let e : start +ℤ pos 0 ≡ start = omega (arith, ints) in
    rw (count-none, e) (omega arith)
count-below set none start (suc width) =
    let rest = count-below set none (start +ℤ pos 1) width in
    let next = low-next set none start in
    let more = count-more set start width in
    let e : start +ℤ pos (suc width) ≡ (start +ℤ pos 1) +ℤ pos width = omega (arith, ints) in
    let whole : low set (start +ℤ pos (suc width)) ≡ low set ((start +ℤ pos 1) +ℤ pos width) = ap (low set) e in
    omega arith

pub natural-back : (end width : ℕ) → natural (pos end -ℤ pos width) ≡ end - width
natural-back end width =
    elim (cases_lt end width) [
      | inl h ↦ (let e : pos end -ℤ pos width ≡ negsuc (width - suc end) = omega (arith, ints) in rw e (omega arith))
      | inr h ↦ (let e : pos end -ℤ pos width ≡ pos (end - width) = omega (arith, ints) in rw e refl)
    ]

-- how many members the `width` minutes before `end` hold
abbrev pub before : (ℕ → Bool) → ℕ → ℕ → ℕ
before set end width = below set end - below set (end - width)

-- the count over a window that ends at a natural minute
pub count-before :
    (set : ℤ → Bool) (none : (n : ℕ) → set (negsuc n) ≡ false) (end width : ℕ) →
    count set (pos end -ℤ pos width) width ≡ before (λ n. set (pos n)) end width
count-before set none end width =
    let all = count-below set none (pos end -ℤ pos width) width in
    let e : pos end -ℤ pos width +ℤ pos width ≡ pos end = omega (arith, ints) in
    let at_end : low set (pos end -ℤ pos width +ℤ pos width) ≡ below (λ n. set (pos n)) end = ap (low set) e in
    let at_start : low set (pos end -ℤ pos width) ≡ below (λ n. set (pos n)) (end - width) =
    ap (below (λ n. set (pos n))) (natural-back end width) in
    omega arith

-- a window that reaches a natural minute ends at a natural one
pub window_end :
    (start : ℤ) (width minute : ℕ) → start ≤ℤ pos minute → pos minute <ℤ (start +ℤ pos width) →
    (end : ℕ) × (start ≡ pos end -ℤ pos width) × (minute < end) × (end ≤ minute + width)
window_end (pos n) width minute from to = (n + width, omega (arith, ints), omega (arith, ints), omega (arith, ints))
window_end (negsuc n) width minute from to = (
  width - suc n,
  omega (arith, ints),
  omega (arith, ints),
  omega (arith, ints),
)

-- between two minutes all, or no, minutes are members
pub below-full : (set : ℕ → Bool) (from to : ℕ) → from ≤ to → ((i : ℕ) → from ≤ i → i < to → set i ≡ true) →
    below set to ≡ below set from + (to - from)
below-full set from to l all =
    let e : from + (to - from) ≡ to = omega arith in
    rw e at (below-all set from (to - from) (λ i a b. all i a (omega arith)))

pub below-empty : (set : ℕ → Bool) (from to : ℕ) → from ≤ to → ((i : ℕ) → from ≤ i → i < to → set i ≡ false) →
    below set to ≡ below set from
below-empty set from to l none =
    let e : from + (to - from) ≡ to = omega arith in
    rw e at (below-none set from (to - from) (λ i a b. none i a (omega arith)))

-- a window that holds no member has none
pub below-same : (set : ℕ → Bool) (from to i : ℕ) → below set from ≡ below set to → from ≤ i → i < to → set i ≡ false
below-same set from to i same l h =
    elim (cases_Bool (set i)) [
      | inl is ↦ (let one = below-member set i is in
          let a : from + (i - from) ≡ i = omega arith in
          let b : suc i + (to - suc i) ≡ to = omega arith in
          let first = rw a at (below-range set from (i - from)).0 in
          let last = rw b at (below-range set (suc i) (to - suc i)).0 in
          absurd (omega arith))
      | inr is ↦ is
    ]

-- a window meets the set, or holds none of it
pub meets_or_free : (set : ℤ → Bool) (start : ℤ) (width : ℕ) → Meets set start width ⊎ (count set start width ≡ 0)
meets_or_free set start zero = inr (count-none set start)
meets_or_free set start (suc width) =
    elim (cases_Bool (set start)) [
      | inl is ↦ inl (record {
        minute = start;
        from_start = omega (arith, ints);
        before_end = omega (arith, ints);
        member = is;
      })
      | inr is ↦ elim (meets_or_free set (start +ℤ pos 1) width) [
        | inl m ↦ (let from = m.from_start in let to = m.before_end in
            inl (record {
              minute = m.minute;
              from_start = omega (arith, ints);
              before_end = omega (arith, ints);
              member = m.member;
            }))
        | inr free ↦ (let more = count-more set start width in inr (rw (more, is, free) refl))
      ]
    ]

-- a window with a member holds some of the set
counted : (set : ℤ → Bool) (start : ℤ) (width : ℕ) (minute : ℤ) → start ≤ℤ minute → minute <ℤ (start +ℤ pos width) →
    set minute ≡ true → 0 < count set start width
counted set start zero minute from to member = absurd (omega (arith, ints))
counted set start (suc width) minute from to member =
    let more = count-more set start width in
    elim (cases_Bool (set start)) [
      | inl is ↦ rw (more, is) (omega arith)
      | inr is ↦ (let other : minute ≡ start → ⊥ = λ e. false≢true (sym is ∙ ap set (sym e) ∙ member) in
          let next : (start +ℤ pos 1) ≤ℤ minute = omega (arith, ints) in
          let rest = counted set (start +ℤ pos 1) width minute next (omega (arith, ints)) member in
          omega arith)
    ]

-- a window that meets the set holds some of it
pub meets-count : (set : ℤ → Bool) (start : ℤ) (width : ℕ) → Meets set start width → 0 < count set start width
meets-count set start width m = counted set start width m.minute m.from_start m.before_end m.member

pub below-rises : (set : ℕ → Bool) (from to : ℕ) → from ≤ to → below set from ≤ below set to
below-rises set from to l =
    let e : from + (to - from) ≡ to = omega arith in
    rw e at (below-range set from (to - from)).0

pub natural-rises : (a b : ℤ) → a ≤ℤ b → natural a ≤ natural b
natural-rises (pos a) (pos b) l = omega (arith, ints)
natural-rises (pos a) (negsuc b) l = absurd (omega (arith, ints))
natural-rises (negsuc a) (pos b) l = omega arith
natural-rises (negsuc a) (negsuc b) l = omega arith

abs-of : (z : ℤ) → pos 0 ≤ℤ z → pos (unsigned_abs z) ≡ z
abs-of (pos n) l = refl
abs-of (negsuc n) l = absurd (omega (arith, ints))

pub width-pos : (a b : ℤ) → a ≤ℤ b → pos (unsigned_abs (b -ℤ a)) ≡ b -ℤ a
width-pos a b l = abs-of (b -ℤ a) (omega (arith, ints))

pub width-back : (a b : ℤ) → a ≤ℤ b → a +ℤ pos (unsigned_abs (b -ℤ a)) ≡ b
width-back a b l = let e = width-pos a b l in rw e (omega (arith, ints))

-- the count over a window between two whole numbers
pub count-window :
    (set : ℤ → Bool) (none : (n : ℕ) → set (negsuc n) ≡ false) (from to : ℤ) → from ≤ℤ to →
    count set from (unsigned_abs (to -ℤ from)) + low set from ≡ low set to
count-window set none from to l =
    let e : from +ℤ pos (unsigned_abs (to -ℤ from)) ≡ to = width-back from to l in
    rw e at (count-below set none from (unsigned_abs (to -ℤ from)))

natural-none : (z : ℤ) → z ≤ℤ pos 0 → natural z ≡ 0
natural-none (pos n) l = omega (arith, ints)
natural-none (negsuc n) l = refl

-- before the year 2000 there is none
pub count-negative :
    (set : ℤ → Bool) (none : (n : ℕ) → set (negsuc n) ≡ false) (from : ℤ) (width : ℕ) →
    (from +ℤ pos width) ≤ℤ pos 0 → count set from width ≡ 0
count-negative set none from width l =
    let whole = count-below set none from width in
    let e : low set (from +ℤ pos width) ≡ 0 =
    ap (below (λ n. set (pos n))) (natural-none (from +ℤ pos width) l) ∙ below-zero (λ n. set (pos n)) in
    omega arith

pub negative : (z : ℤ) → int_lt z (pos 0) ≡ true → z ≤ℤ pos 0
negative (pos n) is = absurd (let l : n < 0 = ltb-true n 0 is in omega arith)
negative (negsuc n) is = omega (arith, ints)

pub not_negative : (z : ℤ) → int_lt z (pos 0) ≡ false → pos (natural z) ≡ z
not_negative (pos n) is = refl
not_negative (negsuc n) is = absurd (false≢true (sym is))
