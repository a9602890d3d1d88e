-- The period nearest to a limit: one more duty is looked at in the search for it.
use Rattle.std.proofs.Common.{◌≡◌, ℕ, ◌+◌, ◌<◌, Bool, List, Some, refl, sym, ap, ◌∙◌, subst, arith, inl, inr}
use Rattle.std.specs.Prelude.{ℤ, ◌≤ℤ◌, ◌<ℤ◌}
use Rattle.std.proofs.lemmas.Int.{ints}
use Rattle.std.proofs.lemmas.Bool.{cases_eq}
use Rattle.duty.specs.FdpTimes.{FdpTimes}
use Rattle.duty.specs.Minutes.{minutes_in}
use Rattle.duty.specs.declared.duty_in_force.DutyInForce.{DutyInForce}
use Rattle.duty.specs.declared.duty_in_force.DutyInForce.TheVariants.{Fdp}
use Rattle.duty.specs.declared.kind.Kind.TheVariants.{Duty}
use Rattle.nearness.specs.Nearest.{Counts, minutes_set, minutes_left, IsMeasured, IsNearest, HasNone}
use Rattle.nearness.specs.declared.periods.MeasuredPeriod.{MeasuredPeriod}
use Rattle.nearness.specs.declared.periods.PeriodLimit.{PeriodLimit}
use Rattle.nearness.specs.declared.periods.PeriodLimit.TheVariants.{TableA, TableB, ThirtyHours, TenHours}

-- a limit counts one number of minutes
counts_one : (limit : PeriodLimit) (duty : ℤ → Bool) (fdp : FdpTimes) (a b : ℕ) → Counts limit duty fdp a → Counts limit duty fdp b →
    a ≡ b
counts_one TableA duty fdp a b x y = x ∙ sym y
counts_one TableB duty fdp a b x y = x ∙ sym y
counts_one ThirtyHours duty fdp a b x y = let l = y.longest a x.runs in let h = x.longest b y.runs in omega arith
counts_one TenHours duty fdp a b x y = let l = y.longest a x.within x.is_free in let h = x.longest b y.within y.is_free in omega arith

pub same_fdp : (a b : FdpTimes) → Some (Fdp a) ≡ Some (Fdp b) → a ≡ b
same_fdp a b e = cc

same_number : (a b : ℕ) → Some a ≡ Some b → a ≡ b
same_number a b e = cc

-- what is measured at a place is one number of minutes, beside one number that is set
measured_one : (limit : PeriodLimit) (all new : List DutyInForce) (others k a b s t : ℕ) → IsMeasured limit all new others k a s →
    IsMeasured limit all new others k b t → minutes_left limit a s ≡ minutes_left limit b t
measured_one limit all new others k a b s t x y =
    let same : y.fdp ≡ x.fdp = same_fdp y.fdp x.fdp (sym y.at ∙ x.at) in
    let counts : Counts limit (minutes_in Duty all) x.fdp b = subst (λ f. Counts limit (minutes_in Duty all) f b) same y.counts in
    let e : a ≡ b = counts_one limit (minutes_in Duty all) x.fdp a b x.counts counts in
    let sets : Some t ≡ Some s = sym y.sets ∙ ap (minutes_set limit) same ∙ x.sets in
    let f : s ≡ t = sym (same_number t s sets) in
    rw (e, f) refl

-- the nearest one stays where the next duty is no nearer
pub kept : (n : ℕ) (limit : PeriodLimit) (all new : List DutyInForce) (others : ℕ) (p : MeasuredPeriod) → IsNearest n limit all new others p →
    ((minutes set : ℕ) → IsMeasured limit all new others n minutes set → minutes_left limit p.minutes p.limit ≤ℤ minutes_left limit minutes set) →
    IsNearest (n + 1) limit all new others p
kept n limit all new others p is here = record {
  measured = is.measured;
  least = λ k minutes set l m. elim (cases_eq k n) [
    | inl same ↦ here minutes set (subst (λ j. IsMeasured limit all new others j minutes set) same m)
    | inr before ↦ is.least k minutes set (omega arith) m
  ];
  first = is.first;
}

-- the nearest one stays where the next duty is not measured
pub kept_aside : (n : ℕ) (limit : PeriodLimit) (all new : List DutyInForce) (others : ℕ) (p : MeasuredPeriod) → IsNearest n limit all new others p →
    ((minutes set : ℕ) → IsMeasured limit all new others n minutes set → ⊥) → IsNearest (n + 1) limit all new others p
kept_aside n limit all new others p is none = kept n limit all new others p is (λ minutes set m. absurd (none minutes set m))

-- the nearest one stays where what is measured next is no nearer
pub kept_after : (n : ℕ) (limit : PeriodLimit) (all new : List DutyInForce) (others : ℕ) (old p : MeasuredPeriod) →
    IsNearest n limit all new others old → IsMeasured limit all new others n p.minutes p.limit →
    minutes_left limit old.minutes old.limit ≤ℤ minutes_left limit p.minutes p.limit → IsNearest (n + 1) limit all new others old
kept_after n limit all new others old p is measured no_nearer = kept n limit all new others old is (λ minutes set m.
    (let e = measured_one limit all new others n minutes p.minutes set p.limit m measured in omega (arith, ints)))

-- what is measured next is nearer than all before it
taken : (n : ℕ) (limit : PeriodLimit) (all new : List DutyInForce) (others : ℕ) (p : MeasuredPeriod) → p.index ≡ n →
    IsMeasured limit all new others n p.minutes p.limit →
    ((k minutes set : ℕ) → k < n → IsMeasured limit all new others k minutes set →
    minutes_left limit p.minutes p.limit <ℤ minutes_left limit minutes set) → IsNearest (n + 1) limit all new others p
taken n limit all new others p index measured less = record {
  measured = subst (λ j. IsMeasured limit all new others j p.minutes p.limit) (sym index) measured;
  least = λ k minutes set l m. elim (cases_eq k n) [
    | inl same ↦ (let e = measured_one limit all new others n minutes p.minutes set p.limit
        (subst (λ j. IsMeasured limit all new others j minutes set) same m) measured in omega (arith, ints))
    | inr before ↦ (let h = less k minutes set (omega arith) m in omega (arith, ints))
  ];
  first = λ k minutes set l m. less k minutes set (omega arith) m;
}

-- what is measured next is nearer than the nearest before it
pub taken_after : (n : ℕ) (limit : PeriodLimit) (all new : List DutyInForce) (others : ℕ) (old p : MeasuredPeriod) →
    IsNearest n limit all new others old → p.index ≡ n → IsMeasured limit all new others n p.minutes p.limit →
    minutes_left limit p.minutes p.limit <ℤ minutes_left limit old.minutes old.limit → IsNearest (n + 1) limit all new others p
taken_after n limit all new others old p is index measured nearer = taken n limit all new others p index measured (λ k minutes set l m.
    (let h = is.least k minutes set l m in omega (arith, ints)))

-- none before it is measured
pub taken_first : (n : ℕ) (limit : PeriodLimit) (all new : List DutyInForce) (others : ℕ) (p : MeasuredPeriod) → HasNone n limit all new others →
    p.index ≡ n → IsMeasured limit all new others n p.minutes p.limit → IsNearest (n + 1) limit all new others p
taken_first n limit all new others p none index measured =
    taken n limit all new others p index measured (λ k minutes set l m. absurd (none k minutes set l m))

-- none up to the next duty is measured
pub kept_none : (n : ℕ) (limit : PeriodLimit) (all new : List DutyInForce) (others : ℕ) → HasNone n limit all new others →
    ((minutes set : ℕ) → IsMeasured limit all new others n minutes set → ⊥) → HasNone (n + 1) limit all new others
kept_none n limit all new others none here k minutes set l m = elim (cases_eq k n) [
  | inl same ↦ here minutes set (subst (λ j. IsMeasured limit all new others j minutes set) same m)
  | inr before ↦ none k minutes set (omega arith) m
]
