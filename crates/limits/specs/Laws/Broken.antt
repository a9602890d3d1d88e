-- What is known of the list of the broken sections, by its members alone.
use Rattle.std.proofs.Common.{◌≡◌, ℕ, zero, suc, ◌<◌, Bool, true, List, [], ◌∷◌, length, get_or}
use Rattle.std.proofs.Common.{◌↔◌, ◌⊎◌, inl, inr, refl, ap, ◌∙◌, arith, lit<}
use Rattle.std.specs.List.{Contains, filter}
use Rattle.std.proofs.lemmas.Bool.{cases_Bool}
use Rattle.std.proofs.lemmas.List.Elements.{filter_passes, All-contains}
use Rattle.duty.specs.declared.duty_in_force.DutyInForce.{DutyInForce}
use Rattle.limits.specs.declared.section.Section.{Section}
use Rattle.limits.specs.declared.section.Section.TheVariants as section
use Rattle.limits.specs.Judgement.{all_sections, Broken, IsWithin, IsJoined}
use Rattle.limits.specs.Rules.{Rule}
use Rattle.limits.specs.Laws.Decisions.{breaks, breaks_is}
use Rattle.limits.specs.Laws.Growth.{rule_grows}
use Rattle.limits.specs.Laws.Splitting.{rule_splits}

-- what a list contains, a longer list contains
contains_later : {X : Type 0} (y : X) (ys : List X) (x : X) → Contains ys x → Contains (y ∷ ys) x
contains_later y ys x c = let h = c.1 in (suc c.0, omega arith, c.2)

-- an element that passes the test is in the filtered list
contains_filter : {X : Type 0} (p : X → Bool) (xs : List X) (x : X) (k : ℕ) → k < length xs →
    get_or xs k x ≡ x →
    p x ≡ true → Contains (filter p xs) x
contains_filter p [] x k l is pass = absurd (omega arith)
contains_filter p (y ∷ ys) x zero l is pass =
    let e : p y ≡ true = ap p is ∙ pass in
    rw e (0, omega arith, is)
contains_filter p (y ∷ ys) x (suc k) l is pass =
    let rest = contains_filter p ys x k (omega arith) is pass in
    elim (cases_Bool (p y)) [
      | inl e ↦ rw e (contains_later y (filter p ys) x rest)
      | inr e ↦ rw e rest
    ]

-- Each section is in the list of all sections.
in_all : (s : Section) → Contains all_sections s
in_all section.FlightTime = (0, lit< tt, refl)
in_all section.FlightDutyPeriod = (1, lit< tt, refl)
in_all section.FlightTime672Hours = (2, lit< tt, refl)
in_all section.FlightTime365Days = (3, lit< tt, refl)
in_all section.FlightDutyPeriods168Hours = (4, lit< tt, refl)
in_all section.FlightDutyPeriods672Hours = (5, lit< tt, refl)
in_all section.ThirtyHourRest = (6, lit< tt, refl)
in_all section.TenHourRest = (7, lit< tt, refl)

-- A section is in the list made by a test if and only if the section passes the test.
pub listed_is : (test : Section → Bool) (s : Section) →
    Contains (filter test all_sections) s ↔ (test s ≡ true)
listed_is test s = (
  λ c. All-contains (λ t. test t ≡ true) (filter test all_sections) s
      (filter_passes test all_sections) c,
  λ is. let c = in_all s in contains_filter test all_sections s c.0 c.1 c.2 is,
)

-- A section is in the list of the broken sections if and only if its rule is broken.
pub broken_is : (history new : List DutyInForce) (s : Section) →
    Contains (Broken history new) s ↔ Rule s history new
unfolding Broken
broken_is history new s =
    let listed = listed_is (λ t. breaks t history new) s in
    let rule = breaks_is s history new in (
      λ c. rule.0 (listed.0 c),
      λ r. listed.1 (rule.1 r),
    )

-- What fewer duties break, more duties break: no duty mends what other duties have broken.
pub broken_grows : (fewer history some new : List DutyInForce) → IsWithin fewer history →
    IsWithin some new →
    (s : Section) → Contains (Broken fewer some) s → Contains (Broken history new) s
broken_grows fewer history some new within within_new s broken =
    (broken_is history new s).1
    (rule_grows s fewer history some new within within_new ((broken_is fewer some s).0 broken))

-- If duties are added to others, what all the duties break was broken by the others, or the added
-- duties break it.
pub broken_splits : (all others added : List DutyInForce) → IsJoined all others added →
    (s : Section) → Contains (Broken all all) s →
    Contains (Broken others others) s ⊎ Contains (Broken all added) s
broken_splits all others added joined s broken =
    elim (rule_splits s all others added joined ((broken_is all all s).0 broken)) [
      | inl old ↦ inl ((broken_is others others s).1 old)
      | inr new ↦ inr ((broken_is all added s).1 new)
    ]
