-- The table rules by tests of the new duties.
use Rattle.std.proofs.Common.{◌≡◌, ℕ, Bool, true, false, List, length, Option, Some, None, ◌↔◌}
use Rattle.std.proofs.Common.{refl, ap, ◌∙◌}
use Rattle.std.specs.Prelude.{IsTrue, nat_lt}
use Rattle.std.specs.List.{list_any, Contains}
use Rattle.std.specs.Option.{option_map_or}
use Rattle.std.proofs.lemmas.Bool.{false≢true, ltb-true, lt-ltb}
use Rattle.std.proofs.lemmas.List.Folds.{Any-from_list_any, list_any_at}
use Rattle.duty.specs.declared.duty_in_force.DutyInForce.{DutyInForce}
use Rattle.duty.specs.declared.duty_in_force.DutyInForce.TheVariants.{Fdp, Ground}
use Rattle.duty.specs.FdpTimes.{FdpTimes}
use Rattle.duty.specs.Minutes.{fdp_length, flight_time}
use Rattle.limits.specs.Rules.{IsOverTableA, IsOverTableB}
use Rattle.limits.specs.Tables.{table_a, table_b}
use Rattle.limits.specs.Laws.Tests.{is_over_table_a, is_over_table_b}

-- an element of a list that passes a test that some element passes
pub contained : {X : Type 0} (test : X → Bool) (xs : List X) → list_any test xs ≡ true →
    (x : X) × Contains xs x ×
    (test x ≡ true)
contained test xs is = let a = Any-from_list_any test xs is in (a.1, (a.0, a.2, a.3), a.4)

-- A test that an element of the list passes finds an element in the list.
pub from_contained : {X : Type 0} (test : X → Bool) (xs : List X) (x : X) → Contains xs x →
    test x ≡ true →
    list_any test xs ≡ true
from_contained test xs x in' is = list_any_at test xs in'.0 x in'.1 (ap test in'.2 ∙ is)

-- the start of a period, if a test of that start passes
entered : (test : ℕ → Bool) (start : Option ℕ) → option_map_or test start false ≡ true →
    (n : ℕ) × (start ≡ Some n) × (test n ≡ true)
entered test None is = absurd (false≢true is)
entered test (Some n) is = (n, refl, is)

-- whether a period has more flight time than Table A gives for the start
abbrev over_a : FdpTimes → ℕ → Bool
over_a fdp start = nat_lt (table_a start) (flight_time fdp)

-- whether a period is longer than Table B gives for the start and the period's segments
abbrev over_b : FdpTimes → ℕ → Bool
over_b fdp start = nat_lt (table_b start (length fdp.segments)) (fdp_length fdp)

-- A new period over Table A breaks the rule of Table A (117.11(a)(1)).
table_a_at : (history new : List DutyInForce) (duty : DutyInForce) → Contains new duty →
    is_over_table_a duty ≡ true →
    IsOverTableA history new
table_a_at history new (Fdp fdp) in' is =
    let e = entered (over_a fdp) fdp.start is in
    record { fdp = fdp; is_new = in'; start = e.0; entered = e.1; over = ltb-true _ _ e.2 }
table_a_at history new (Ground span) in' is = absurd (false≢true is)

-- the test of each new period decides the rule of Table A (117.11(a)(1))
pub table_a_decides : (history new : List DutyInForce) →
    IsTrue (list_any is_over_table_a new) ↔ IsOverTableA history new
table_a_decides history new = (
  λ is. let c = contained is_over_table_a new is in table_a_at history new c.0 c.1 c.2,
  λ rule. from_contained is_over_table_a new (Fdp rule.fdp) rule.is_new
      (ap (λ start. option_map_or (over_a rule.fdp) start false) rule.entered ∙
      lt-ltb _ _ rule.over),
)

-- A new period over Table B breaks the rule of Table B (117.13(a)).
table_b_at : (history new : List DutyInForce) (duty : DutyInForce) → Contains new duty →
    is_over_table_b duty ≡ true →
    IsOverTableB history new
table_b_at history new (Fdp fdp) in' is =
    let e = entered (over_b fdp) fdp.start is in
    record { fdp = fdp; is_new = in'; start = e.0; entered = e.1; over = ltb-true _ _ e.2 }
table_b_at history new (Ground span) in' is = absurd (false≢true is)

-- the test of each new period decides the rule of Table B (117.13(a))
pub table_b_decides : (history new : List DutyInForce) → IsTrue (list_any is_over_table_b new) ↔
    IsOverTableB history new
table_b_decides history new = (
  λ is. let c = contained is_over_table_b new is in table_b_at history new c.0 c.1 c.2,
  λ rule. from_contained is_over_table_b new (Fdp rule.fdp) rule.is_new
      (ap (λ start. option_map_or (over_b rule.fdp) start false) rule.entered ∙
      lt-ltb _ _ rule.over),
)
