-- That `==` of a whole is exact, if `==` of each of its parts is exact.
use Rattle.std.specs.Prelude.{◌≡◌, ◌↔◌, Bool, true, false, IsTrue, ◌&&◌, Option, Some, None, refl}
use Rattle.std.proofs.Common.{sym, ap, ◌∙◌}
use Rattle.std.specs.Option.{option_eq}

-- `==` of a pair is exact, if `==` of both its parts is exact; more parts are pairs of pairs
pub both_same : {A B : Type 0} {a c : A} {b d : B} (x y : Bool)
    → (IsTrue x ↔ (a ≡ c)) → (IsTrue y ↔ (b ≡ d))
    → IsTrue (x && y) ↔ (◌≡◌ {A = A × B} (a, b) (c, d))
both_same true true p q = (λ e. λ i. (p.0 refl i, q.0 refl i), λ e. refl)
both_same true false p q = (λ e. cc, λ e. q.1 (λ i. (e i).1))
both_same false y p q = (λ e. cc, λ e. p.1 (λ i. (e i).0))

-- `==` of a whole is exact, if `==` of its parts is exact and the parts give the whole back
pub parts_same : {A B : Type 0} (parts : A → B) (whole : B → A) → ((a : A) → whole (parts a) ≡ a)
    → (a b : A) (x : Bool) → (IsTrue x ↔ (parts a ≡ parts b)) → IsTrue x ↔ (a ≡ b)
parts_same parts whole back a b x same =
    (λ e. sym (back a) ∙ ap whole (same.0 e) ∙ back b, λ e. same.1 (ap parts e))

-- `==` of a value that may be missing is exact, if `==` of the value is exact
pub option_same : {A : Type 0} (eq : A → A → Bool) → ((a b : A) → IsTrue (eq a b) ↔ (a ≡ b))
    → (a b : Option A) → IsTrue (option_eq eq a b) ↔ (a ≡ b)
option_same eq each None None = (λ e. refl, λ e. refl)
option_same eq each None (Some b) = (λ e. cc, λ e. cc)
option_same eq each (Some a) None = (λ e. cc, λ e. cc)
option_same eq each (Some a) (Some b) = (λ e. ap Some ((each a b).0 e), λ e. (each a b).1 cc)
