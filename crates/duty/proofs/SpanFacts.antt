-- Which minutes a span covers.
use Rattle.std.proofs.Common.{◌≡◌, ℕ, suc, ◌-◌, ◌<◌, ◌≤◌, Bool, true, false, List, [], ◌∷◌, Some, length, map, refl, ap, arith, inl, inr}
use Rattle.std.specs.Prelude.{pos, negsuc, slice_get}
use Rattle.std.specs.List.{list_any}
use Rattle.std.proofs.lemmas.Bool.{and_parts, and_from, and_left, and_right, or_cases, or_left, or_right, leb-true, ltb-true, le-leb, lt-ltb, lt-leb, le-ltb, false≢true}
use Rattle.duty.specs.declared.span.Span.{Span}
use Rattle.duty.specs.Minutes.{covers, minutes_of, last_in}
use Rattle.duty.specs.Sweeps.{at}
use Rattle.duty.proofs.Scans.{some_at}

pub covers-true : (n : ℕ) (s : Span) → covers (pos n) s ≡ true → (s.from ≤ n) × (n < s.to)
covers-true n s is = let a = and_parts _ _ is in (leb-true _ _ a.0, ltb-true _ _ a.1)

pub covers-from : (n : ℕ) (s : Span) → s.from ≤ n → n < s.to → covers (pos n) s ≡ true
covers-from n s l h = and_from _ _ (le-leb _ _ l) (lt-ltb _ _ h)

-- no negative minute is covered
pub no_negative : (spans : List Span) (n : ℕ) → minutes_of spans (negsuc n) ≡ false
no_negative [] n = refl
no_negative (s ∷ spans) n = no_negative spans n

pub covers-before : (n : ℕ) (s : Span) → n < s.from → covers (pos n) s ≡ false
covers-before n s h = and_left _ _ (lt-leb _ _ h)

pub covers-past : (n : ℕ) (s : Span) → s.to ≤ n → covers (pos n) s ≡ false
covers-past n s h = and_right _ _ (le-ltb _ _ h)

-- the minutes of one span of the list
pub covered_at : (spans : List Span) (k : ℕ) (s : Span) (minute : ℕ) → slice_get spans k ≡ Some s → s.from ≤ minute →
    (i : ℕ) → minute ≤ i → i < s.to → at (minutes_of spans) i ≡ true
covered_at spans k s minute is from i l h = some_at (covers (pos i)) spans k s is (covers-from i s (omega arith) h)

-- the end of a period that has a segment is the end of the last segment's span
pub last_in-mapped : {T : Type 0} (span : T → Span) (report : ℕ) (segments : List T) (s : T) →
    slice_get segments (length segments - 1) ≡ Some s → last_in report (map span segments) ≡ (span s).to
last_in-mapped span report [] s is = cc
last_in-mapped span report (x ∷ []) s is =
    let e : Some x ≡ Some s = is in let f : x ≡ s = cc in ap (λ t. (span t).to) f
last_in-mapped span report (x ∷ y ∷ rest) s is =
    let e : length (x ∷ y ∷ rest) - 1 ≡ suc (length (y ∷ rest) - 1) = omega arith in
    last_in-mapped span (span x).to (y ∷ rest) s (rw e at is)

-- some span of the list passes, with the tests that it passes
pub some_span : (P : Span → Bool) (spans : List Span) → list_any P spans ≡ true → (s : Span) × (P s ≡ true) ×
    ((Q : Span → Bool) → Q s ≡ true → list_any Q spans ≡ true)
some_span P [] is = absurd (false≢true is)
some_span P (s ∷ spans) is =
    elim (or_cases _ _ is) [
      | inl here ↦ (s, here, λ Q q. or_left _ _ q)
      | inr later ↦ (let r = some_span P spans later in (r.0, r.1, λ Q q. or_right _ _ (r.2 Q q)))
    ]
