-- Disjoint spans in order, one put in or taken out.
use Rattle.std.proofs.Common.{◌≡◌, ℕ, zero, suc, ◌+◌, ◌<◌, ◌≤◌, Bool, true, false, ◌||◌, List, [], ◌∷◌, ◌++◌, length, take, drop, get_or, refl, sym, ap, ◌∙◌, arith}
use Rattle.std.specs.Prelude.{ℤ, pos, negsuc}
use Rattle.std.specs.List.{list_any}
use Rattle.std.proofs.lemmas.Bool.Decides.{nat_tests}
use Rattle.std.proofs.lemmas.List.{get_or-map}
use Rattle.duty.specs.declared.span.Span.{Span}
use Rattle.duty.specs.declared.intervals.Interval.{Interval}
use Rattle.duty.specs.Minutes.{covers, minutes_of}
use Rattle.duty.specs.Intervals.{AreApart, spans_in, joined}

pub apart-less : (a b : ℕ) (xs : List Span) → AreApart a xs → b ≤ a → AreApart b xs
apart-less a b [] h l = tt
apart-less a b (x ∷ xs) h l = let f : a ≤ x.from = h.0 in (omega arith, h.1, h.2)

pub apart-from : (a : ℕ) (xs : List Span) (k : ℕ) (d : Span) → AreApart a xs → k < length xs →
    (a ≤ (get_or xs k d).from) × ((get_or xs k d).from < (get_or xs k d).to)
apart-from a [] k d h l = absurd (omega arith)
apart-from a (x ∷ xs) zero d h l = (h.0, h.1)
apart-from a (x ∷ xs) (suc k) d h l =
    let f : a ≤ x.from = h.0 in
    let t : x.from < x.to = h.1 in
    let r = apart-from (x.to + 1) xs k d h.2 (omega arith) in
    let s : x.to + 1 ≤ (get_or xs k d).from = r.0 in
    (omega arith, r.1)

pub apart-order : (a : ℕ) (xs : List Span) (i j : ℕ) (d : Span) → AreApart a xs → i < j → j < length xs →
    (get_or xs i d).to < (get_or xs j d).from
apart-order a [] i j d h l n = absurd (omega arith)
apart-order a (x ∷ xs) zero zero d h l n = absurd (omega arith)
apart-order a (x ∷ xs) zero (suc j) d h l n =
    let r = apart-from (x.to + 1) xs j d h.2 (omega arith) in
    let s : x.to + 1 ≤ (get_or xs j d).from = r.0 in
    omega arith
apart-order a (x ∷ xs) (suc i) zero d h l n = absurd (omega arith)
apart-order a (x ∷ xs) (suc i) (suc j) d h l n = apart-order (x.to + 1) xs i j d h.2 (omega arith) (omega arith)

-- the ends rise
pub apart-ends : (a : ℕ) (xs : List Span) (i j : ℕ) (d : Span) → AreApart a xs → i ≤ j → j < length xs →
    (get_or xs i d).to ≤ (get_or xs j d).to
apart-ends a [] i j d h l n = absurd (omega arith)
apart-ends a (x ∷ xs) zero zero d h l n = omega arith
apart-ends a (x ∷ xs) zero (suc j) d h l n =
    let r = apart-from (x.to + 1) xs j d h.2 (omega arith) in
    let s : x.to + 1 ≤ (get_or xs j d).from = r.0 in
    let t : (get_or xs j d).from < (get_or xs j d).to = r.1 in
    omega arith
apart-ends a (x ∷ xs) (suc i) zero d h l n = absurd (omega arith)
apart-ends a (x ∷ xs) (suc i) (suc j) d h l n = apart-ends (x.to + 1) xs i j d h.2 (omega arith) (omega arith)

pub apart-remove : (a : ℕ) (xs : List Span) (i : ℕ) → AreApart a xs → AreApart a (take i xs ++ drop (suc i) xs)
apart-remove a [] zero h = tt
apart-remove a [] (suc i) h = tt
apart-remove a (x ∷ xs) zero h =
    let f : a ≤ x.from = h.0 in
    let t : x.from < x.to = h.1 in
    apart-less (x.to + 1) a xs h.2 (omega arith)
apart-remove a (x ∷ xs) (suc i) h = (h.0, h.1, apart-remove (x.to + 1) xs i h.2)

pub apart-insert :
    (a : ℕ) (xs : List Span) (i : ℕ) (s : Span) → AreApart a xs → a ≤ s.from → s.from < s.to → i ≤ length xs →
    ((k : ℕ) (d : Span) → k < i → (get_or xs k d).to < s.from) →
    ((d : Span) → i < length xs → s.to < (get_or xs i d).from) → AreApart a (take i xs ++ s ∷ drop i xs)
apart-insert a [] zero s h f t l before after = (f, t, tt)
apart-insert a [] (suc i) s h f t l before after = absurd (omega arith)
apart-insert a (x ∷ xs) zero s h f t l before after =
    let n : s.to < x.from = after s (omega arith) in
    (f, t, (omega arith, h.1, h.2))
apart-insert a (x ∷ xs) (suc i) s h f t l before after =
    let b : x.to < s.from = before 0 s (omega arith) in (
      h.0,
      h.1,
      apart-insert (x.to + 1) xs i s h.2 (omega arith) t (omega arith)
          (λ k d m. before (suc k) d (omega arith)) (λ d m. after d (omega arith)),
    )

pub or_swap : (a b c : Bool) → (a || (b || c)) ≡ (b || (a || c))
or_swap true true c = refl
or_swap true false c = refl
or_swap false b c = refl

pub any-remove : {X : Type 0} (p : X → Bool) (xs : List X) (i : ℕ) (d : X) → i < length xs →
    list_any p xs ≡ (p (get_or xs i d) || list_any p (take i xs ++ drop (suc i) xs))
any-remove p [] i d l = absurd (omega arith)
any-remove p (x ∷ xs) zero d l = refl
any-remove p (x ∷ xs) (suc i) d l =
    ap (λ b. p x || b) (any-remove p xs i d (omega arith)) ∙
    or_swap (p x) (p (get_or xs i d)) (list_any p (take i xs ++ drop (suc i) xs))

pub any-insert : {X : Type 0} (p : X → Bool) (xs : List X) (i : ℕ) (s : X) →
    list_any p (take i xs ++ s ∷ drop i xs) ≡ (p s || list_any p xs)
any-insert p xs zero s = refl
any-insert p [] (suc i) s = refl
any-insert p (x ∷ xs) (suc i) s =
    ap (λ b. p x || b) (any-insert p xs i s) ∙ or_swap (p x) (p s) (list_any p xs)

-- two spans that meet or touch have no minute between them
pub covers-joined : (minute : ℤ) (a b : Span) → a.from ≤ b.to → b.from ≤ a.to →
    covers minute (joined a b) ≡ (covers minute a || covers minute b)
covers-joined (pos n) a b h k = grind (arith, nat_tests)
covers-joined (negsuc n) a b h k = refl

or_left_swap : (a b c d : Bool) → (a || b) ≡ c → ((a || (b || d)) ≡ (c || d))
or_left_swap true b c d e = rw (← e) refl
or_left_swap false b c d e = rw (← e) refl

-- one that touches is taken out and joined
pub joined-minutes : (minute : ℤ) (xs : List Span) (i : ℕ) (d s : Span) → i < length xs →
    s.from ≤ (get_or xs i d).to → (get_or xs i d).from ≤ s.to →
    (covers minute (joined s (get_or xs i d)) || minutes_of (take i xs ++ drop (suc i) xs) minute) ≡
    (covers minute s || minutes_of xs minute)
joined-minutes minute xs i d s l h k =
    let rest = minutes_of (take i xs ++ drop (suc i) xs) minute in
    let g = get_or xs i d in
    sym (ap (λ b. covers minute s || b) (any-remove (covers minute) xs i d l) ∙
    or_left_swap (covers minute s) (covers minute g) (covers minute (joined s g)) rest
    (sym (covers-joined minute s g h k)))

-- the same, where a list of intervals is read
pub span_at : (xs : List Interval) (k : ℕ) (d : Interval) (e : Span) → k < length xs →
    get_or (spans_in xs) k e ≡ (get_or xs k d).span
span_at xs k d e l = get_or-map (λ i. i.span) xs k d e l
