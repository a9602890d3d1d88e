-- Spans in a row, put in between disjoint ones in order.
use Rattle.std.proofs.Common.{◌≡◌, ℕ, zero, suc, ◌+◌, ◌-◌, ◌<◌, ◌≤◌, Bool, true, false, ◌||◌, List, [], ◌∷◌, ◌++◌, Some, length, take, drop, map, get_or, refl, sym, ap, ◌∙◌, arith}
use Rattle.std.specs.Prelude.{ℤ, pos, negsuc, slice_get, slice_range}
use Rattle.std.specs.List.{list_any, insert, insert_slice}
use Rattle.std.proofs.lemmas.Bool.Decides.{nat_tests}
use Rattle.std.proofs.lemmas.List.{append_assoc, take_more, take_at, length-take-le, drop_more, get_or-drop, length-drop, map-append, take-map, drop-map}
use Rattle.std.proofs.Math.Seq.{take-add}
use Rattle.std.proofs.lemmas.List.Folds.{list_any-append}
use Rattle.std.proofs.lemmas.Option.{get_or_from_slice_get, slice_get_within}
use Rattle.duty.specs.declared.span.Span.{Span}
use Rattle.duty.specs.declared.intervals.Interval.{Interval}
use Rattle.duty.specs.Minutes.{covers, minutes_of}
use Rattle.duty.specs.Intervals.{AreApart, spans_in, unsummed}
use Rattle.duty.proofs.Apart.{apart-less, or_swap}

-- the spans are apart and end by `end`, so that one that begins later may follow
abbrev pub AreApartTo : ℕ → List Span → ℕ → Type 0
AreApartTo least [] end = least ≤ end + 1
AreApartTo least (span ∷ rest) end = (least ≤ span.from) × (span.from < span.to) × AreApartTo (span.to + 1) rest end

apart-more : (a : ℕ) (xs : List Span) (e : ℕ) (s : Span) → AreApartTo a xs e → e < s.from → s.from < s.to →
    AreApartTo a (xs ++ s ∷ []) s.to
apart-more a [] e s h l t = let f : a ≤ e + 1 = h in (omega arith, t, omega arith)
apart-more a (x ∷ xs) e s h l t = (h.0, h.1, apart-more (x.to + 1) xs e s h.2 l t)

apart-joined : (a : ℕ) (xs : List Span) (e : ℕ) (rest : List Span) → AreApartTo a xs e → AreApart (e + 1) rest →
    AreApart a (xs ++ rest)
apart-joined a [] e rest h r = apart-less (e + 1) a rest r h
apart-joined a (x ∷ xs) e rest h r = (h.0, h.1, apart-joined (x.to + 1) xs e rest h.2 r)

apart-split : (a : ℕ) (xs : List Span) (s : Span) (rest : List Span) → AreApart a (xs ++ s ∷ rest) →
    AreApartTo a (xs ++ s ∷ []) s.to × AreApart (s.to + 1) rest
apart-split a [] s rest h = ((h.0, h.1, omega arith), h.2)
apart-split a (x ∷ xs) s rest h =
    let r = apart-split (x.to + 1) xs s rest h.2 in
    ((h.0, h.1, r.0), r.1)

apart-past : (a b : ℕ) (xs : List Span) → AreApart a xs → ((d : Span) → 0 < length xs → b < (get_or xs 0 d).from) →
    AreApart (b + 1) xs
apart-past a b [] h l = tt
apart-past a b (x ∷ xs) h l = let m : b < x.from = l x (omega arith) in (omega arith, h.1, h.2)

-- the row may be put in at the place, where it ends at `end`
pub record IsFitting (xs : List Span) (place : ℕ) (row : List Span) (end : ℕ) : Type 0 where
  pub front : AreApartTo 0 (take place xs ++ row) end
  pub rest : AreApart (end + 1) (drop place xs)

pub fitting-begun : (xs : List Span) (place : ℕ) (s : Span) → AreApart 0 (insert xs place s) → IsFitting xs place (s ∷ []) s.to
fitting-begun xs place s apart =
    let r = apart-split 0 (take place xs) s (drop place xs) apart in
    record { front = r.0; rest = r.1 }

pub fitting-more :
    (xs : List Span) (place : ℕ) (row : List Span) (end : ℕ) (s : Span) → IsFitting xs place row end → end < s.from → s.from < s.to →
    ((d : Span) → place < length xs → s.to < (get_or xs place d).from) → IsFitting xs place (row ++ s ∷ []) s.to
fitting-more xs place row end s now later some before = record {
  front = rw (← append_assoc) (apart-more 0 (take place xs ++ row) end s now.front later some);
  rest = apart-past (end + 1) s.to (drop place xs) now.rest
      (λ d l. (let n : length (drop place xs) ≡ length xs - place = length-drop place xs in
      let e : get_or (drop place xs) 0 d ≡ get_or xs (place + 0) d = get_or-drop place xs 0 d in
      let f : place + 0 ≡ place = omega arith in
      rw (e, f) (before d (omega arith))));
}

pub fitting-done : (xs : List Span) (place : ℕ) (row : List Span) (end : ℕ) → IsFitting xs place row end →
    AreApart 0 (insert_slice xs place row)
fitting-done xs place row end now = apart-joined 0 (take place xs ++ row) end (drop place xs) now.front now.rest

-- the minutes of a row that is put in
pub any-insert_slice : {X : Type 0} (p : X → Bool) (xs : List X) (i : ℕ) (row : List X) →
    list_any p (insert_slice xs i row) ≡ (list_any p row || list_any p xs)
any-insert_slice p xs zero row = list_any-append p row xs
any-insert_slice p [] (suc i) row = list_any-append p row []
any-insert_slice p (x ∷ xs) (suc i) row =
    ap (λ b. p x || b) (any-insert_slice p xs i row) ∙ or_swap (p x) (list_any p row) (list_any p xs)

-- the next one of a list joins the row
pub range-more : {X : Type 0} (xs : List X) (first i : ℕ) (x : X) → first ≤ i → slice_get xs i ≡ Some x →
    slice_range xs first (i + 1) ≡ slice_range xs first i ++ x ∷ []
range-more xs first i x l is =
    let within : i < length xs = slice_get_within xs i x is in
    let n : length (drop first xs) ≡ length xs - first = length-drop first xs in
    let e : i + 1 - first ≡ (i - first) + 1 = omega arith in
    let f : first + (i - first) ≡ i = omega arith in
    let g : get_or (drop first xs) (i - first) x ≡ x =
    get_or-drop first xs (i - first) x ∙ ap (λ k. get_or xs k x) f ∙ get_or_from_slice_get xs i x x is in
    ap (λ k. take k (drop first xs)) e ∙ take_more (drop first xs) (i - first) x (omega arith) ∙
    ap (λ y. take (i - first) (drop first xs) ++ y ∷ []) g

pub range-none : {X : Type 0} (xs : List X) (i : ℕ) → slice_range xs i i ≡ []
range-none xs i = let e : i - i ≡ 0 = omega arith in ap (λ k. take k (drop i xs)) e

pub range-first : {X : Type 0} (xs : List X) (first last : ℕ) (x : X) → slice_get xs first ≡ Some x → first < last →
    slice_range xs first last ≡ x ∷ slice_range xs (first + 1) last
range-first xs first last x is l =
    let within : first < length xs = slice_get_within xs first x is in
    let e : last - first ≡ suc (last - (first + 1)) = omega arith in
    ap (λ k. take k (drop first xs)) e ∙
    ap (take (suc (last - (first + 1)))) (drop_more xs first x within) ∙
    ap (λ y. y ∷ slice_range xs (first + 1) last) (get_or_from_slice_get xs first x x is)

or_front : (a r x : Bool) → ((a || r) || x) ≡ (r || (a || x))
or_front true true x = refl
or_front true false x = refl
or_front false true x = refl
or_front false false x = refl

-- the minutes of a row whose first span was joined with intervals that were taken out
pub row-minutes :
    (minute : ℤ) (old xs : List Span) (place : ℕ) (span merged : Span) (row : List Span) →
    (covers minute merged || minutes_of xs minute) ≡ (covers minute span || minutes_of old minute) →
    minutes_of (insert_slice xs place (merged ∷ row)) minute ≡ (minutes_of (span ∷ row) minute || minutes_of old minute)
row-minutes minute old xs place span merged row same =
    let p = covers minute in
    any-insert_slice p xs place (merged ∷ row) ∙
    or_front (p merged) (list_any p row) (list_any p xs) ∙ ap (λ b. list_any p row || b) same ∙
    sym (or_front (p span) (list_any p row) (list_any p old))

spans-unsummed : (row : List Span) → spans_in (map unsummed row) ≡ row
spans-unsummed [] = refl
spans-unsummed (s ∷ row) = ap (λ xs. s ∷ xs) (spans-unsummed row)

pub spans-put : (xs : List Interval) (place : ℕ) (row : List Span) →
    spans_in (insert_slice xs place (map unsummed row)) ≡ insert_slice (spans_in xs) place row
spans-put xs place row =
    let e : spans_in (map unsummed row) ≡ row = spans-unsummed row in
    simp (map-append, take-map, drop-map, e)

pub front-put : (xs : List Interval) (place : ℕ) (row : List Interval) → place ≤ length xs →
    take place (insert_slice xs place row) ≡ take place xs
front-put xs place row l =
    ap (take place) (append_assoc (take place xs) row (drop place xs)) ∙
    take_at (take place xs) (row ++ drop place xs) place (length-take-le place xs l)

-- a span that holds no minute
pub covers-none : (minute : ℤ) (s : Span) → s.to ≤ s.from → covers minute s ≡ false
covers-none (pos n) s h = grind (arith, nat_tests)
covers-none (negsuc n) s h = refl

pub range-empty : (minute : ℤ) (spans old : List Span) (i : ℕ) (s : Span) → slice_get spans i ≡ Some s → s.to ≤ s.from →
    minutes_of old minute ≡ (minutes_of (slice_range spans i (i + 1)) minute || minutes_of old minute)
range-empty minute spans old i s is empty =
    let one : slice_range spans i (i + 1) ≡ s ∷ [] =
    range-more spans i i s (omega arith) is ∙ ap (λ xs. xs ++ s ∷ []) (range-none spans i) in
    let none = covers-none minute s empty in
    rw (one, none) refl

or_shift : (a b c : Bool) → (a || (b || c)) ≡ ((b || a) || c)
or_shift true true c = refl
or_shift true false c = refl
or_shift false true c = refl
or_shift false false c = refl

take-range : {X : Type 0} (xs : List X) (a b : ℕ) → a ≤ b → take b xs ≡ take a xs ++ slice_range xs a b
take-range xs a b l = let e : b ≡ a + (b - a) = omega arith in ap (λ k. take k xs) e ∙ take-add a (b - a) xs

-- a list is added row by row
pub row-added :
    (spans before after start : List Span) (a b : ℕ) (minute : ℤ) → a ≤ b →
    minutes_of after minute ≡ (minutes_of (slice_range spans a b) minute || minutes_of before minute) →
    minutes_of before minute ≡ (minutes_of (take a spans) minute || minutes_of start minute) →
    minutes_of after minute ≡ (minutes_of (take b spans) minute || minutes_of start minute)
row-added spans before after start a b minute l one now =
    let row = minutes_of (slice_range spans a b) minute in
    let first = minutes_of (take a spans) minute in
    let rest = minutes_of start minute in
    one ∙ ap (λ it. row || it) now ∙ or_shift row first rest ∙
    ap (λ it. it || rest) (sym (ap (λ xs. minutes_of xs minute) (take-range spans a b l) ∙
    list_any-append (covers minute) (take a spans) (slice_range spans a b)))
