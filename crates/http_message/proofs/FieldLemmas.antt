-- The values of a name in some of the fields, and in one more.
use Rattle.std.proofs.Common.{◌≡◌, ◌<◌, ◌+◌, ℕ, zero, suc, Bool, true, false, ◌||◌, List, [], ◌∷◌, ◌++◌, length, take, drop, map, refl, sym, ap, ◌∙◌, arith, get_or, if◌then◌else◌, append-nil}
use Rattle.std.specs.Prelude.{slice_range}
use Rattle.std.proofs.lemmas.List.{take-append-drop}
use Rattle.httparse.specs.Spans.{header_bytes}
use Rattle.httparse.specs.declared.spans.HeaderSpan.{HeaderSpan}
use Rattle.http_message.specs.Fields.{values, is_same, has}

abbrev pub Pair : Type 0
Pair = List ℕ × List ℕ

abbrev pub one : List ℕ → Pair → List (List ℕ)
one name f = if is_same f.0 name then f.1 ∷ [] else []

pub values-append : (name : List ℕ) (xs ys : List Pair) → values name (xs ++ ys) ≡ values name xs ++ values name ys
values-append name [] ys = refl
values-append name (f ∷ xs) ys = by (is_same f.0 name) refl (values-append name xs ys)
  where
    by : (v : Bool) → is_same f.0 name ≡ v → values name (xs ++ ys) ≡ values name xs ++ values name ys → (if is_same f.0 name then f.1 ∷ values name (xs ++ ys) else values name (xs ++ ys)) ≡ (if is_same f.0 name then f.1 ∷ values name xs else values name xs) ++ values name ys
    by true e ih = rw e (ap (λ t. f.1 ∷ t) ih)
    by false e ih = rw e ih

module _ {S : Type 0} (name : List ℕ) (f : S → Pair) where
  values_more : (spans : List S) (i : ℕ) (d : S) → i < length spans
      → map f (take (i + 1) spans) ≡ map f (take i spans) ++ f (get_or spans i d) ∷ []
  values_more [] i d h = absurd (omega arith)
  values_more (x ∷ spans) zero d h = refl
  values_more (x ∷ spans) (suc i) d h =
      let n : suc i + 1 ≡ suc (i + 1) = omega arith in
      ap (λ n. map f (take n (x ∷ spans))) n ∙ ap (λ t. f x ∷ t) (values_more spans i d (omega arith))

  -- one field more
  pub more_is : (spans : List S) (i : ℕ) (d : S) → i < length spans
      → values name (map f (take (i + 1) spans)) ≡ values name (map f (take i spans)) ++ one name (f (get_or spans i d))
  more_is spans i d h = ap (values name) (values_more spans i d h) ∙ values-append name (map f (take i spans)) (f (get_or spans i d) ∷ [])

  map-append : (xs ys : List S) → map f (xs ++ ys) ≡ map f xs ++ map f ys
  map-append [] ys = refl
  map-append (x ∷ xs) ys = ap (λ t. f x ∷ t) (map-append xs ys)

  -- all fields, around that one
  pub around : (spans : List S) (i : ℕ) (d : S) → i < length spans
      → values name (map f spans) ≡ values name (map f (take i spans)) ++ one name (f (get_or spans i d)) ++ values name (map f (drop (i + 1) spans))
  around spans i d h =
      ap (λ t. values name (map f t)) (sym (take-append-drop (i + 1) spans))
      ∙ ap (values name) (map-append (take (i + 1) spans) (drop (i + 1) spans))
      ∙ values-append name (map f (take (i + 1) spans)) (map f (drop (i + 1) spans))
      ∙ ap (λ t. t ++ values name (map f (drop (i + 1) spans))) (more_is spans i d h)

-- ---- one field of a list of spans

abbrev pub no_span : HeaderSpan
no_span = record { name = record { start = 0; end = 0 }; value = record { start = 0; end = 0 } }

module _ (bytes name : List ℕ) (spans : List HeaderSpan) (i : ℕ) (here : i < length spans) where
  abbrev pub here_is : HeaderSpan
  here_is = get_or spans i no_span

  abbrev pub name_is : List ℕ
  name_is = slice_range bytes here_is.name.start here_is.name.end

  abbrev pub value_is : List ℕ
  value_is = slice_range bytes here_is.value.start here_is.value.end

  abbrev pub so_far : ℕ → List (List ℕ)
  so_far n = values name (map (header_bytes bytes) (take n spans))

  one_hit : is_same name_is name ≡ true → one name (name_is, value_is) ≡ value_is ∷ []
  one_hit e = rw e refl

  one_miss : is_same name_is name ≡ false → one name (name_is, value_is) ≡ []
  one_miss e = rw e refl

  pub other_name : is_same name_is name ≡ false → so_far (i + 1) ≡ so_far i
  other_name misses = more_is name (header_bytes bytes) spans i no_span here ∙ ap (λ t. so_far i ++ t) (one_miss misses) ∙ append-nil (so_far i)

  pub this_name : is_same name_is name ≡ true → so_far (i + 1) ≡ so_far i ++ value_is ∷ []
  this_name hits = more_is name (header_bytes bytes) spans i no_span here ∙ ap (λ t. so_far i ++ t) (one_hit hits)

  pub all_values : is_same name_is name ≡ true → values name (map (header_bytes bytes) spans) ≡ so_far i ++ value_is ∷ [] ++ values name (map (header_bytes bytes) (drop (i + 1) spans))
  all_values hits = around name (header_bytes bytes) spans i no_span here ∙ ap (λ t. so_far i ++ t ++ values name (map (header_bytes bytes) (drop (i + 1) spans))) (one_hit hits)

-- one of two lists has the value
pub has-append : (value : List ℕ) (xs ys : List (List ℕ)) → has value (xs ++ ys) ≡ (has value xs || has value ys)
has-append value [] ys = refl
has-append value (x ∷ xs) ys = by (is_same x value) (has-append value xs ys)
  where
    by : (v : Bool) → has value (xs ++ ys) ≡ (has value xs || has value ys) → (v || has value (xs ++ ys)) ≡ ((v || has value xs) || has value ys)
    by true ih = refl
    by false ih = ih
