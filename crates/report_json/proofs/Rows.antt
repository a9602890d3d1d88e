-- One row more in a loop over numbered items, or over those that pass a test.
use Rattle.std.proofs.Common.{◌≡◌, ◌∙◌, ℕ, suc, ◌+◌, ◌<◌, Bool, true, false, cond, List, [], ◌∷◌, ◌++◌, map, length, drop, get_or, add-one, drop-cons, append_assoc, sym, ap}
use Rattle.std.specs.List.{enumerate_from, filter}
use Rattle.std.proofs.lemmas.List.{map-append}
use Rattle.serde_json.specs.Data.{Data}
use Rattle.serde_json.specs.View.{view}
use Rattle.serde_json.specs.declared.value.Value.{Value}

pub one_more : {A : Type 0} (f : ℕ × A → Data) (before after : List Value) (v : Value) (all : List Data) (items : List A) (k : ℕ) (d : A) →
    k < length items → view v ≡ f (k + 1, get_or items k d) → after ≡ before ++ v ∷ [] →
    map view before ++ map f (enumerate_from (k + 1) (drop k items)) ≡ all →
    map view after ++ map f (enumerate_from (k + 1 + 1) (drop (k + 1) items)) ≡ all
one_more f before after v all items k d l is added so_far =
    let rest : drop k items ≡ get_or items k d ∷ drop (suc k) items = drop-cons items k d l in
    let more : List Data = map f (enumerate_from (k + 1 + 1) (drop (k + 1) items)) in
    let next : map f (enumerate_from (k + 1) (drop k items)) ≡ f (k + 1, get_or items k d) ∷ more =
    rw (add-one k) (ap (λ xs. map f (enumerate_from (suc k) xs)) rest) in
    ap (λ vs. map view vs ++ more) added
    ∙ ap (λ ds. ds ++ more) (map-append view before (v ∷ []))
    ∙ append_assoc (map view before) (view v ∷ []) more
    ∙ ap (λ x. map view before ++ x ∷ more) is
    ∙ ap (λ ds. map view before ++ ds) (sym next)
    ∙ so_far

-- a row that passes the test is made, and the others are left
pub one_row_more : {A : Type 0} (f : A → Data) (test : A → Bool) (before after : List Value) (v : Value) (all : List Data) (row : A) (rows : List A) →
    test row ≡ true → view v ≡ f row → after ≡ before ++ v ∷ [] →
    map view before ++ map f (filter test (row ∷ rows)) ≡ all →
    map view after ++ map f (filter test rows) ≡ all
one_row_more f test before after v all row rows passed is added so_far =
    let more : List Data = map f (filter test rows) in
    let next : map f (filter test (row ∷ rows)) ≡ f row ∷ more = ap (λ b. map f (cond b (row ∷ filter test rows) (filter test rows))) passed in
    ap (λ vs. map view vs ++ more) added
    ∙ ap (λ ds. ds ++ more) (map-append view before (v ∷ []))
    ∙ append_assoc (map view before) (view v ∷ []) more
    ∙ ap (λ x. map view before ++ x ∷ more) is
    ∙ ap (λ ds. map view before ++ ds) (sym next)
    ∙ so_far

-- a row that doesn't pass the test is left out
one_row_less : {A : Type 0} (f : A → Data) (test : A → Bool) (before : List Value) (all : List Data) (row : A) (rows : List A) →
    test row ≡ false →
    map view before ++ map f (filter test (row ∷ rows)) ≡ all →
    map view before ++ map f (filter test rows) ≡ all
one_row_less f test before all row rows failed so_far =
    ap (λ ds. map view before ++ ds) (sym (ap (λ b. map f (cond b (row ∷ filter test rows) (filter test rows))) failed)) ∙ so_far

numbered : {A : Type 0} (items : List A) (k : ℕ) (d : A) → k < length items →
    enumerate_from (k + 1) (drop k items) ≡ (k + 1, get_or items k d) ∷ enumerate_from (k + 1 + 1) (drop (k + 1) items)
numbered items k d l =
    let rest : drop k items ≡ get_or items k d ∷ drop (suc k) items = drop-cons items k d l in
    rw (add-one k) (ap (enumerate_from (suc k)) rest)

pub one_more_passed : {A : Type 0} (f : ℕ × A → Data) (test : ℕ × A → Bool) (before after : List Value) (v : Value) (all : List Data) (items : List A) (k : ℕ) (d : A) →
    k < length items → test (k + 1, get_or items k d) ≡ true → view v ≡ f (k + 1, get_or items k d) → after ≡ before ++ v ∷ [] →
    map view before ++ map f (filter test (enumerate_from (k + 1) (drop k items))) ≡ all →
    map view after ++ map f (filter test (enumerate_from (k + 1 + 1) (drop (k + 1) items))) ≡ all
one_more_passed f test before after v all items k d l passed is added so_far =
    one_row_more f test before after v all (k + 1, get_or items k d) (enumerate_from (k + 1 + 1) (drop (k + 1) items)) passed is added
    (ap (λ rows. map view before ++ map f (filter test rows)) (sym (numbered items k d l)) ∙ so_far)

pub one_more_failed : {A : Type 0} (f : ℕ × A → Data) (test : ℕ × A → Bool) (before : List Value) (all : List Data) (items : List A) (k : ℕ) (d : A) →
    k < length items → test (k + 1, get_or items k d) ≡ false →
    map view before ++ map f (filter test (enumerate_from (k + 1) (drop k items))) ≡ all →
    map view before ++ map f (filter test (enumerate_from (k + 1 + 1) (drop (k + 1) items))) ≡ all
one_more_failed f test before all items k d l failed so_far =
    one_row_less f test before all (k + 1, get_or items k d) (enumerate_from (k + 1 + 1) (drop (k + 1) items)) failed
    (ap (λ rows. map view before ++ map f (filter test rows)) (sym (numbered items k d l)) ∙ so_far)
