-- Lists and maps that answer alike are equal.
use Rattle.std.proofs.Common.{◌≡◌, refl, sym, ap₂, ◌∙◌, ℕ, zero, suc, List, [], ◌∷◌, Option, Some, None, slice_get}
use Rattle.std.specs.FinMap as fin
use Rattle.std.specs.Cmp.Lexicographic.{nat_list_cmp_total}
use Rattle.values.specs.Name.{name_cmp}
use Rattle.values.proofs.Names.{exact_names}

-- what one answers is answered by the other
abbrev pub Answers : {X : Type 0} → Option X → Option X → Type 0
Answers {X} a b = (v : X) → a ≡ Some v → b ≡ Some v

pub same_option : {X : Type 0} (a b : Option X) → Answers a b → Answers b a → a ≡ b
same_option None None f g = refl
same_option None (Some y) f g = g y refl
same_option (Some x) b f g = sym (f x refl)

pub some_same : {X : Type 0} {a b : X} → Some a ≡ Some b → a ≡ b
some_same e = cc

pub one_value : {X : Type 0} {o : Option X} {a b : X} → o ≡ Some a → o ≡ Some b → a ≡ b
one_value e f = some_same (sym e ∙ f)

by_places : {X : Type 0} (xs ys : List X) → ((i : ℕ) → slice_get xs i ≡ slice_get ys i) → xs ≡ ys
by_places [] [] f = refl
by_places [] (y ∷ ys) f = absurd (let e = f zero in cc)
by_places (x ∷ xs) [] f = absurd (let e = f zero in cc)
by_places (x ∷ xs) (y ∷ ys) f = ap₂ (λ a l. a ∷ l) (some_same (f zero)) (by_places xs ys (λ i. f (suc i)))

pub same_list : {X : Type 0} (xs ys : List X) → ((i : ℕ) → Answers (slice_get xs i) (slice_get ys i)) →
    ((i : ℕ) → Answers (slice_get ys i) (slice_get xs i)) → xs ≡ ys
same_list xs ys f g = by_places xs ys (λ i. same_option _ _ (f i) (g i))

pub same_map : {X : Type 0} (m n : fin.FinMap name_cmp X) → ((q : List ℕ) → Answers (fin.get m q) (fin.get n q)) →
    ((q : List ℕ) → Answers (fin.get n q) (fin.get m q)) → m ≡ n
same_map m n f g = fin.same_map nat_list_cmp_total exact_names m n (λ q. same_option _ _ (f q) (g q))
