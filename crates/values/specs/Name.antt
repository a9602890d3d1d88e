-- Maps under names: a name is a list of numbers, as the bytes of a text.
use Rattle.std.specs.Prelude.{ℕ, ◌+◌, List, ◌∷◌, ◌++◌, map}
use Rattle.std.specs.declared.cmp.Ordering.{Ordering}
use Rattle.std.specs.Ordering.{nat_cmp}
use Rattle.std.specs.Cmp.Lexicographic.{slice_cmp}
use Rattle.std.specs.FinMap.{FinMap, get, insert}
use Rattle.std.specs.Option.{option_map, unwrap_or}

-- the order of names: by their first numbers that differ, and a name before each longer one that
-- it begins
abbrev pub name_cmp : List ℕ → List ℕ → Ordering
name_cmp = slice_cmp nat_cmp

-- a name that goes on after a text: each byte of the text stands as one more than itself, and the
-- end of the text as 0, below each byte
abbrev pub text_then : List ℕ → List ℕ → List ℕ
text_then text rest = map (λ byte. byte + 1) text ++ 0 ∷ rest

-- rows of keys and values, each under the name of its key
abbrev pub named_rows : {K V : Type 0} → (K → List ℕ) → List (K × V) → List (List ℕ × V)
named_rows name rows = map (λ row. (name row.0, row.1)) rows

-- a map with the value under a name changed, or as it was if it has no value under that name
abbrev pub changed_at : {V : Type 0} → FinMap name_cmp V → List ℕ → (V → V) → FinMap name_cmp V
changed_at m name change =
    unwrap_or (option_map (λ value. insert m name (change value)) (get m name)) m
