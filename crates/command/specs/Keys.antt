-- What a command comes under.
use Rattle.std.specs.Prelude.{◌≡◌, ℕ, List, [], ◌∷◌}
use Rattle.std.specs.Ordering.{nat_cmp, ordering_then}
use Rattle.std.proofs.Common.{ap}
use Rattle.values.specs.Name.{name_cmp}
use Rattle.values.proofs.Names.{number_order}

-- a key: the number of a request, and a part of that request, 0 for a single command and i for the
-- i-th pairing of an import
pub record KeyParts : Type 0 where
  pub number : ℕ
  pub part : ℕ

-- a key as the list of numbers that names it in the book: keys are ordered by number, then part
abbrev pub key_name : KeyParts → List ℕ
key_name key = key.number ∷ key.part ∷ []

-- The order of keys is the order of their names.
pub keys_order : (a b : KeyParts) →
    ordering_then (nat_cmp a.number b.number) (nat_cmp a.part b.part)
    ≡ name_cmp (key_name a) (key_name b)
keys_order a b = ap (ordering_then (nat_cmp a.number b.number)) (number_order a.part b.part)
