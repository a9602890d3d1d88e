-- Reading the parts of a list, one after the other.
use Rattle.std.proofs.Common.{◌≡◌, List, [], ◌∷◌, ◌++◌, Option, Some, None, option_map, refl, sym, ap, append_assoc, append-nil}
use Rattle.serde_json.specs.Data.{Data}
use Rattle.serde_json.specs.View.{view, items_view}
use Rattle.serde_json.specs.declared.value.Value.{Value}
use Rattle.stored_json.specs.Parts.{read_each}

module _ {A : Type 0} (reads : Data → Option A) where
  -- the parts so far, and then those of the values that are left
  abbrev pub read_from : List A → List Value → Option (List A)
  read_from parts values = option_map (λ rest. parts ++ rest) (read_each reads (items_view values))

  moved : (parts : List A) (part : A) (rest : Option (List A)) → option_map (λ more. parts ++ more) (option_map (λ more. part ∷ more) rest) ≡ option_map (λ more. (parts ++ part ∷ []) ++ more) rest
  moved parts part None = refl
  moved parts part (Some more) = ap Some (sym (append_assoc parts (part ∷ []) more))

  -- the next value is read
  pub read_from-next : (parts : List A) (part : A) (value : Value) (values : List Value) → reads (view value) ≡ Some part → read_from parts (value ∷ values) ≡ read_from (parts ++ part ∷ []) values
  read_from-next parts part value values h = rw h (moved parts part _)

  -- the next value isn't read
  pub read_from-stop : (parts : List A) (value : Value) (values : List Value) → reads (view value) ≡ None → read_from parts (value ∷ values) ≡ None
  read_from-stop parts value values h = rw h refl

  -- no value is left
  pub read_from-end : (parts : List A) → read_from parts [] ≡ Some parts
  read_from-end parts = ap Some (append-nil parts)

  pub read_from-begin : (values : List Value) → read_from [] values ≡ read_each reads (items_view values)
  read_from-begin values = by (read_each reads (items_view values))
    where
      by : (o : Option (List A)) → option_map (λ rest. [] ++ rest) o ≡ o
      by None = refl
      by (Some rest) = refl
