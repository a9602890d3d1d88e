-- A compact text is read as the value that it is the text of.
use Rattle.std.proofs.Common.{◌≡◌, ℕ, ◌<◌, ◌≤◌, ◌^◌, List, [], ◌∷◌, map, Option, Some, option_and_then, false, refl, sym, ap, ◌∙◌, arith, append-nil}
use Rattle.json.specs.Json as json
use Rattle.json.specs.Lex.{tokens}
use Rattle.json.specs.Token.{Token}
use Rattle.json.specs.Tree as tree
use Rattle.json.proofs.Printed.Decimals.{IsNumber-decimal}
use Rattle.json.proofs.Printed.Tokens.{tokens-print}
use Rattle.json.proofs.Printed.Trees.{value-json_tokens, ArePrintable-json_tokens}
use Rattle.serde_json.specs.Data.{Data, number, unsigned, Items}
use Rattle.serde_json.specs.Read.{of_json, of_items, read, max_depth}
use Rattle.serde_json.specs.View.{items_of}
use Rattle.serde_json.specs.Written.{compact_text, outline, items_outline, has_float, items_have_float}
use Rattle.serde_json.proofs.Numbers.{number_of-decimal}
use Rattle.serde_json.proofs.Texts.{print-outline}

-- a value whose text is read as it: its members are in order, and its numbers are whole. It nests no deeper than n
pub record IsKept (n : ℕ) (d : Data) : Type 0 where
  pub same : of_json (outline d) ≡ Some d
  pub numbers : tree.HasNumbers (outline d)
  pub no_float : has_float d ≡ false
  pub shallow : tree.depth (outline d) ≤ n

-- items of such values
pub record AreKept (n : ℕ) (ds : Items) : Type 0 where
  pub same : of_items (items_outline ds) ≡ Some ds
  pub numbers : tree.ItemsHaveNumbers (items_outline ds)
  pub no_float : items_have_float ds ≡ false
  pub shallow : tree.items_depth (items_outline ds) ≤ n

pub items_kept : {A : Type 0} (n : ℕ) (f : A → Data) → ((x : A) → IsKept n (f x)) → (xs : List A) → AreKept n (items_of (map f xs))
items_kept n f each [] = record { same = refl; numbers = tt; no_float = refl; shallow = omega arith }
items_kept n f each (x ∷ xs) =
    let first = each x in
    let rest = items_kept n f each xs in
    record {
      same = rw (first.same, rest.same) refl;
      numbers = (first.numbers, rest.numbers);
      no_float = rw (first.no_float, rest.no_float) refl;
      shallow = omega (arith, first.shallow, rest.shallow);
    }

pub number_kept : (n : ℕ) → n < 2 ^ 64 → IsKept 0 (number (unsigned n))
number_kept n h = record { same = rw (number_of-decimal n h) refl; numbers = IsNumber-decimal n h; no_float = refl; shallow = omega arith }

-- all tokens of a text
abbrev whole : Option (json.Json × List Token) → Option Data
whole o = option_and_then of_json (option_and_then (λ p. json.if_last p.0 p.1) o)

pub read_compact : (d : Data) → IsKept max_depth d → read (compact_text d) ≡ Some d
read_compact d kept =
    let same = ap tokens (sym (print-outline d)) ∙ tokens-print _ (ArePrintable-json_tokens (outline d) kept.numbers) in
    ap whole (ap (json.value max_depth) (same ∙ sym (append-nil _)) ∙ value-json_tokens (outline d) max_depth [] kept.shallow) ∙ kept.same
