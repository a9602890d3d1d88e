-- A plain line of `serve` with its option.
use Rattle.std.proofs.Common.{◌≡◌, ◌⊎◌, Bool, cond, true, false, refl, ap, inl, inr, List, [], ◌∷◌, Some, codes}
use Rattle.std.specs.Prelude.{option_map}
use Rattle.std.specs.List.{list_all}
use Rattle.clap.specs.Walk.{Row, Text, Walk, nothing_held, option, rows_after, walk_from, walked}
use Rattle.clap.specs.Simple.{Shape}
use Rattle.clap.specs.Kinds.{Kinds, or_else}
use Rattle.clap.specs.Faults.{level_fault}
use Rattle.clap.specs.declared.error.kind.ErrorKind.TheVariants.{ValueValidation}
use Rattle.console.proofs.NumberRead.{is_number}
use Rattle.console.proofs.OptionLine.{no_flags, option_level, option_rows}
use Rattle.console.proofs.PlainLine.{found, leaf}
use Rattle.console.proofs.PlainWords.{GoesOn, row, taken}
use Rattle.console.specs.CommandLine.{last_port, most_connections, number_up_to, one, whole}
use Rattle.console.specs.Plain.{is_plain}

abbrev serve : Shape
serve = leaf (codes "serve")

abbrev number_kinds : Bool → Kinds
number_kinds b = or_else (cond b [] (ValueValidation ∷ [])) []

-- what the line comes to, by whether its port and its count are numbers: the port is looked at when the option begins
abbrev pub both_kinds : Bool → Bool → Kinds
both_kinds port count = or_else (or_else (or_else (number_kinds port) []) []) (or_else (number_kinds count) [])

pub either_fails : (port count : Bool) → (port ≡ false) ⊎ (count ≡ false) → both_kinds port count ≡ ValueValidation ∷ []
either_fails port count (inl e) = ap (λ b. both_kinds b count) e
either_fails true count (inr e) = ap (both_kinds true) e
either_fails false count (inr e) = refl

module _ (file port count : Text) (plain : list_all is_plain (file ∷ port ∷ []) ≡ true)
    (count_plain : is_plain count ≡ true) where
  abbrev flag : Text
  flag = codes "--connections"

  abbrev given : List Text
  given = file ∷ port ∷ flag ∷ count ∷ []

  abbrev at_port : Walk
  at_port = taken serve (taken serve (walk_from nothing_held) file) port

  abbrev at_flag : Walk
  at_flag = record at_port {
    held = record {
      rows = row (codes "file") (file ∷ []) ∷ row (codes "port") (port ∷ []) ∷ [];
      pending = Some (codes "connections", []);
      skip = 0;
    };
    waiting = option (codes "connections");
  }

  to_flag : ◌≡◌ {A = Walk} (walked serve.rules [] at_port flag) at_flag
  unfolding walked
  to_flag = refl

  on : GoesOn at_flag
  on = record { flags = refl; words = refl }

  pub serve_level : level_fault serve [] nothing_held given false []
      ≡ both_kinds (is_number last_port port) (is_number most_connections count)
  serve_level =
      option_level serve refl (file ∷ port ∷ []) flag count [] plain count_plain refl at_flag to_flag on
      (no_flags serve (taken serve at_flag count))

  pub serve_found : found (codes "serve") (rows_after serve.rules [] given)
      ≡ Some (one file) ∷ option_map whole (number_up_to last_port port)
      ∷ option_map whole (number_up_to most_connections count) ∷ []
  serve_found =
      ap (λ (rows : List Row). found (codes "serve") rows)
      (option_rows serve refl (file ∷ port ∷ []) flag count [] plain count_plain refl at_flag to_flag on
      (no_flags serve (taken serve at_flag count)))
