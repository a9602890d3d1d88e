-- A plain line of `limits` with its option, and then its flag.
use Rattle.std.proofs.Common.{◌≡◌, ◌∙◌, true, false, refl, ap, List, [], ◌∷◌, Some, codes}
use Rattle.std.specs.Prelude.{fold}
use Rattle.std.specs.List.{list_all}
use Rattle.clap.specs.Walk.{Row, Text, Walk, finished, nothing_held, option, rows_after, walk_from, walked}
use Rattle.clap.specs.Simple.{Shape}
use Rattle.clap.specs.Faults.{level_fault, walk_fault}
use Rattle.console.proofs.OptionLine.{option_level, option_rows}
use Rattle.console.proofs.PlainLine.{found, leaf}
use Rattle.console.proofs.PlainWords.{GoesOn, fault_at, row, taken}
use Rattle.console.specs.CommandLine.{given, is_json, maybe, one}
use Rattle.console.specs.Plain.{form_words, is_plain}
use Rattle.request.specs.declared.form.Form.{Form}
use Rattle.request.specs.declared.form.Form.TheVariants as form

abbrev limits : Shape
limits = leaf (codes "limits")

module _ (file crew id : Text) (plain : list_all is_plain (file ∷ crew ∷ []) ≡ true) (id_plain : is_plain id ≡ true) where
  abbrev with : Text
  with = codes "--with"

  abbrev at_crew : Walk
  at_crew = taken limits (taken limits (walk_from nothing_held) file) crew

  abbrev at_with : Walk
  at_with = record at_crew {
    held = record {
      rows = row (codes "file") (file ∷ []) ∷ row (codes "crew") (crew ∷ []) ∷ [];
      pending = Some (codes "with", []);
      skip = 0;
    };
    waiting = option (codes "with");
  }

  to_with : ◌≡◌ {A = Walk} (walked limits.rules [] at_crew with) at_with
  unfolding walked
  to_with = refl

  on : GoesOn at_with
  on = record { flags = refl; words = refl }

  abbrev at_end : Form → Walk
  at_end in_form = fold (walked limits.rules []) (taken limits at_with id) (form_words in_form)

  flag_passes : (in_form : Form) → walk_fault limits [] (taken limits at_with id) (form_words in_form) ≡ []
  unfolding walk_fault walked
  flag_passes form.Text = refl
  flag_passes form.Json = refl

  end_passes : (in_form : Form) → fault_at limits [] (at_end in_form).held ≡ []
  unfolding walked
  end_passes form.Text = refl
  end_passes form.Json = refl

  pub limits_level : (in_form : Form) → level_fault limits [] nothing_held (file ∷ crew ∷ with ∷ id ∷ form_words in_form) false [] ≡ []
  limits_level in_form =
      option_level limits refl (file ∷ crew ∷ []) with id (form_words in_form) plain id_plain refl at_with to_with on
      (flag_passes in_form)
      ∙ end_passes in_form

  end_found : (in_form : Form) → found (codes "limits") (finished limits.rules (at_end in_form).held)
      ≡ Some (one file) ∷ Some (one crew) ∷ Some (maybe (Some id)) ∷ Some (given (is_json in_form)) ∷ []
  unfolding walked
  end_found form.Text = refl
  end_found form.Json = refl

  pub limits_found : (in_form : Form) → found (codes "limits") (rows_after limits.rules [] (file ∷ crew ∷ with ∷ id ∷ form_words in_form))
      ≡ Some (one file) ∷ Some (one crew) ∷ Some (maybe (Some id)) ∷ Some (given (is_json in_form)) ∷ []
  limits_found in_form =
      ap (λ (rows : List Row). found (codes "limits") rows)
      (option_rows limits refl (file ∷ crew ∷ []) with id (form_words in_form) plain id_plain refl at_with to_with on
      (flag_passes in_form))
      ∙ end_found in_form
