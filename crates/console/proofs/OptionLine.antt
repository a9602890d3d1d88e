-- A line of plain words that meet no fault, then an option with a plain value, and then flags that meet none.
use Rattle.std.proofs.Common.{◌≡◌, ◌∙◌, ◌++◌, false, true, ap, ap₂, refl, List, [], ◌∷◌}
use Rattle.std.specs.Prelude.{fold}
use Rattle.std.specs.List.{list_all}
use Rattle.clap.specs.Walk.{Text, Walk, finished, nothing_held, rows_after, walked}
use Rattle.clap.specs.Simple.{Shape}
use Rattle.clap.specs.Kinds.{Kinds, or_else}
use Rattle.clap.specs.Faults.{level_fault, turn_fault, walk_fault}
use Rattle.console.proofs.FlagLine.{at_words, start, words_pass, words_walked}
use Rattle.console.proofs.PlainWords.{GoesOn, fault_at, faults, level_is, plain_fault, plain_walked, reads_flags}
use Rattle.console.proofs.PlainWords.{taken, taken_fault}
use Rattle.console.specs.Plain.{is_plain}

-- where the line has no flags, it meets no fault at one
pub no_flags : (s : Shape) (w : Walk) → walk_fault s [] w [] ≡ []
unfolding walk_fault
no_flags s w = refl

module _ (s : Shape) (reads : list_all reads_flags s.rules ≡ true) (words : List Text) (option value : Text)
    (flags : List Text) (plain : list_all is_plain words ≡ true) (value_plain : is_plain value ≡ true)
    (none : faults s start words ≡ []) (at_option : Walk)
    (to_option : ◌≡◌ {A = Walk} (walked s.rules [] (at_words s words) option) at_option) (on : GoesOn at_option)
    (pass : walk_fault s [] (taken s at_option value) flags ≡ []) where
  abbrev line : List Text
  line = words ++ option ∷ value ∷ flags

  abbrev at_end : Walk
  at_end = fold (walked s.rules []) (taken s at_option value) flags

  line_ends : ◌≡◌ {A = Walk} (fold (walked s.rules []) start line) at_end
  line_ends =
      words_walked s reads words (option ∷ value ∷ flags) plain
      ∙ (ap (λ (w : Walk). fold (walked s.rules []) (walked s.rules [] w value) flags) to_option
      ∙ ap (λ (w : Walk). fold (walked s.rules []) w flags) (plain_walked s reads at_option value value_plain on))

  -- what the line comes to at its words: at the option, and at its value
  abbrev line_kinds : Kinds
  line_kinds = or_else (turn_fault s [] (at_words s words) option) (or_else (taken_fault s at_option value) [])

  line_faults : walk_fault s [] start line ≡ line_kinds
  unfolding walk_fault
  line_faults =
      words_pass s reads words (option ∷ value ∷ flags) plain none
      ∙ ap (or_else (turn_fault s [] (at_words s words) option))
      (ap (λ (w : Walk). walk_fault s [] w (value ∷ flags)) to_option
      ∙ ap₂ or_else (plain_fault s reads at_option value value_plain on)
      (ap (λ (w : Walk). walk_fault s [] w flags) (plain_walked s reads at_option value value_plain on) ∙ pass))

  pub option_level : level_fault s [] nothing_held line false [] ≡ fault_at s line_kinds at_end.held
  option_level = level_is s line _ _ line_faults line_ends

  pub option_rows : rows_after s.rules [] line ≡ finished s.rules at_end.held
  option_rows = ap (λ (w : Walk). finished s.rules w.held) line_ends
