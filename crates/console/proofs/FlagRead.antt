-- A flag of a line: `true` where the line gave it, and `false` by default.
use Rattle.std.proofs.Common.{◌≡◌, ◌∙◌, ◌||◌, Bool, true, false, refl, sym, ap, codes, List, [], Option, Some, None}
use Rattle.std.proofs.Common.{true≢false}
use Rattle.std.specs.List.{list_all}
use Rattle.std.specs.Option.{option_map_or}
use Rattle.std.specs.Str.{bytes_eq}
use Rattle.std.proofs.lemmas.Slice.Eq.{bytes_eq-Decides}
use Rattle.clap.proofs.WalkLemmas.{one_text-rows}
use Rattle.clap.specs.Facts.{parser_of_value}
use Rattle.clap.specs.Faults.{level_fault}
use Rattle.clap.specs.Kinds.{values_kinds}
use Rattle.clap.specs.Matches.{one_text}
use Rattle.clap.specs.Simple.{Shape}
use Rattle.clap.specs.Walk.{Rule, Text, first_of, nothing_held, rows_after, rows_of}
use Rattle.clap.specs.declared.builder.value_parser.ValueParser.{ValueParser}
use Rattle.clap.specs.declared.builder.value_parser.ValueParser.TheVariants as vp
use Rattle.clap.specs.declared.parser.matches.Found.{Found}
use Rattle.console.proofs.Checked.{all_accepted, good_there, is_checked, rows_read}
use Rattle.console.specs.Arguments.{HasFlag, is_flag_text}
use Rattle.console.specs.CommandLine.{is_on}

abbrev takes_flags : Option ValueParser → Bool
takes_flags (Some vp.Bool) = true
takes_flags _ = false

flags_taken : (any_case : Bool) (p : Option ValueParser) (vs : List Text) → takes_flags p ≡ true
    → values_kinds any_case (parser_of_value p) vs ≡ [] → list_all is_flag_text vs ≡ true
flags_taken any_case (Some vp.Bool) vs takes e = all_accepted any_case vp.Bool vs e
flags_taken any_case None vs takes e = absurd (true≢false (sym takes))
flags_taken any_case (Some vp.String) vs takes e = absurd (true≢false (sym takes))
flags_taken any_case (Some vp.NonEmptyString) vs takes e = absurd (true≢false (sym takes))
flags_taken any_case (Some vp.Boolish) vs takes e = absurd (true≢false (sym takes))
flags_taken any_case (Some vp.Falsey) vs takes e = absurd (true≢false (sym takes))
flags_taken any_case (Some (vp.Signed low high)) vs takes e = absurd (true≢false (sym takes))
flags_taken any_case (Some (vp.Unsigned low high)) vs takes e = absurd (true≢false (sym takes))
flags_taken any_case (Some vp.Float) vs takes e = absurd (true≢false (sym takes))
flags_taken any_case (Some vp.Char) vs takes e = absurd (true≢false (sym takes))
flags_taken any_case (Some (vp.Names names)) vs takes e = absurd (true≢false (sym takes))
flags_taken any_case (Some (vp.Values values)) vs takes e = absurd (true≢false (sym takes))

-- the argument is read as it was written, and is a flag where it is this one
abbrev pub is_flag_checked : Text → Rule → Bool
is_flag_checked id = is_checked id is_flag_text takes_flags

-- the rows of a level that met no fault have the flag
pub flag_there : (id : Text) (s : Shape) (words : List Text) → list_all (is_flag_checked id) s.rules ≡ true
    → level_fault s [] nothing_held words false [] ≡ [] → HasFlag id (rows_after s.rules [] words)
flag_there id s words ok none =
    let found = good_there id is_flag_text takes_flags (rows_after s.rules [] words)
    (rows_read id is_flag_text takes_flags flags_taken s words ok none) in
    record { word = found.good_first; as_written = found.as_written }

-- the getter of the flag
pub flag_read : (f : Found) (id : Text) (r : Bool) → (one_text f id ≡ None → r ≡ false)
    → (one_text f id ≡ Some (codes "true") → r ≡ true) → (one_text f id ≡ Some (codes "false") → r ≡ false)
    → HasFlag id (rows_of f) → r ≡ is_on id (rows_of f)
flag_read f id r none on off has = go (first_of id (rows_of f)) refl has.word
  where
    text : (o : Option Text) → first_of id (rows_of f) ≡ o → one_text f id ≡ o
    text o is = one_text-rows f id ∙ (has.as_written ∙ is)

    word : (t : Text) → first_of id (rows_of f) ≡ Some t → (b : Bool) → bytes_eq t (codes "true") ≡ b
        → (b || bytes_eq t (codes "false")) ≡ true → r ≡ b
    word t is true same either = on (text (Some t) is ∙ ap Some ((bytes_eq-Decides t (codes "true")).0 same))
    word t is false other either = off (text (Some t) is ∙ ap Some ((bytes_eq-Decides t (codes "false")).0 either))

    go : (o : Option Text) → first_of id (rows_of f) ≡ o → option_map_or is_flag_text o true ≡ true
        → r ≡ option_map_or (λ t. bytes_eq t (codes "true")) o false
    go None is has_word = none (text None is)
    go (Some t) is has_word = word t is (bytes_eq t (codes "true")) refl has_word
