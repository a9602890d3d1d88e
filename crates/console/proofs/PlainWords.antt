-- Plain words, which begin with no hyphen, are values of the option that waits for one, or of the arguments at their places.
use Rattle.std.proofs.Common.{◌≡◌, ◌∙◌, ◌==◌, Bool, true, false, not, refl, sym, ap, ap₂, List, [], ◌∷◌, Option}
use Rattle.std.proofs.Common.{Some, None, true≢false}
use Rattle.std.specs.Prelude.{fold}
use Rattle.std.specs.List.{list_all}
use Rattle.std.specs.Str.{bytes_eq}
use Rattle.clap.proofs.FaultLemmas.{past}
use Rattle.clap.proofs.WalkLemmas.{both}
use Rattle.clap.specs.Lexer.{long_of, short_of}
use Rattle.clap.specs.Walk.{Held, Row, Rule, Step, Text, Waiting, Walk, after_step, arg_by_index, finished, idle}
use Rattle.clap.specs.Walk.{nothing_held, option, plain_word, positional, reading_by, rows_after, settled}
use Rattle.clap.specs.Walk.{to_positional, walk_from, walked, with_default, word_met}
use Rattle.clap.specs.Simple.{Shape, filled}
use Rattle.clap.specs.Kinds.{Kinds, or_else}
use Rattle.clap.specs.Faults.{check_fault, default_fault, defaults_fault, level_fault, settle_fault, step_fault, turn_fault}
use Rattle.clap.specs.Faults.{walk_fault, word_fault}
use Rattle.clap.specs.declared.parser.matches.ValueSource.TheVariants.{CommandLine}
use Rattle.console.proofs.WalkKeeps.{found_passes}
use Rattle.console.specs.CommandLine.{wanted}
use Rattle.console.specs.Plain.{is_plain}

plain_first : (b : Bool) → not b ≡ true → b ≡ false
plain_first true e = absurd (true≢false (sym e))
plain_first false e = refl

not_end : (word : Text) → is_plain word ≡ true → bytes_eq word (45 ∷ 45 ∷ []) ≡ false
not_end [] e = refl
not_end (x ∷ xs) e =
    let f = plain_first (x == 45) e in
    rw f refl

not_long : (word : Text) → is_plain word ≡ true → long_of word ≡ None
not_long [] e = refl
not_long (x ∷ xs) e =
    let f = plain_first (x == 45) e in
    rw f refl

not_short : (word : Text) → is_plain word ≡ true → short_of word ≡ None
not_short [] e = refl
not_short (x ∷ xs) e =
    let f = plain_first (x == 45) e in
    rw f refl

-- the walk and the fault of a word that is no flag
abbrev pub taken : Shape → Walk → Text → Walk
taken s w word =
    let met = plain_word s.rules w.waiting word w.held in
    after_step s.rules word w met.0 met.1

abbrev pub taken_fault : Shape → Walk → Text → Kinds
taken_fault s w word =
    let met = plain_word s.rules w.waiting word w.held in
    step_fault s w.position met.0 met.1

abbrev pub faults : Shape → Walk → List Text → Kinds
faults s w [] = []
faults s w (word ∷ rest) = or_else (taken_fault s w word) (faults s (taken s w word) rest)

no_word_fault : (s : Shape) (waiting : Waiting) (word : Text) (h : Held) → is_plain word ≡ true
    → word_fault s [] false waiting word h ≡ []
no_word_fault s idle word h is = rw (not_end word is, not_long word is, not_short word is) refl
no_word_fault s waiting word h is = rw (not_end word is, not_long word is, not_short word is) refl

plain_met : (s : Shape) (w : Walk) (waiting : Waiting) (word : Text) → is_plain word ≡ true
    → ◌≡◌ {A = Held × Step} (word_met s.rules [] false waiting w.position word w.held)
    (plain_word s.rules waiting word w.held)
plain_met s w idle word is = rw (not_end word is, not_long word is, not_short word is) refl
plain_met s w waiting word is = rw (not_end word is, not_long word is, not_short word is) refl

-- the walk goes on, and reads flags
pub record GoesOn (w : Walk) : Type 0 where
  pub flags : w.is_trailing ≡ false
  pub words : w.stopped ≡ None

-- a word after a value of the argument may be a flag
abbrev pub reads_flags : Rule → Bool
reads_flags a = not a.trailing_var_arg

module _ (s : Shape) (flags : list_all reads_flags s.rules ≡ true) where
  pub plain_walked : (w : Walk) (word : Text) → is_plain word ≡ true → GoesOn w
      → ◌≡◌ {A = Walk} (walked s.rules [] w word) (taken s w word)
  unfolding walked
  plain_walked w word is on =
      rw (on.words, on.flags)
      (ap (λ (p : Held × Step). after_step s.rules word (record w { is_trailing = false; stopped = None }) p.0 p.1)
      (plain_met s w w.waiting word is))

  pub plain_fault : (w : Walk) (word : Text) → is_plain word ≡ true → GoesOn w
      → turn_fault s [] w word ≡ taken_fault s w word
  plain_fault w word is on =
      rw (on.words, on.flags)
      (past _ _ (no_word_fault s w.waiting word w.held is)
      ∙ ap (λ (p : Held × Step). step_fault s w.position p.0 p.1) (plain_met s w w.waiting word is))

  pub goes_on : (w : Walk) (word : Text) → GoesOn w → GoesOn (taken s w word)
  goes_on w word on = go w.waiting
    where
      placed : (o : Option Rule) → arg_by_index s.rules w.position ≡ o → GoesOn (to_positional s.rules o word w w.held)
      placed None is = record { flags = on.flags; words = on.words }
      placed (Some a) is = record {
        flags = rw (on.flags, plain_first _ (found_passes _ reads_flags s.rules a flags is)) refl;
        words = refl;
      }

      go : (waiting : Waiting) → GoesOn (after_step s.rules word w (plain_word s.rules waiting word w.held).0
          (plain_word s.rules waiting word w.held).1)
      go (option id) = record { flags = on.flags; words = on.words }
      go idle = placed (arg_by_index s.rules w.position) refl
      go positional = placed (arg_by_index s.rules w.position) refl

  all_walked : (w : Walk) (words : List Text) → list_all is_plain words ≡ true → GoesOn w
      → ◌≡◌ {A = Walk} (fold (walked s.rules []) w words) (fold (taken s) w words)
  all_walked w [] plain on = refl
  all_walked w (word ∷ rest) plain on =
      let p = both (is_plain word) _ plain in
      ap (λ (x : Walk). fold (walked s.rules []) x rest) (plain_walked w word p.0 on)
      ∙ all_walked (taken s w word) rest p.1 (goes_on w word on)

  all_faults : (w : Walk) (words : List Text) → list_all is_plain words ≡ true → GoesOn w
      → walk_fault s [] w words ≡ faults s w words
  unfolding walk_fault
  all_faults w [] plain on = refl
  all_faults w (word ∷ rest) plain on =
      let p = both (is_plain word) _ plain in
      ap₂ or_else (plain_fault w word p.0 on)
      (ap (λ (x : Walk). walk_fault s [] x rest) (plain_walked w word p.0 on)
      ∙ all_faults (taken s w word) rest p.1 (goes_on w word on))

-- ---- a subcommand's words

-- the fault of defaults, which computes
abbrev pub defaults : List Row → List Rule → Kinds
defaults rows [] = []
defaults rows (a ∷ rest) = or_else (default_fault rows a) (defaults (with_default rows a) rest)

pub defaults_are : (rows : List Row) (rules : List Rule) → defaults_fault rows rules ≡ defaults rows rules
unfolding defaults_fault
defaults_are rows [] = refl
defaults_are rows (a ∷ rest) = ap (or_else (default_fault rows a)) (defaults_are (with_default rows a) rest)

-- the fault of a subcommand whose walk met these kinds, and ended with this
abbrev pub fault_at : Shape → Kinds → Held → Kinds
fault_at s kinds h =
    or_else kinds (or_else (settle_fault s.rules s.args_override_self h)
    (or_else (defaults (settled s.rules h).rows s.rules) (check_fault s (finished s.rules h) false)))

pub level_is : (s : Shape) (words : List Text) (kinds : Kinds) (w : Walk)
    → walk_fault s [] (walk_from nothing_held) words ≡ kinds
    → ◌≡◌ {A = Walk} (fold (walked s.rules []) (walk_from nothing_held) words) w
    → level_fault s [] nothing_held words false [] ≡ fault_at s kinds w.held
level_is s words kinds w faulty ends =
    ap₂ (λ (k : Kinds) (x : Walk). or_else k (or_else (settle_fault s.rules s.args_override_self x.held)
    (or_else (defaults_fault (settled s.rules x.held).rows s.rules) (check_fault s (finished s.rules x.held) false))))
    faulty ends
    ∙ ap (λ (k : Kinds). or_else kinds (or_else (settle_fault s.rules s.args_override_self w.held)
    (or_else k (check_fault s (finished s.rules w.held) false))))
    (defaults_are (settled s.rules w.held).rows s.rules)

-- what plain words end with, and what they come to
abbrev pub end_of : Shape → List Text → Held
end_of s words = (fold (taken s) (walk_from nothing_held) words).held

abbrev pub plain_fault_of : Shape → List Text → Kinds
plain_fault_of s words = fault_at s (faults s (walk_from nothing_held) words) (end_of s words)

module _ (s : Shape) (flags : list_all reads_flags s.rules ≡ true) (words : List Text)
    (plain : list_all is_plain words ≡ true) where
  begins : GoesOn (walk_from nothing_held)
  begins = record { flags = refl; words = refl }

  pub plain_level : level_fault s [] nothing_held words false [] ≡ plain_fault_of s words
  plain_level =
      level_is s words _ _ (all_faults s flags (walk_from nothing_held) words plain begins)
      (all_walked s flags (walk_from nothing_held) words plain begins)

  pub plain_rows : rows_after s.rules [] words ≡ finished s.rules (end_of s words)
  plain_rows = ap (λ (w : Walk). finished s.rules w.held) (all_walked s flags (walk_from nothing_held) words plain begins)

-- what a walk holds of an argument that was given once or more
abbrev pub row : Text → List Text → Row
row id values = record {
  id = id;
  values = values;
  count = None;
  source = Some CommandLine;
  reading = reading_by (filled (wanted id));
}
