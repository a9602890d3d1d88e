-- A line of plain words that meet no fault, and then flags.
use Rattle.std.proofs.Common.{◌≡◌, ◌∙◌, ◌++◌, true, false, refl, ap, List, [], ◌∷◌, Option}
use Rattle.std.specs.Prelude.{fold}
use Rattle.std.specs.List.{list_all}
use Rattle.clap.proofs.FaultLemmas.{past}
use Rattle.clap.proofs.WalkLemmas.{both}
use Rattle.clap.specs.Walk.{Text, Walk, finished, nothing_held, rows_after, walk_from, walked}
use Rattle.clap.specs.Simple.{Shape}
use Rattle.clap.specs.Faults.{level_fault, walk_fault}
use Rattle.console.proofs.PlainLine.{found, leaf}
use Rattle.console.proofs.PlainWords.{GoesOn, fault_at, faults, goes_on, level_is, plain_fault, plain_walked, reads_flags}
use Rattle.console.proofs.PlainWords.{taken, taken_fault}
use Rattle.console.proofs.WalkKeeps.{none_of}
use Rattle.console.specs.CommandLine.{Value}
use Rattle.console.specs.Plain.{is_plain}

abbrev pub start : Walk
start = walk_from nothing_held

pub begins : GoesOn start
begins = record { flags = refl; words = refl }

-- the walk at the end of these words
abbrev pub at_words : Shape → List Text → Walk
at_words s words = fold (taken s) start words

module _ (s : Shape) (reads : list_all reads_flags s.rules ≡ true) where
  walked_to : (w : Walk) (words rest : List Text) → list_all is_plain words ≡ true → GoesOn w
      → ◌≡◌ {A = Walk} (fold (walked s.rules []) w (words ++ rest)) (fold (walked s.rules []) (fold (taken s) w words) rest)
  walked_to w [] rest plain on = refl
  walked_to w (word ∷ more) rest plain on =
      let p = both (is_plain word) _ plain in
      ap (λ (x : Walk). fold (walked s.rules []) x (more ++ rest)) (plain_walked s reads w word p.0 on)
      ∙ walked_to (taken s w word) more rest p.1 (goes_on s reads w word on)

  passed_to : (w : Walk) (words rest : List Text) → list_all is_plain words ≡ true → GoesOn w → faults s w words ≡ []
      → walk_fault s [] w (words ++ rest) ≡ walk_fault s [] (fold (taken s) w words) rest
  unfolding walk_fault
  passed_to w [] rest plain on none = refl
  passed_to w (word ∷ more) rest plain on none =
      let p = both (is_plain word) _ plain in
      let q = none_of (taken_fault s w word) (faults s (taken s w word) more) none in
      past _ _ (plain_fault s reads w word p.0 on ∙ q.0)
      ∙ (ap (λ (x : Walk). walk_fault s [] x (more ++ rest)) (plain_walked s reads w word p.0 on)
      ∙ passed_to (taken s w word) more rest p.1 (goes_on s reads w word on) q.1)

  module _ (words rest : List Text) (plain : list_all is_plain words ≡ true) where
    -- where the line is after the words and the rest of it
    pub words_walked : ◌≡◌ {A = Walk} (fold (walked s.rules []) start (words ++ rest))
        (fold (walked s.rules []) (at_words s words) rest)
    words_walked = walked_to start words rest plain begins

    -- what the line comes to is what the rest of it comes to
    pub words_pass : faults s start words ≡ [] → walk_fault s [] start (words ++ rest) ≡ walk_fault s [] (at_words s words) rest
    words_pass none = passed_to start words rest plain begins none

  -- what the line comes to, by what the rest of it comes to and where that ends
  pub level_of_rest : (words rest : List Text) → list_all is_plain words ≡ true → faults s start words ≡ []
      → level_fault s [] nothing_held (words ++ rest) false []
      ≡ fault_at s (walk_fault s [] (at_words s words) rest) (fold (walked s.rules []) (at_words s words) rest).held
  level_of_rest words rest plain none =
      level_is s (words ++ rest) _ _ (words_pass words rest plain none) (words_walked words rest plain)

-- After these words and flags the line of the subcommand of this name met no fault, and these values are found.
pub record Reads (name : Text) (words flags : List Text) (values : List (Option Value)) : Type 0 where
  pub words_fault : faults (leaf name) start words ≡ []
  pub flags_fault : walk_fault (leaf name) [] (at_words (leaf name) words) flags ≡ []
  pub end_fault :
      fault_at (leaf name) [] (fold (walked (leaf name).rules []) (at_words (leaf name) words) flags).held ≡ []
  pub values_found : found name
      (finished (leaf name).rules (fold (walked (leaf name).rules []) (at_words (leaf name) words) flags).held)
      ≡ values

module _ (name : Text) (reads : list_all reads_flags (leaf name).rules ≡ true) (words : List Text)
    (plain : list_all is_plain words ≡ true) (flags : List Text) (values : List (Option Value))
    (is : Reads name words flags values) where
  pub flag_level : level_fault (leaf name) [] nothing_held (words ++ flags) false [] ≡ []
  flag_level =
      level_is (leaf name) (words ++ flags) [] _ (words_pass (leaf name) reads words flags plain is.words_fault ∙ is.flags_fault)
      (words_walked (leaf name) reads words flags plain)
      ∙ is.end_fault

  pub flag_found : found name (rows_after (leaf name).rules [] (words ++ flags)) ≡ values
  flag_found =
      ap (λ (w : Walk). found name (finished (leaf name).rules w.held)) (words_walked (leaf name) reads words flags plain)
      ∙ is.values_found
