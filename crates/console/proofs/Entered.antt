-- A line that met no fault names a subcommand of the table, which has what is read of its arguments.
use Rattle.std.proofs.Common.{◌≡◌, ◌∙◌, ◌&&◌, Bool, cond, true, false, not, refl, sym, subst, ap}
use Rattle.std.proofs.Common.{inl, inr, List, [], ◌∷◌, Option, Some, None, is_some, true≢false}
use Rattle.std.specs.Prelude.{find, option_map, IsSomeAnd}
use Rattle.std.specs.Option.{option_map_or}
use Rattle.std.specs.List.{list_all}
use Rattle.std.specs.Str.{bytes_eq}
use Rattle.std.proofs.lemmas.Slice.Eq.{bytes_eq-Decides}
use Rattle.clap.specs.Walk.{Row, Rule, Text, answers_to, nothing_held, rows_after, settled}
use Rattle.clap.specs.Walk.{stop_after, walk, walk_from, finished}
use Rattle.clap.specs.Simple.{App, Shape, built, entered, label_of, names_of, HasMatchesOf, rows_at, subcommand_of}
use Rattle.clap.specs.Simple.{subcommand_rows_of}
use Rattle.clap.specs.declared.error.Error.{Error}
use Rattle.clap.specs.declared.parser.matches.ArgMatches.{ArgMatches}
use Rattle.clap.proofs.WalkLemmas.{both}
use Rattle.clap.specs.Kinds.{HasKind, Kinds}
use Rattle.clap.specs.Faults.{built_fault, check_fault, defaults_fault, entered_fault, fault_of}
use Rattle.clap.specs.Faults.{is_simple_and_free, level_fault, settle_fault, walk_fault}
use Rattle.console.proofs.WalkKeeps.{none_of}
use Rattle.console.proofs.Filled.{Filled, NoneMissing, check_none, checks_passed, defaults_found, found_first, given_all}
use Rattle.console.proofs.Filled.{given_found, has_default, has_rule, rows_filled, takes_one, wanted_given}
use Rattle.console.proofs.FlagRead.{flag_there, is_flag_checked}
use Rattle.console.proofs.NumberRead.{is_number_checked, number_there}
use Rattle.console.specs.CommandLine.{Argument, a_day, a_number, a_text, command_line, flag, option_number, option_text}
use Rattle.console.specs.CommandLine.{some_texts, subcommand_table}
use Rattle.console.specs.Arguments.{Has, HasArguments, HasEach, IsAmong}

-- these rules have the argument be there
abbrev fits_one : List Rule → Argument → Bool
fits_one rules (a_text id) = has_rule (λ a. a.required) id rules
fits_one rules (some_texts id) = has_rule (λ a. a.required) id rules
fits_one rules (a_number most id) = has_rule (λ a. a.required) id rules && list_all (is_number_checked most id) rules
fits_one rules (a_day id) = has_rule (λ a. a.required) id rules
fits_one rules (option_number most default id) = has_rule has_default id rules && list_all (is_number_checked most id) rules
fits_one rules (option_text id) = true
fits_one rules (flag id) = list_all (is_flag_checked id) rules

-- the subcommand is that of this row, and has its arguments be there
abbrev fits : Shape → Text × List Argument → Bool
fits s row = bytes_eq s.name row.0
    && (not s.subcommand_negates_reqs && (list_all takes_one s.rules && list_all (fits_one s.rules) row.1))

abbrev fit_each : List Shape → List (Text × List Argument) → Bool
fit_each [] [] = true
fit_each (s ∷ rest) (row ∷ rows) = fits s row && fit_each rest rows
fit_each _ _ = false

-- ---- one subcommand

module _ (s : Shape) (words : List Text) (none : level_fault s [] nothing_held words false [] ≡ []) where
  abbrev rows : List Row
  rows = rows_after s.rules [] words

  has_one : (a : Argument) → Filled rows → NoneMissing s.rules rows → fits_one s.rules a ≡ true → Has rows a
  has_one (a_text id) filled there e =
      found_first id rows filled (given_found id rows (wanted_given id s.rules rows e there))
  has_one (some_texts id) filled there e = given_all id rows (wanted_given id s.rules rows e there)
  has_one (a_number most id) filled there e =
      let p = both (has_rule (λ a. a.required) id s.rules) _ e in
      number_there most id s words p.1 none
      (found_first id rows filled (given_found id rows (wanted_given id s.rules rows p.0 there)))
  has_one (a_day id) filled there e =
      found_first id rows filled (given_found id rows (wanted_given id s.rules rows e there))
  has_one (option_number most default id) filled there e =
      let p = both (has_rule has_default id s.rules) _ e in
      number_there most id s words p.1 none (found_first id rows filled
      (defaults_found id s.rules (settled s.rules (walk s.rules [] nothing_held words).held).rows p.0))
  has_one (option_text id) filled there e = tt
  has_one (flag id) filled there e = flag_there id s words e none

  has_each : (arguments : List Argument) → Filled rows → NoneMissing s.rules rows
      → list_all (fits_one s.rules) arguments ≡ true → HasEach rows arguments
  has_each [] filled there e = tt
  has_each (a ∷ rest) filled there e =
      let p = both (fits_one s.rules a) _ e in
      (has_one a filled there p.0, has_each rest filled there p.1)

  fits_row : (row : Text × List Argument) → fits s row ≡ true → (s.name ≡ row.0) × HasEach rows row.1
  fits_row row e =
      let p = both (bytes_eq s.name row.0) _ e in
      let q = both (not s.subcommand_negates_reqs) _ p.1 in
      let r = both (list_all takes_one s.rules) _ q.1 in (
        (bytes_eq-Decides s.name row.0).0 p.0,
        has_each row.1 (rows_filled s words r.0 none) (checks_passed s words (negated _ q.0) none) r.1,
      )
    where
      negated : (b : Bool) → not b ≡ true → b ≡ false
      negated true e = absurd (true≢false (sym e))
      negated false e = refl

-- ---- the subcommand that was met

abbrev found_in : Text → List Text → List Shape → Option (Text × List Row)
found_in name words subs = option_map (λ s. rows_at s words) (find (λ s. answers_to name (label_of s)) subs)

abbrev fault_in : Text → List Text → List Shape → Kinds
fault_in name words subs =
    option_map_or (λ s. level_fault s [] nothing_held words false []) (find (λ s. answers_to name (label_of s)) subs) []

later_row : (o : Option (Text × List Row)) (row : Text × List Argument) (later : List (Text × List Argument))
    → IsSomeAnd o (λ met. IsAmong met later) → IsSomeAnd o (λ met. IsAmong met (row ∷ later))
later_row None row later h = absurd h
later_row (Some met) row later h = inr h

found_among : (name : Text) (words : List Text) (subs : List Shape) (subcommands : List (Text × List Argument))
    → fit_each subs subcommands ≡ true → fault_in name words subs ≡ [] → is_some (found_in name words subs) ≡ true
    → IsSomeAnd (found_in name words subs) (λ met. IsAmong met subcommands)
found_among name words [] subcommands fit none some = absurd (true≢false (sym some))
found_among name words (s ∷ rest) [] fit none some = absurd (true≢false (sym fit))
found_among name words (s ∷ rest) (row ∷ subcommands) fit none some =
    let p = both (fits s row) _ fit in
    go (answers_to name (label_of s)) p.0 none some (λ e f. found_among name words rest subcommands p.1 e f)
  where
    go : (b : Bool) → fits s row ≡ true → option_map_or (λ x. level_fault x [] nothing_held words false [])
        (cond b (Some s) (find (λ x. answers_to name (label_of x)) rest)) [] ≡ []
        → is_some (option_map (λ x. rows_at x words)
        (cond b (Some s) (find (λ x. answers_to name (label_of x)) rest))) ≡ true
        → (fault_in name words rest ≡ [] → is_some (found_in name words rest) ≡ true
        → IsSomeAnd (found_in name words rest) (λ met. IsAmong met subcommands))
        → IsSomeAnd (option_map (λ x. rows_at x words)
        (cond b (Some s) (find (λ x. answers_to name (label_of x)) rest))) (λ met. IsAmong met (row ∷ subcommands))
    go true fits_now e f later = inl (fits_row s words e row fits_now)
    go false fits_now e f later = later_row (found_in name words rest) row subcommands (later e f)

-- a line that met no fault names one of the subcommands, which has its arguments
line_among : (top : App) (words : List Text) (subcommands : List (Text × List Argument))
    → fit_each top.subs subcommands ≡ true
    → top.top.subcommand_required ≡ true → built_fault top nothing_held words ≡ []
    → IsSomeAnd (entered top (stop_after top.top.rules (names_of top) words)) (λ met. IsAmong met subcommands)
line_among top words subcommands fit required none =
    let stop = stop_after top.top.rules (names_of top) words in
    let end = (walk top.top.rules (names_of top) nothing_held words).held in
    let p = none_of (walk_fault top.top (names_of top) (walk_from nothing_held) words) _ none in
    let q = none_of (entered_fault top stop) _ p.1 in
    let r = none_of (settle_fault top.top.rules top.top.args_override_self end) _ q.1 in
    let t = none_of (defaults_fault (settled top.top.rules end).rows top.top.rules) _ r.1 in
    let checks : check_fault top.top (finished top.top.rules end) (is_some (entered top stop)) ≡ [] = t.1 in
    go stop q.0 (met (is_some (entered top stop)) (rw required at (check_none _ _ _ checks).0))
  where
    met : (b : Bool) → (not b && true) ≡ false → b ≡ true
    met true e = refl
    met false e = absurd (true≢false e)

    go : (stop : Option (Text × List Text)) → entered_fault top stop ≡ [] → is_some (entered top stop) ≡ true
        → IsSomeAnd (entered top stop) (λ met. IsAmong met subcommands)
    go None e some = absurd (true≢false (sym some))
    go (Some p) e some = found_among p.0 p.1 top.subs subcommands fit e some

-- ---- the program

each_fits : fit_each (built command_line).subs subcommand_table ≡ true
each_fits = refl

is_met : (words : List Text) → fault_of command_line words ≡ []
    → IsSomeAnd (subcommand_of command_line words) (λ met. IsAmong met subcommand_table)
is_met words none = line_among (built command_line) words subcommand_table each_fits refl none

is_there : (met : Option (Text × List Row)) → IsSomeAnd met (λ p. IsAmong p subcommand_table) → HasArguments met
is_there None h = absurd h
is_there (Some p) h = h

is_simple_line : is_simple_and_free command_line ≡ true
is_simple_line = refl

-- what a parse by a command that is built as the command line is comes to, where it took the words
module _ (app : App) (words : List Text) (is : app ≡ command_line) where
  is_free : is_simple_and_free app ≡ true
  is_free = ap is_simple_and_free is ∙ is_simple_line

  pub no_fault : (is_simple_and_free app ≡ true → fault_of app words ≡ []) → fault_of command_line words ≡ []
  no_fault took = ap (λ a. fault_of a words) (sym is) ∙ took is_free

  pub fault_told : (e : Error) → (is_simple_and_free app ≡ true → HasKind (fault_of app words) e)
      → HasKind (fault_of command_line words) e
  fault_told e told = subst (λ (a : App). HasKind (fault_of a words) e) is (told is_free)

  pub rows_stated : (m : ArgMatches) → HasMatchesOf app words m
      → subcommand_rows_of m ≡ subcommand_of command_line words
  rows_stated m has = (has (both _ _ is_free).0).1 ∙ ap (λ a. subcommand_of a words) is

  pub arguments_there : (m : ArgMatches) → HasMatchesOf app words m
      → (is_simple_and_free app ≡ true → fault_of app words ≡ [])
      → HasArguments (subcommand_rows_of m)
  arguments_there m has took = subst HasArguments (sym (rows_stated m has))
      (is_there (subcommand_of command_line words) (is_met words (no_fault took)))
