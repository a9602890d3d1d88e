-- A line of a subcommand whose own words meet no fault meets none, and is read as that subcommand's row of the table says.
use Rattle.std.proofs.Common.{inl, inr, ◌≡◌, ◌∙◌, ◌&&◌, Bool, cond, refl, true, false, not, sym, subst, ap, ap₂, true≢false}
use Rattle.std.proofs.Common.{List, [], ◌∷◌, Option, Some, None, is_some, map, codes}
use Rattle.std.proofs.lemmas.Slice.Eq.{bytes_eq-Decides}
use Rattle.std.specs.Option.{option_map_or}
use Rattle.std.specs.Prelude.{IfOk, IsErrAnd, IsSomeAnd, MatchResult, Result, Ok, Err, find, fold, option_map, unwrap_or}
use Rattle.std.specs.List.{list_all}
use Rattle.std.specs.Str.{bytes_eq}
use Rattle.clap.proofs.FaultLemmas.{past, stopped_fault}
use Rattle.clap.proofs.WalkLemmas.{both, find-map, walk_stopped}
use Rattle.clap.specs.Values.{kind_of}
use Rattle.clap.specs.Walk.{Row, Text, Walk, after_step, answers_to, finished, idle, nothing_held, rows_after, settled}
use Rattle.clap.specs.Walk.{subcommand_met, subcommand_or_other, walk, walk_from, walked}
use Rattle.clap.specs.Simple.{App, Shape, built, entered, help_shape, label_of, names_of, rows_at, subcommand_of}
use Rattle.clap.specs.Kinds.{FailsBy, HasKind, Kinds, or_else}
use Rattle.clap.specs.Faults.{check_fault, defaults_fault, entered_fault, fault_of, level_fault, other_fault}
use Rattle.clap.specs.Faults.{settle_fault, step_fault, turn_fault, walk_fault}
use Rattle.clap.specs.declared.error.Error.{Error}
use Rattle.clap.specs.declared.error.kind.ErrorKind.{ErrorKind}
use Rattle.clap.specs.declared.error.kind.ErrorKind.TheVariants.{DisplayHelp, InvalidSubcommand, OutOfMemory}
use Rattle.console.proofs.PlainWords.{defaults_are, end_of, plain_fault_of, plain_level, plain_rows, reads_flags}
use Rattle.console.specs.CommandLine.{IsActionOf, Value, arguments_of, call_of, command_line, days_fault, line_fault, value_of}
use Rattle.console.specs.Plain.{is_plain}
use Rattle.console.specs.declared.actions.Action.{Action}

abbrev pub top : App
top = built command_line

-- the subcommand of this name, as the building of the command makes it
abbrev pub leaf : Text → Shape
leaf name = unwrap_or (find (λ s. answers_to name (label_of s)) top.subs) help_shape

-- there is a subcommand of this name, and each of its arguments may be followed by a flag
abbrev pub is_known : Text → Bool
is_known name =
    is_some (find (λ s. answers_to name (label_of s)) top.subs)
    && (bytes_eq (leaf name).name name && list_all reads_flags (leaf name).rules)

-- the walk met the subcommand, and then these words
abbrev stopped_at : Text → List Text → Walk
stopped_at name words = record (walk_from nothing_held) { stopped = Some (name, words) }

-- a line that begins with this name enters this subcommand
record Enters (app : App) (name : Text) (s : Shape) : Type 0 where
  meets : ◌≡◌ {A = Walk} (walked app.top.rules (names_of app) (walk_from nothing_held) name) (stopped_at name [])
  turns : turn_fault app.top (names_of app) (walk_from nothing_held) name ≡ []
  fails : (words : List Text) → entered_fault app (Some (name, words)) ≡ level_fault s [] nothing_held words false []
  rows : (words : List Text) → entered app (Some (name, words)) ≡ Some (name, rows_after s.rules [] words)

module _ (app : App) (name : Text) (s : Shape) (is : find (λ x. answers_to name (label_of x)) app.subs ≡ Some s)
    (named : s.name ≡ name) (no_help : app.top.disable_help_subcommand ≡ true) where
  name_met : subcommand_met (names_of app) idle name ≡ Some name
  name_met =
      ap (option_map (λ (label : Text × List Text). label.0)) (sym (find-map (answers_to name) label_of app.subs))
      ∙ (ap (λ (o : Option Shape). option_map (λ (label : Text × List Text). label.0) (option_map label_of o)) is
      ∙ ap Some named)

  no_word_fault : other_fault app.top (Some name) name nothing_held ≡ []
  no_word_fault = go (bytes_eq name (codes "help")) app.top.disable_help_subcommand no_help
    where
      go : (b c : Bool) → c ≡ true → cond (b && not c) (DisplayHelp ∷ InvalidSubcommand ∷ []) [] ≡ []
      go true true e = refl
      go true false e = absurd (true≢false (sym e))
      go false c e = refl

  name_enters : Enters app name s
  unfolding walked
  name_enters = record {
    meets = ap (λ (o : Option Text). let met = subcommand_or_other app.top.rules o idle 1 name nothing_held in
        after_step app.top.rules name (walk_from nothing_held) met.0 met.1) name_met;
    turns = ap (λ (o : Option Text). let met = subcommand_or_other app.top.rules o idle 1 name nothing_held in
        or_else (other_fault app.top o name nothing_held) (step_fault app.top 1 met.0 met.1)) name_met
        ∙ past _ _ no_word_fault;
    fails = λ words. ap (λ (o : Option Shape).
        option_map_or (λ x. level_fault x [] nothing_held words false []) o []) is;
    rows = λ words. ap (option_map (λ (x : Shape). rows_at x words)) is
        ∙ ap (λ (n : Text). Some (n, rows_after s.rules [] words)) named;
  }

known_enters : (name : Text) → is_known name ≡ true → Enters top name (leaf name)
known_enters name known =
    let p = both (is_some (find (λ s. answers_to name (label_of s)) top.subs)) _ known in
    name_enters top name (leaf name) (go (find (λ s. answers_to name (label_of s)) top.subs) p.0)
    ((bytes_eq-Decides (leaf name).name name).0 (both _ _ p.1).0) refl
  where
    go : (o : Option Shape) → is_some o ≡ true → o ≡ Some (unwrap_or o help_shape)
    go None e = absurd (true≢false (sym e))
    go (Some s) e = refl

first_fails : (first next : Kinds) (k : ErrorKind) → first ≡ k ∷ [] → or_else first next ≡ k ∷ []
first_fails first next k e = ap (λ kinds. or_else kinds next) e

module _ (name : Text) (is_entered : Enters top name (leaf name)) (words : List Text) where
  abbrev line : List Text
  line = name ∷ words

  abbrev after_line : Walk
  after_line = walk top.top.rules (names_of top) nothing_held line

  line_walked : ◌≡◌ {A = Walk} after_line (stopped_at name words)
  line_walked =
      ap (λ (w : Walk). fold (walked top.top.rules (names_of top)) w words) is_entered.meets
      ∙ sym (walk_stopped top.top.rules (names_of top) (walk_from nothing_held) name [] words)

  walk_passes : walk_fault top.top (names_of top) (walk_from nothing_held) line ≡ []
  unfolding walk_fault
  walk_passes =
      past _ _ is_entered.turns
      ∙ (ap (λ (w : Walk). walk_fault top.top (names_of top) w words) is_entered.meets
      ∙ stopped_fault top.top (names_of top) (walk_from nothing_held) (name, []) words)

  line_stated : subcommand_of command_line line ≡ Some (name, rows_after (leaf name).rules [] words)
  line_stated = ap (λ (w : Walk). entered top w.stopped) line_walked ∙ is_entered.rows words

  -- what the subcommand's own words come to is the fault of the line
  line_fails : (k : ErrorKind) → level_fault (leaf name) [] nothing_held words false [] ≡ k ∷ []
      → fault_of command_line line ≡ k ∷ []
  line_fails k is =
      past _ _ walk_passes
      ∙ first_fails _ _ k (ap (λ (w : Walk). entered_fault top w.stopped) line_walked ∙ (is_entered.fails words ∙ is))

  line_passes : level_fault (leaf name) [] nothing_held words false [] ≡ [] → fault_of command_line line ≡ []
  line_passes passes =
      past _ _ walk_passes
      ∙ (past _ _ (ap (λ (w : Walk). entered_fault top w.stopped) line_walked ∙ (is_entered.fails words ∙ passes))
      ∙ (past _ _ (ap (λ (w : Walk). settle_fault top.top.rules top.top.args_override_self w.held) line_walked)
      ∙ (past _ _ (ap (λ (w : Walk). defaults_fault (settled top.top.rules w.held).rows top.top.rules) line_walked
      ∙ defaults_are _ top.top.rules)
      ∙ (ap (λ o. check_fault top.top (finished top.top.rules after_line.held) (is_some o)) line_stated
      ∙ ap (λ (w : Walk). check_fault top.top (finished top.top.rules w.held) true) line_walked))))

-- ---- what reads a line as `clap` does

same_values : (xs ys : List Value) → map (λ v. Some v) xs ≡ map (λ v. Some v) ys → xs ≡ ys
same_values [] [] e = refl
same_values [] (y ∷ ys) e =
    let bad : ⊥ = cc in
    absurd bad
same_values (x ∷ xs) [] e =
    let bad : ⊥ = cc in
    absurd bad
same_values (x ∷ xs) (y ∷ ys) e =
    let first : x ≡ y = cc in
    let rest : map (λ v. Some v) xs ≡ map (λ v. Some v) ys = cc in
    ap₂ (λ v vs. v ∷ vs) first (same_values xs ys rest)

-- the values that are found for the arguments of the subcommand of this name
abbrev pub found : Text → List Row → List (Option Value)
found name rows = map (value_of rows) (arguments_of name)

stated_values : (a : Action) (name : Text) (rows : List Row) (values : List Value) → IsActionOf a (name, rows)
    → found name rows ≡ map (λ v. Some v) values → call_of a ≡ (name, values)
stated_values a name rows values states is =
    ap₂ (λ n vs. (n, vs)) (sym states.0) (same_values (call_of a).1 values (sym states.1 ∙ is))

module _ (read : Result Action Error) (words : List Text)
    (ok : IfOk read (λ a. IsSomeAnd (subcommand_of command_line words) (IsActionOf a)))
    (fails : FailsBy (line_fault words) read) (name : Text) (given : List Text)
    (is : words ≡ name ∷ given) (known : is_known name ≡ true) where
  is_entered : Enters top name (leaf name)
  is_entered = known_enters name known

  -- the rows of the line's subcommand
  abbrev given_rows : List Row
  given_rows = rows_after (leaf name).rules [] given

  -- the fault of a line in which `clap` finds none is that of its days
  days_alone : level_fault (leaf name) [] nothing_held given false [] ≡ []
      → line_fault words ≡ days_fault (Some (name, given_rows))
  days_alone passes =
      ap line_fault is
      ∙ (ap (λ (k : Kinds). or_else k (days_fault (subcommand_of command_line (name ∷ given))))
      (line_passes name is_entered given passes)
      ∙ ap days_fault (line_stated name is_entered given))

  -- it reads a line that meets no fault as what its subcommand found
  pub line_read : (values : List Value) → days_fault (Some (name, given_rows)) ≡ []
      → level_fault (leaf name) [] nothing_held given false [] ≡ []
      → found name (rows_after (leaf name).rules [] given) ≡ map (λ v. Some v) values
      → MatchResult read (λ a. call_of a ≡ (name, values)) (λ e. kind_of e ≡ OutOfMemory)
  line_read values days passes has = go read ok fails
    where
      go : (r : Result Action Error) → IfOk r (λ a. IsSomeAnd (subcommand_of command_line words) (IsActionOf a))
          → FailsBy (line_fault words) r
          → MatchResult r (λ a. call_of a ≡ (name, values)) (λ e. kind_of e ≡ OutOfMemory)
      go (Ok a) states none =
          stated_values a name _ values (subst (λ (o : Option (Text × List Row)). IsSomeAnd o (IsActionOf a))
          (ap (subcommand_of command_line) is ∙ line_stated name is_entered given) states) has
      go (Err e) states kinds =
          let none : HasKind [] e = subst (λ (k : Kinds). HasKind k e) (days_alone passes ∙ days) kinds in
          elim none [ inl memory ↦ memory | inr bad ↦ absurd bad ]

  -- and refuses one with a fault by its kind
  refused_by : (k : ErrorKind) → line_fault words ≡ k ∷ [] → IsErrAnd read (HasKind (k ∷ []))
  refused_by k faults = go read fails
    where
      go : (r : Result Action Error) → FailsBy (line_fault words) r → IsErrAnd r (HasKind (k ∷ []))
      go (Ok a) none =
          let both : k ∷ [] ≡ [] = sym faults ∙ none in
          let bad : ⊥ = cc in
          absurd bad
      go (Err e) kinds = subst (λ (x : Kinds). HasKind x e) faults kinds

  pub line_refused : (k : ErrorKind) → level_fault (leaf name) [] nothing_held given false [] ≡ k ∷ []
      → IsErrAnd read (HasKind (k ∷ []))
  line_refused k refused =
      refused_by k (ap line_fault is
      ∙ ap (λ (x : Kinds). or_else x (days_fault (subcommand_of command_line (name ∷ given))))
      (line_fails name is_entered given k refused))

  -- also where only its days have one
  pub days_refused : (k : ErrorKind) → level_fault (leaf name) [] nothing_held given false [] ≡ []
      → days_fault (Some (name, given_rows)) ≡ k ∷ [] → IsErrAnd read (HasKind (k ∷ []))
  days_refused k passes refused = refused_by k (days_alone passes ∙ refused)

  flags : list_all reads_flags (leaf name).rules ≡ true
  flags = (both (bytes_eq (leaf name).name name) _ (both _ _ known).1).1

  -- it reads a line of plain words as what its subcommand finds at their places
  pub plain_read : (values : List Value) → days_fault (Some (name, given_rows)) ≡ []
      → list_all is_plain given ≡ true → plain_fault_of (leaf name) given ≡ []
      → found name (finished (leaf name).rules (end_of (leaf name) given)) ≡ map (λ v. Some v) values
      → MatchResult read (λ a. call_of a ≡ (name, values)) (λ e. kind_of e ≡ OutOfMemory)
  plain_read values days plain passes has =
      line_read values days (plain_level (leaf name) flags given plain ∙ passes)
      (ap (found name) (plain_rows (leaf name) flags given plain) ∙ has)

  -- and refuses one with a fault by its kind
  pub plain_refused : (k : ErrorKind) → list_all is_plain given ≡ true → plain_fault_of (leaf name) given ≡ k ∷ []
      → IsErrAnd read (HasKind (k ∷ []))
  plain_refused k plain faulty = line_refused k (plain_level (leaf name) flags given plain ∙ faulty)
