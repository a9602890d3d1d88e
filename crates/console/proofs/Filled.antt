-- Each argument that a line gave has a value, and so has each required one of a line that met no fault.
use Rattle.std.proofs.Common.{◌≡◌, ◌&&◌, ◌||◌, ◌==◌, ◌++◌, ℕ, Bool, cond, true, false, not, refl}
use Rattle.std.proofs.Common.{sym, subst, List, [], ◌∷◌, length, Option, Some, None, is_some, true≢false}
use Rattle.std.specs.Prelude.{find, fold, slice_get, nat_lt, option_and_then, option_map}
use Rattle.std.specs.Option.{option_map_or}
use Rattle.std.specs.List.{list_all, list_any}
use Rattle.std.specs.Str.{bytes_eq}
use Rattle.std.proofs.lemmas.Slice.Eq.{bytes_eq-Decides}
use Rattle.clap.proofs.WalkLemmas.{both}
use Rattle.clap.specs.Facts.{explicit_source, unwrap_or_range}
use Rattle.clap.specs.Values.{is_request}
use Rattle.clap.specs.Walk.{Row, Rule, Text, action_of, all_of, at_row, default_rows, first_of}
use Rattle.clap.specs.Walk.{has_row, most_values, more_values, nothing_held, reading_by, rows_after}
use Rattle.clap.specs.Walk.{used, used_as, values_or_missing, with_default, with_values, without}
use Rattle.clap.specs.Simple.{Shape}
use Rattle.clap.specs.Takes.{is_given}
use Rattle.clap.specs.Kinds.{check_kinds, range_kinds}
use Rattle.clap.specs.Faults.{action_fault, check_fault, defaults_fault, level_fault, settle_fault}
use Rattle.clap.specs.Faults.{use_fault, walk_fault}
use Rattle.clap.specs.Walk.{finished, settled, walk, walk_from}
use Rattle.clap.specs.declared.builder.action.ArgAction.{ArgAction}
use Rattle.clap.specs.declared.builder.action.ArgAction.TheVariants as action
use Rattle.clap.specs.declared.error.kind.ErrorKind.TheVariants as kind
use Rattle.clap.specs.declared.builder.value_parser.Reading.{Reading}
use Rattle.clap.specs.declared.parser.matches.ValueSource.{ValueSource}
use Rattle.clap.specs.declared.parser.matches.ValueSource.TheVariants.{CommandLine, DefaultValue}
use Rattle.console.proofs.WalkKeeps.{found_passes, level_keeps, none_of}

abbrev pub has_value : {X : Type 0} → List X → Bool
has_value [] = false
has_value (x ∷ xs) = true

abbrev pub is_filled : Row → Bool
is_filled r = has_value r.values

abbrev pub Filled : List Row → Type 0
Filled rows = list_all is_filled rows ≡ true

-- a use of the argument has a value, its own or one that stands for it, or asks for help or the version
abbrev pub takes_one : Rule → Bool
takes_one a = is_request (action_of a) || (has_value a.missing || nat_lt 0 (unwrap_or_range a.range).start_inclusive)

has_more : (xs ys : List Text) → has_value xs ≡ true → has_value (xs ++ ys) ≡ true
has_more [] ys e = absurd (true≢false (sym e))
has_more (x ∷ xs) ys e = refl

pub all_more : {X : Type 0} (p : X → Bool) (xs ys : List X) → list_all p xs ≡ true → list_all p ys ≡ true
    → list_all p (xs ++ ys) ≡ true
all_more p [] ys e f = f
all_more p (x ∷ xs) ys e f =
    let q = both (p x) _ e in
    rw (q.0, all_more p xs ys q.1 f) refl

pub row_changed : (p : Row → Bool) (id : Text) (change : Row → List Row) (missing rows : List Row)
    → ((r : Row) → bytes_eq r.id id ≡ true → p r ≡ true → list_all p (change r) ≡ true)
    → list_all p missing ≡ true → list_all p rows ≡ true → list_all p (at_row id change missing rows) ≡ true
row_changed p id change missing [] changed absent e = absent
row_changed p id change missing (r ∷ rs) changed absent e =
    go (bytes_eq r.id id) refl (row_changed p id change missing rs changed absent (both (p r) _ e).1)
  where
    go : (b : Bool) → bytes_eq r.id id ≡ b → list_all p (at_row id change missing rs) ≡ true
        → list_all p (cond b (change r ++ rs) (r ∷ at_row id change missing rs)) ≡ true
    go true same later = all_more p (change r) rs (changed r same (both (p r) _ e).0) (both (p r) _ e).1
    go false other later = rw ((both (p r) _ e).0, later) refl

values_added : (id : Text) (how : Reading) (source : ValueSource) (values : List Text) (rows : List Row)
    → has_value values ≡ true → Filled rows
    → Filled (with_values id how source values rows)
values_added id how source values rows some e =
    row_changed is_filled id (more_values source values) _ rows
    (λ r same h. rw (has_more r.values values h) refl) (rw some refl) e

row_removed : (id : Text) (rows : List Row) → Filled rows → Filled (without id rows)
row_removed id rows e = row_changed is_filled id (λ _. []) [] rows (λ r same h. refl) refl e

used_with : (x : ArgAction) (id : Text) (how : Reading) (values : List Text) (rows : List Row)
    → has_value values ≡ true → Filled rows → Filled (used_as x id how values rows)
used_with action.Set id how values rows some e = values_added id how CommandLine values _ some (row_removed id rows e)
used_with action.SetTrue id how values rows some e =
    values_added id how CommandLine values _ some (row_removed id rows e)
used_with action.SetFalse id how values rows some e =
    values_added id how CommandLine values _ some (row_removed id rows e)
used_with action.Append id how values rows some e = values_added id how CommandLine values rows some e
used_with action.Count id how [] rows some e = absurd (true≢false (sym some))
used_with action.Count id how (v ∷ vs) rows some e =
    values_added id how CommandLine (v ∷ vs) _ refl (row_removed id rows e)
used_with action.Help id how values rows some e = e
used_with action.HelpShort id how values rows some e = e
used_with action.HelpLong id how values rows some e = e
used_with action.Version id how values rows some e = e

used_to_ask : (x : ArgAction) (id : Text) (how : Reading) (values : List Text) (rows : List Row) → is_request x ≡ true
    → Filled rows → Filled (used_as x id how values rows)
used_to_ask action.Set id how values rows asks e = absurd (true≢false (sym asks))
used_to_ask action.SetTrue id how values rows asks e = absurd (true≢false (sym asks))
used_to_ask action.SetFalse id how values rows asks e = absurd (true≢false (sym asks))
used_to_ask action.Append id how values rows asks e = absurd (true≢false (sym asks))
used_to_ask action.Count id how values rows asks e = absurd (true≢false (sym asks))
used_to_ask action.Help id how values rows asks e = e
used_to_ask action.HelpShort id how values rows asks e = e
used_to_ask action.HelpLong id how values rows asks e = e
used_to_ask action.Version id how values rows asks e = e

no_range : (least most : ℕ) → nat_lt 0 least ≡ true → range_kinds least most 0 ≡ [] → ⊥
no_range least most one none = go (nat_lt 0 least) one none
  where
    go : (b : Bool) → b ≡ true
        → cond (b && 0 == 0) (kind.InvalidValue ∷ [])
        (cond (least == most) (cond (least == 0) [] (kind.WrongNumberOfValues ∷ []))
        (cond (nat_lt 0 least) (kind.TooFewValues ∷ []) (cond (nat_lt most 0) (kind.TooManyValues ∷ []) []))) ≡ [] → ⊥
    go true is e = cc
    go false is e = absurd (true≢false (sym is))

-- a use within its range of one value or more has one, and so has one of an argument with a value for none
used_within : (a : Rule) (values : List Text)
    → (has_value a.missing || nat_lt 0 (unwrap_or_range a.range).start_inclusive) ≡ true
    → range_kinds (unwrap_or_range a.range).start_inclusive (most_values a) (length values) ≡ []
    → has_value (values_or_missing a values) ≡ true
used_within a [] one none = go (has_value a.missing) one
  where
    go : (b : Bool) → (b || nat_lt 0 (unwrap_or_range a.range).start_inclusive) ≡ true → b ≡ true
    go true either = refl
    go false either = absurd (no_range (unwrap_or_range a.range).start_inclusive (most_values a) either none)
used_within a (v ∷ vs) one none = refl

use_fills : (again : Bool) (a : Rule) (values : List Text) (rows : List Row) → takes_one a ≡ true
    → use_fault again a values rows ≡ [] → Filled rows → Filled (used a values rows)
use_fills again a values rows ok none e = go (is_request (action_of a)) refl ok
  where
    go : (b : Bool) → is_request (action_of a) ≡ b
        → (b || (has_value a.missing || nat_lt 0 (unwrap_or_range a.range).start_inclusive)) ≡ true
        → Filled (used a values rows)
    go true asks one = used_to_ask (action_of a) a.id (reading_by a) (values_or_missing a values) rows asks e
    go false asks one =
        used_with (action_of a) a.id (reading_by a) (values_or_missing a values) rows
        (used_within a values one (none_of
        (range_kinds (unwrap_or_range a.range).start_inclusive (most_values a) (length values))
        (action_fault (action_of a) again a (values_or_missing a values) rows) none).0) e

default_filled : (id : Text) (how : Reading) (values : List Text) (rows : List Row) → Filled rows
    → Filled (default_rows id how values rows)
default_filled id how [] rows e = e
default_filled id how (v ∷ vs) rows e = values_added id how DefaultValue (v ∷ vs) rows refl e

default_fills : (a : Rule) (rows : List Row) → Filled rows → Filled (with_default rows a)
default_fills a rows e = go (has_row a.id rows)
  where
    go : (b : Bool) → Filled (cond b rows (default_rows a.id (reading_by a) a.defaults rows))
    go true = e
    go false = default_filled a.id (reading_by a) a.defaults rows e

-- the rows of a level that met no fault have values
pub rows_filled : (s : Shape) (words : List Text) → list_all takes_one s.rules ≡ true
    → level_fault s [] nothing_held words false [] ≡ [] → Filled (rows_after s.rules [] words)
rows_filled s words ok none =
    level_keeps s takes_one Filled ok (λ a values rows one no_fault e. use_fills s.args_override_self a values rows
    one no_fault e)
    (λ a rows one e. default_fills a rows e) [] words false [] none refl

-- ---- what is required is there

-- one of the rules is of this argument, and passes
abbrev pub has_rule : (Rule → Bool) → Text → List Rule → Bool
has_rule good id rules = list_any (λ a. bytes_eq a.id id && good a) rules

-- no required argument is missing of these rows
abbrev pub NoneMissing : List Rule → List Row → Type 0
NoneMissing rules rows = list_any (λ a. a.required && not (is_given a.id rows)) rules ≡ false

first_there : (a b : Bool) → (a || b) ≡ false → (a ≡ false) × (b ≡ false)
first_there true b e = absurd (true≢false e)
first_there false b e = (refl, e)

pub check_none : (wants_help wants_subcommand wants_argument : Bool)
    → check_kinds wants_help wants_subcommand wants_argument ≡ []
    → (wants_subcommand ≡ false) × (wants_argument ≡ false)
check_none true b c e =
    let bad : ⊥ = cc in
    absurd bad
check_none false true c e =
    let bad : ⊥ = cc in
    absurd bad
check_none false false true e =
    let bad : ⊥ = cc in
    absurd bad
check_none false false false e = (refl, refl)

-- the checks of a level that met no fault
pub checks_passed : (s : Shape) (words : List Text) → s.subcommand_negates_reqs ≡ false
    → level_fault s [] nothing_held words false [] ≡ []
    → NoneMissing s.rules (rows_after s.rules [] words)
checks_passed s words negates none =
    let end = (walk s.rules [] nothing_held words).held in
    let p = none_of (walk_fault s [] (walk_from nothing_held) words) _ none in
    let q = none_of (settle_fault s.rules s.args_override_self end) _ p.1 in
    let r = none_of (defaults_fault (settled s.rules end).rows s.rules) _ q.1 in
    let t : check_fault s (finished s.rules end) false ≡ [] = r.1 in
    let missing = (check_none _ _ _ t).1 in
    rw negates at missing

-- a required argument of rows that miss none was given
pub wanted_given : (id : Text) (rules : List Rule) (rows : List Row) → has_rule (λ a. a.required) id rules ≡ true
    → NoneMissing rules rows → is_given id rows ≡ true
wanted_given id [] rows e there = absurd (true≢false (sym e))
wanted_given id (a ∷ rest) rows e there =
    let p = first_there _ _ there in
    go (bytes_eq a.id id && a.required) refl e p.0 (λ has. wanted_given id rest rows has p.1)
  where
    given : (b : Bool) → (true && not b) ≡ false → b ≡ true
    given true e = refl
    given false e = absurd (true≢false e)

    go : (b : Bool) → (bytes_eq a.id id && a.required) ≡ b → (b || has_rule (λ x. x.required) id rest) ≡ true
        → (a.required && not (is_given a.id rows)) ≡ false
        → (has_rule (λ x. x.required) id rest ≡ true → is_given id rows ≡ true) → is_given id rows ≡ true
    go true is has here later =
        let p = both (bytes_eq a.id id) _ is in
        let same : a.id ≡ id = (bytes_eq-Decides a.id id).0 p.0 in
        given _ (rw (p.1, same) at here)
    go false is has here later = later has

pub given_all : (id : Text) (rows : List Row) → is_given id rows ≡ true → is_some (all_of id rows) ≡ true
given_all id rows given = go (find (λ r. bytes_eq r.id id) rows) given
  where
    go : (o : Option Row) → option_map_or (λ r. explicit_source r.source) o false ≡ true
        → is_some (option_map (λ r. r.values) o) ≡ true
    go None e = absurd (true≢false (sym e))
    go (Some r) e = refl

-- ---- what has a row

abbrev pub is_found : Text → List Row → Bool
is_found id rows = is_some (find (λ r. bytes_eq r.id id) rows)

pub given_found : (id : Text) (rows : List Row) → is_given id rows ≡ true → is_found id rows ≡ true
given_found id rows given = go (find (λ r. bytes_eq r.id id) rows) given
  where
    go : (o : Option Row) → option_map_or (λ r. explicit_source r.source) o false ≡ true → is_some o ≡ true
    go None e = absurd (true≢false (sym e))
    go (Some r) e = refl

-- what has a row has a first value
pub found_first : (id : Text) (rows : List Row) → Filled rows → is_found id rows ≡ true
    → is_some (first_of id rows) ≡ true
found_first id rows filled found = go (find (λ r. bytes_eq r.id id) rows) refl found
  where
    value : (vs : List Text) → has_value vs ≡ true → is_some (slice_get vs 0) ≡ true
    value [] e = absurd (true≢false (sym e))
    value (v ∷ vs) e = refl

    go : (o : Option Row) → find (λ r. bytes_eq r.id id) rows ≡ o → is_some o ≡ true
        → is_some (option_and_then (λ r. slice_get r.values 0) o) ≡ true
    go None is e = absurd (true≢false (sym e))
    go (Some r) is e = value r.values (found_passes _ is_filled rows r filled is)

has_found : (id : Text) (rows : List Row) → has_row id rows ≡ true → is_found id rows ≡ true
has_found id [] e = absurd (true≢false (sym e))
has_found id (r ∷ rs) e = go (bytes_eq r.id id) e (has_found id rs)
  where
    go : (b : Bool) → (b || has_row id rs) ≡ true → (has_row id rs ≡ true → is_found id rs ≡ true)
        → is_some (cond b (Some r) (find (λ x. bytes_eq x.id id) rs)) ≡ true
    go true has later = refl
    go false has later = later has

values_found : (id : Text) (how : Reading) (source : ValueSource) (values : List Text) (rows : List Row)
    → is_found id (with_values id how source values rows) ≡ true
values_found id how source values [] =
    let same : bytes_eq id id ≡ true = (bytes_eq-Decides id id).1 refl in
    rw same refl
values_found id how source values (r ∷ rs) =
    go (bytes_eq r.id id) refl (values_found id how source values rs)
  where
    go : (b : Bool) → bytes_eq r.id id ≡ b → is_found id (with_values id how source values rs) ≡ true
        → is_found id (cond b (more_values source values r ++ rs) (r ∷ with_values id how source values rs)) ≡ true
    go true is later = rw is refl
    go false is later = rw is later

-- a row stays where another is added
values_keep : (id new : Text) (how : Reading) (source : ValueSource) (values : List Text) (rows : List Row)
    → is_found id rows ≡ true → is_found id (with_values new how source values rows) ≡ true
values_keep id new how source values [] e = absurd (true≢false (sym e))
values_keep id new how source values (r ∷ rs) e =
    go (bytes_eq r.id new) (bytes_eq r.id id) refl e (values_keep id new how source values rs)
  where
    go : (b c : Bool) → bytes_eq r.id id ≡ c → is_some (cond c (Some r) (find (λ x. bytes_eq x.id id) rs)) ≡ true
        → (is_found id rs ≡ true → is_found id (with_values new how source values rs) ≡ true)
        → is_found id (cond b (more_values source values r ++ rs) (r ∷ with_values new how source values rs)) ≡ true
    go true true is found later = rw is refl
    go true false is found later = rw is found
    go false true is found later = rw is refl
    go false false is found later = rw is (later found)

defaults_keep : (id : Text) (rules : List Rule) (rows : List Row) → is_found id rows ≡ true
    → is_found id (fold with_default rows rules) ≡ true
defaults_keep id [] rows found = found
defaults_keep id (a ∷ rest) rows found = defaults_keep id rest (with_default rows a) (go (has_row a.id rows) a.defaults)
  where
    go : (b : Bool) (defaults : List Text)
        → is_found id (cond b rows (default_rows a.id (reading_by a) defaults rows)) ≡ true
    go true defaults = found
    go false [] = found
    go false (d ∷ ds) = values_keep id a.id (reading_by a) DefaultValue (d ∷ ds) rows found

-- an argument with a default has a row, of its use or of its default
default_found : (a : Rule) (rows : List Row) → has_value a.defaults ≡ true → is_found a.id (with_default rows a) ≡ true
default_found a rows some = go (has_row a.id rows) refl a.defaults some
  where
    go : (b : Bool) → has_row a.id rows ≡ b → (defaults : List Text) → has_value defaults ≡ true
        → is_found a.id (cond b rows (default_rows a.id (reading_by a) defaults rows)) ≡ true
    go true is defaults e = has_found a.id rows is
    go false is [] e = absurd (true≢false (sym e))
    go false is (d ∷ ds) e = values_found a.id (reading_by a) DefaultValue (d ∷ ds) rows

-- the argument has a default
abbrev pub has_default : Rule → Bool
has_default a = has_value a.defaults

pub defaults_found : (id : Text) (rules : List Rule) (rows : List Row) → has_rule has_default id rules ≡ true
    → is_found id (fold with_default rows rules) ≡ true
defaults_found id [] rows e = absurd (true≢false (sym e))
defaults_found id (a ∷ rest) rows e =
    go (bytes_eq a.id id && has_default a) refl e (defaults_found id rest (with_default rows a))
  where
    go : (b : Bool) → (bytes_eq a.id id && has_default a) ≡ b → (b || has_rule has_default id rest) ≡ true
        → (has_rule has_default id rest ≡ true → is_found id (fold with_default (with_default rows a) rest) ≡ true)
        → is_found id (fold with_default (with_default rows a) rest) ≡ true
    go true is has later =
        let p = both (bytes_eq a.id id) _ is in
        let same : a.id ≡ id = (bytes_eq-Decides a.id id).0 p.0 in
        defaults_keep id rest (with_default rows a)
        (subst (λ (x : Text). is_found x (with_default rows a) ≡ true) same (default_found a rows p.1))
    go false is has later = later has
