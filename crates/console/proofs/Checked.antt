-- A text that a line gave for an argument, or its default: it passed the argument's parser, and is read as it was written.
use Rattle.std.proofs.Common.{◌≡◌, ◌&&◌, ◌||◌, ◌++◌, Bool, cond, true, false, not, refl, sym, subst, List, [], ◌∷◌}
use Rattle.std.proofs.Common.{Option, Some, None, true≢false}
use Rattle.std.specs.Prelude.{find, slice_get, option_map}
use Rattle.std.specs.List.{list_all}
use Rattle.std.specs.Option.{option_map_or}
use Rattle.std.specs.Str.{bytes_eq}
use Rattle.std.proofs.lemmas.Slice.Eq.{bytes_eq-Decides}
use Rattle.clap.proofs.WalkLemmas.{both}
use Rattle.clap.specs.Facts.{parser_of_value, unwrap_or_range}
use Rattle.clap.specs.Faults.{action_fault, level_fault, repeat_fault, set_fault, use_fault, values_fault}
use Rattle.clap.specs.Kinds.{range_kinds, value_kinds, values_kinds}
use Rattle.clap.specs.Simple.{Shape}
use Rattle.clap.specs.Values.{is_request, read_as, refused_kind}
use Rattle.clap.specs.ValueTests.{accepts}
use Rattle.clap.specs.Walk.{Row, Rule, Text, action_of, default_rows, first_of, has_row, more_values}
use Rattle.clap.specs.Walk.{most_values, nothing_held, one_of, reading_by, rows_after, used}
use Rattle.clap.specs.Walk.{used_as, values_or_missing, with_default, with_values, without}
use Rattle.clap.specs.declared.builder.action.ArgAction.{ArgAction}
use Rattle.clap.specs.declared.builder.action.ArgAction.TheVariants as action
use Rattle.clap.specs.declared.builder.value_parser.Reading.{Reading}
use Rattle.clap.specs.declared.builder.value_parser.Reading.TheVariants as reading
use Rattle.clap.specs.declared.builder.value_parser.ValueParser.{ValueParser}
use Rattle.clap.specs.declared.parser.matches.ValueSource.{ValueSource}
use Rattle.clap.specs.declared.parser.matches.ValueSource.TheVariants.{CommandLine, DefaultValue}
use Rattle.console.proofs.Filled.{all_more, row_changed}
use Rattle.console.proofs.WalkKeeps.{found_passes, level_keeps, none_of}

abbrev is_as_written : Reading → Bool
is_as_written reading.AsWritten = true
is_as_written _ = false

abbrev is_set_or_asks : ArgAction → Bool
is_set_or_asks action.Set = true
is_set_or_asks action.SetTrue = true
is_set_or_asks x = is_request x

accepted : (b : Bool) (p : ValueParser) → cond b [] (refused_kind p ∷ []) ≡ [] → b ≡ true
accepted true p e = refl
accepted false p e =
    let bad : ⊥ = cc in
    absurd bad

-- values that met no fault at a parser are accepted by it
pub all_accepted : (any_case : Bool) (p : ValueParser) (vs : List Text) → values_kinds any_case p vs ≡ []
    → list_all (accepts any_case p) vs ≡ true
all_accepted any_case p [] e = refl
all_accepted any_case p (v ∷ vs) e =
    let q = none_of (value_kinds any_case p v) _ e in
    rw (accepted (accepts any_case p v) p q.0, all_accepted any_case p vs q.1) refl

row_named : (id : Text) (rows : List Row) (r : Row) → find (λ x. bytes_eq x.id id) rows ≡ Some r
    → bytes_eq r.id id ≡ true
row_named id [] r e =
    let bad : ⊥ = cc in
    absurd bad
row_named id (x ∷ xs) r e = go (bytes_eq x.id id) refl e (row_named id xs r)
  where
    go : (b : Bool) → bytes_eq x.id id ≡ b → cond b (Some x) (find (λ y. bytes_eq y.id id) xs) ≡ Some r
        → (find (λ y. bytes_eq y.id id) xs ≡ Some r → bytes_eq r.id id ≡ true) → bytes_eq r.id id ≡ true
    go true is here later =
        let same : x ≡ r = cc in
        subst (λ (y : Row). bytes_eq y.id id ≡ true) same is
    go false is there later = later there

written_text : (how : Reading) (o : Option Text) → is_as_written how ≡ true → option_map (read_as how) o ≡ o
written_text reading.AsWritten None e = refl
written_text reading.AsWritten (Some t) e = refl
written_text reading.WithoutMinus o e = absurd (true≢false (sym e))
written_text reading.Boolish o e = absurd (true≢false (sym e))
written_text reading.Falsey o e = absurd (true≢false (sym e))

-- the argument of this name has good texts alone, where its parser is one that takes such texts alone
module _ (checked_id : Text) (good : Text → Bool) (takes : Option ValueParser → Bool) where
  -- values of this argument are good
  abbrev fits : Text → List Text → Bool
  fits id values = not (bytes_eq id checked_id) || list_all good values

  abbrev pub is_read : Row → Bool
  is_read r = is_as_written r.reading && fits r.id r.values

  abbrev pub Read : List Row → Type 0
  Read rows = list_all is_read rows ≡ true

  -- the argument is read as it was written, and where it is this one, takes good texts alone, by default too
  abbrev pub is_checked : Rule → Bool
  is_checked a = is_set_or_asks (action_of a) && (fits a.id a.defaults && (is_as_written (reading_by a)
      && (not (bytes_eq a.id checked_id) || takes a.parser)))

  fits_more : (id : Text) (xs ys : List Text) → fits id xs ≡ true → fits id ys ≡ true → fits id (xs ++ ys) ≡ true
  fits_more id xs ys = go (bytes_eq id checked_id)
    where
      go : (b : Bool) → (not b || list_all good xs) ≡ true → (not b || list_all good ys) ≡ true
          → (not b || list_all good (xs ++ ys)) ≡ true
      go true e f = all_more good xs ys e f
      go false e f = refl

  values_added : (id : Text) (how : Reading) (source : ValueSource) (values : List Text) (rows : List Row)
      → is_as_written how ≡ true → fits id values ≡ true → Read rows → Read (with_values id how source values rows)
  values_added id how source values rows written fit e =
      row_changed is_read id (more_values source values) _ rows
      (λ r same h. let q = both (is_as_written r.reading) _ h in
      let is : r.id ≡ id = (bytes_eq-Decides r.id id).0 same in
      rw (q.0, fits_more r.id r.values values q.1 (rw is fit)) refl)
      (rw (written, fit) refl) e

  row_removed : (id : Text) (rows : List Row) → Read rows → Read (without id rows)
  row_removed id rows e = row_changed is_read id (λ _. []) [] rows (λ r same h. refl) refl e

  default_reads : (a : Rule) (rows : List Row) → is_checked a ≡ true → Read rows → Read (with_default rows a)
  default_reads a rows ok e =
      let p = both (is_set_or_asks (action_of a)) _ ok in
      let q = both (fits a.id a.defaults) _ p.1 in
      go (has_row a.id rows) a.defaults q.0 (both (is_as_written (reading_by a)) _ q.1).0
    where
      go : (b : Bool) (defaults : List Text) → fits a.id defaults ≡ true → is_as_written (reading_by a) ≡ true
          → Read (cond b rows (default_rows a.id (reading_by a) defaults rows))
      go true defaults fit written = e
      go false [] fit written = e
      go false (d ∷ ds) fit written = values_added a.id (reading_by a) DefaultValue (d ∷ ds) rows written fit e

  -- what is found for this argument
  pub record IsGood (rows : List Row) : Type 0 where
    pub good_first : option_map_or good (first_of checked_id rows) true ≡ true
    pub as_written : one_of checked_id rows ≡ first_of checked_id rows

  pub good_there : (rows : List Row) → Read rows → IsGood rows
  good_there rows read = go (find (λ r. bytes_eq r.id checked_id) rows) refl
    where
      first : (vs : List Text) → list_all good vs ≡ true → option_map_or good (slice_get vs 0) true ≡ true
      first [] e = refl
      first (v ∷ vs) e = (both (good v) _ e).0

      go : (o : Option Row) → find (λ r. bytes_eq r.id checked_id) rows ≡ o → IsGood rows
      go None is = record { good_first = rw is refl; as_written = rw is refl }
      go (Some r) is =
          let q = both (is_as_written r.reading) _ (found_passes _ is_read rows r read is) in
          let all_good : list_all good r.values ≡ true = rw (row_named checked_id rows r is) at q.1 in
          record {
            good_first = rw is (first r.values all_good);
            as_written = rw is (written_text r.reading (slice_get r.values 0) q.0);
          }

  module _ (passes : (any_case : Bool) (p : Option ValueParser) (vs : List Text) → takes p ≡ true
      → values_kinds any_case (parser_of_value p) vs ≡ [] → list_all good vs ≡ true) where
    -- values that met no fault at such an argument fit it
    values_fit : (a : Rule) (vs : List Text) → (not (bytes_eq a.id checked_id) || takes a.parser) ≡ true
        → values_fault a vs ≡ [] → fits a.id vs ≡ true
    values_fit a vs taken none = go (bytes_eq a.id checked_id) taken
      where
        go : (b : Bool) → (not b || takes a.parser) ≡ true → (not b || list_all good vs) ≡ true
        go true taken_now = passes a.ignore_case a.parser vs taken_now none
        go false taken_now = refl

    set_reads : (again : Bool) (a : Rule) (values : List Text) (rows : List Row) → is_as_written (reading_by a) ≡ true
        → (not (bytes_eq a.id checked_id) || takes a.parser) ≡ true → set_fault again a values rows ≡ [] → Read rows
        → Read (with_values a.id (reading_by a) CommandLine values (without a.id rows))
    set_reads again a values rows written taken none e =
        values_added a.id (reading_by a) CommandLine values _ written
        (values_fit a values taken (none_of (repeat_fault again a.id rows) _ none).1) (row_removed a.id rows e)

    used_reads : (x : ArgAction) (again : Bool) (a : Rule) (values : List Text) (rows : List Row)
        → is_set_or_asks x ≡ true → is_as_written (reading_by a) ≡ true
        → (not (bytes_eq a.id checked_id) || takes a.parser) ≡ true
        → action_fault x again a values rows ≡ [] → Read rows → Read (used_as x a.id (reading_by a) values rows)
    used_reads action.Set again a values rows ok written taken none e = set_reads again a values rows written taken none e
    used_reads action.SetTrue again a values rows ok written taken none e =
        set_reads again a values rows written taken none e
    used_reads action.SetFalse again a values rows ok written taken none e = absurd (true≢false (sym ok))
    used_reads action.Append again a values rows ok written taken none e = absurd (true≢false (sym ok))
    used_reads action.Count again a values rows ok written taken none e = absurd (true≢false (sym ok))
    used_reads action.Help again a values rows ok written taken none e = e
    used_reads action.HelpShort again a values rows ok written taken none e = e
    used_reads action.HelpLong again a values rows ok written taken none e = e
    used_reads action.Version again a values rows ok written taken none e = e

    use_reads : (again : Bool) (a : Rule) (values : List Text) (rows : List Row) → is_checked a ≡ true
        → use_fault again a values rows ≡ [] → Read rows → Read (used a values rows)
    use_reads again a values rows ok none e =
        let p = both (is_set_or_asks (action_of a)) _ ok in
        let q = both (fits a.id a.defaults) _ p.1 in
        let r = both (is_as_written (reading_by a)) _ q.1 in
        used_reads (action_of a) again a (values_or_missing a values) rows p.0 r.0 r.1
        (none_of (range_kinds (unwrap_or_range a.range).start_inclusive (most_values a) _) _ none).1 e

    -- the rows of a level that met no fault are read as they were written, and have good texts where they are wanted
    pub rows_read : (s : Shape) (words : List Text) → list_all is_checked s.rules ≡ true
        → level_fault s [] nothing_held words false [] ≡ [] → Read (rows_after s.rules [] words)
    rows_read s words ok none =
        level_keeps s is_checked Read ok
        (λ a values rows checked no_fault e. use_reads s.args_override_self a values rows checked no_fault e)
        (λ a rows checked e. default_reads a rows checked e) [] words false [] none refl
