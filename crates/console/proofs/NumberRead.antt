-- A whole number that a line gave, or a default: it passed its range, and is read as it was written.
use Rattle.std.proofs.Common.{◌≡◌, ◌∙◌, ◌&&◌, ◌==◌, ℕ, Bool, cond, true, false, refl, sym, ap, List, [], ◌∷◌}
use Rattle.std.proofs.Common.{Option, Some, None, is_some, true≢false}
use Rattle.std.specs.Prelude.{◌^◌, ◌≤◌, nat_le, nat_lt, option_and_then, Result, Ok, Err}
use Rattle.std.specs.Option.{IsSome, option_map_or}
use Rattle.std.specs.List.{list_all}
use Rattle.std.specs.Str.Parse.{ParsesUnsigned, digits_value, without_leading_plus}
use Rattle.std.proofs.lemmas.Bool.{eqb-true, leb-true}
use Rattle.clap.proofs.ValueTestLemmas.{accepts-Accepts}
use Rattle.clap.proofs.WalkLemmas.{both, one_text-rows}
use Rattle.clap.specs.Facts.{parser_of_value}
use Rattle.clap.specs.Faults.{level_fault}
use Rattle.clap.specs.Kinds.{Kinds, or_else, values_kinds}
use Rattle.clap.specs.Matches.{ReadsOne, one_text}
use Rattle.clap.specs.Simple.{Shape}
use Rattle.clap.specs.ValueTests.{is_numeral, is_unsigned_in}
use Rattle.clap.specs.Walk.{Row, Rule, Text, first_of, nothing_held, rows_after, rows_of}
use Rattle.clap.specs.declared.builder.value_parser.ValueParser.{ValueParser}
use Rattle.clap.specs.declared.builder.value_parser.ValueParser.TheVariants as vp
use Rattle.clap.specs.declared.error.kind.ErrorKind.TheVariants.{ValueValidation}
use Rattle.clap.specs.declared.parser.matches.Found.{Found}
use Rattle.duty.specs.Shape.{is_within}
use Rattle.console.proofs.Checked.{all_accepted, good_there, is_checked, rows_read}
use Rattle.console.specs.Arguments.{HasWholeNumber}
use Rattle.console.specs.CommandLine.{last_number, number_found, number_up_to}

-- what a line comes to whose only number is one, or isn't
abbrev pub number_fault : Bool → Kinds
number_fault b = or_else (or_else (cond b [] (ValueValidation ∷ [])) []) []

module _ (most : ℕ) where
  -- the text is a whole number from 1 to `most`
  abbrev pub is_number : Text → Bool
  is_number text = is_unsigned_in 1 most text

  abbrev takes_numbers : Option ValueParser → Bool
  takes_numbers (Some (vp.Unsigned low high)) = (low == 1) && (high == most)
  takes_numbers _ = false

  numbers_taken : (any_case : Bool) (p : Option ValueParser) (vs : List Text) → takes_numbers p ≡ true
      → values_kinds any_case (parser_of_value p) vs ≡ [] → list_all is_number vs ≡ true
  numbers_taken any_case (Some (vp.Unsigned low high)) vs takes e =
      let q = both (low == 1) _ takes in
      let low_is : low ≡ 1 = eqb-true _ _ q.0 in
      let high_is : high ≡ most = eqb-true _ _ q.1 in
      all_accepted any_case (vp.Unsigned 1 most) vs (rw (low_is, high_is) at e)
  numbers_taken any_case None vs takes e = absurd (true≢false (sym takes))
  numbers_taken any_case (Some vp.String) vs takes e = absurd (true≢false (sym takes))
  numbers_taken any_case (Some vp.NonEmptyString) vs takes e = absurd (true≢false (sym takes))
  numbers_taken any_case (Some vp.Bool) vs takes e = absurd (true≢false (sym takes))
  numbers_taken any_case (Some vp.Boolish) vs takes e = absurd (true≢false (sym takes))
  numbers_taken any_case (Some vp.Falsey) vs takes e = absurd (true≢false (sym takes))
  numbers_taken any_case (Some (vp.Signed low high)) vs takes e = absurd (true≢false (sym takes))
  numbers_taken any_case (Some vp.Float) vs takes e = absurd (true≢false (sym takes))
  numbers_taken any_case (Some vp.Char) vs takes e = absurd (true≢false (sym takes))
  numbers_taken any_case (Some (vp.Names names)) vs takes e = absurd (true≢false (sym takes))
  numbers_taken any_case (Some (vp.Values values)) vs takes e = absurd (true≢false (sym takes))

  pub number_passes : (t : Text) (n : ℕ) → number_up_to most t ≡ Some n → is_number t ≡ true
  number_passes t n e = go (is_number t) e
    where
      go : (b : Bool) → cond b (Some (digits_value 10 (without_leading_plus t))) None ≡ Some n → b ≡ true
      go true e = refl
      go false e =
          let bad : ⊥ = cc in
          absurd bad

  pub number_fails : (t : Text) → number_up_to most t ≡ None → is_number t ≡ false
  number_fails t e = go (is_number t) e
    where
      go : (b : Bool) → cond b (Some (digits_value 10 (without_leading_plus t))) None ≡ None → b ≡ false
      go true e =
          let bad : ⊥ = cc in
          absurd bad
      go false e = refl

  -- what a number comes to that is checked at the end of the line
  pub passes_alone : (t : Text) (n : ℕ) → number_up_to most t ≡ Some n → number_fault (is_number t) ≡ []
  passes_alone t n e = ap number_fault (number_passes t n e)

  pub fails_alone : (t : Text) → number_up_to most t ≡ None → number_fault (is_number t) ≡ ValueValidation ∷ []
  fails_alone t e = ap number_fault (number_fails t e)

  is_some_number : (text : Text) → is_number text ≡ true → is_some (number_up_to most text) ≡ true
  is_some_number text e = rw e refl

-- the argument is read as it was written, and takes such numbers alone where it is this one
abbrev pub is_number_checked : ℕ → Text → Rule → Bool
is_number_checked most id = is_checked id (is_number most) (takes_numbers most)

-- the rows of a level that met no fault have such a number where they have the argument
pub number_there : (most : ℕ) (id : Text) (s : Shape) (words : List Text)
    → list_all (is_number_checked most id) s.rules ≡ true → level_fault s [] nothing_held words false [] ≡ []
    → is_some (first_of id (rows_after s.rules [] words)) ≡ true → HasWholeNumber most id (rows_after s.rules [] words)
number_there most id s words ok none some =
    let rows : List Row = rows_after s.rules [] words in
    let found = good_there id (is_number most) (takes_numbers most) rows
    (rows_read id (is_number most) (takes_numbers most) (numbers_taken most) s words ok none) in
    record { number = first_number (first_of id rows) some found.good_first; as_written = found.as_written }
  where
    first_number : (o : Option Text) → is_some o ≡ true → option_map_or (is_number most) o true ≡ true
        → is_some (option_and_then (number_up_to most) o) ≡ true
    first_number None some_now e = absurd (true≢false (sym some_now))
    first_number (Some t) some_now e = is_some_number most t e

-- ---- the getters of the numbers

module _ (most : ℕ) where
  -- a text that is a number is read as that number
  text_taken : (E : Type 0) (G : List ℕ → Result ℕ E → Type 0) (t : Text) (r : Option ℕ) → ReadsOne G t r
      → ((u : List ℕ) (x : Result ℕ E) → G u x → ParsesUnsigned 64 10 u x)
      → is_some (number_up_to most t) ≡ true → r ≡ number_up_to most t
  text_taken E G t r read only some = go (is_number most t) refl r read some
    where
      go : (b : Bool) → is_number most t ≡ b → (o : Option ℕ) → ReadsOne G t o
          → is_some (cond b (Some (digits_value 10 (without_leading_plus t))) None) ≡ true
          → o ≡ cond b (Some (digits_value 10 (without_leading_plus t))) None
      go true is (Some v) h some_now = ap Some (only t (Ok v) h).1
      go true is None h some_now =
          let in_range = accepts-Accepts false (vp.Unsigned 1 most) t is in
          absurd (only t (Err h.0) h.1 (in_range.0, in_range.1))
      go false is o h some_now = absurd (true≢false (sym some_now))

  pub number_taken : (f : Found) (id : Text) (E : Type 0) (r : Option ℕ) (G : List ℕ → Result ℕ E → Type 0)
      → ((t : Text) → one_text f id ≡ Some t → ReadsOne G t r)
      → ((u : List ℕ) (x : Result ℕ E) → G u x → ParsesUnsigned 64 10 u x) → HasWholeNumber most id (rows_of f)
      → option_and_then (number_up_to most) (first_of id (rows_of f)) ≡ r
  number_taken f id E r G read only has = go (first_of id (rows_of f)) refl has.number
    where
      go : (o : Option Text) → first_of id (rows_of f) ≡ o → is_some (option_and_then (number_up_to most) o) ≡ true
          → option_and_then (number_up_to most) o ≡ r
      go None is some = absurd (true≢false (sym some))
      go (Some t) is some =
          sym (text_taken E G t r (read t (one_text-rows f id ∙ (has.as_written ∙ is))) only some)

  -- what is read of a text as a number lies in its bounds
  number_within : (o : Option Text) (n : ℕ) → option_and_then (number_up_to most) o ≡ Some n
      → is_within 1 most n ≡ true
  number_within None n e =
      let bad : ⊥ = cc in
      absurd bad
  number_within (Some t) n e = go (is_number most t) refl e
    where
      go : (b : Bool) → is_number most t ≡ b → cond b (Some (digits_value 10 (without_leading_plus t))) None ≡ Some n
          → is_within 1 most n ≡ true
      go true is e =
          let same : digits_value 10 (without_leading_plus t) ≡ n = cc in
          let p = both (is_numeral (without_leading_plus t)) _ is in
          let q = both (nat_lt (digits_value 10 (without_leading_plus t)) (2 ^ 64)) _ p.1 in
          rw same at q.1
      go false is e =
          let bad : ⊥ = cc in
          absurd bad

pub number_at_most : (most : ℕ) (id : Text) (rows : List Row) (n : ℕ) → HasWholeNumber most id rows
    → number_found most id rows ≡ Some n → n ≤ most
number_at_most most id rows n has e = leb-true n most (both (nat_le 1 n) _ (number_within most (first_of id rows) n e)).1

pub some_there : (r : Option ℕ) (n : ℕ) → r ≡ Some n → IsSome r
some_there r n e = rw e refl

pub taken_there : (o r : Option ℕ) → o ≡ r → is_some o ≡ true → IsSome r
taken_there None r e some = absurd (true≢false (sym some))
taken_there (Some n) r e some = rw (← e) refl

pub number_made : (id : Text) (rows : List Row) (n : ℕ) (r : Option ℕ) → HasWholeNumber last_number id rows
    → number_found last_number id rows ≡ Some n
    → r ≡ cond (is_within 1 last_number n) (Some n) None → r ≡ Some n
number_made id rows n r has e made = made ∙ rw (number_within last_number (first_of id rows) n e) refl
