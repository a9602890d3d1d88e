use Rattle.std.proofs.Common.{◌≡◌, ◌∙◌, ℕ, ◌-◌, Bool, cond, ◌&&◌, refl, ap, ap₂, inl, inr, List, [], ◌∷◌, Option, Some, None, true, false, codes}
use Rattle.std.specs.Prelude.{nat_le, option_map}
use Rattle.std.specs.List.{list_all}
use Rattle.clap.specs.Walk.{Row, Text, rows_after}
use Rattle.clap.specs.declared.error.kind.ErrorKind.TheVariants.{ValueValidation}
use Rattle.console.specs.CommandLine.{Value, board_fault, day, day_found, days_found, given, is_json, last_number, last_port, most_connections, one, whole}
use Rattle.request.specs.Days.{Days, day_begin, days_from, days_read}
use Rattle.request.specs.declared.form.Form.{Form}
use Rattle.console.specs.Plain.{do_flags, form_words, is_plain, pairings_flags}
use Rattle.console.proofs.DoLine.{do_reads}
use Rattle.console.proofs.DutyLine.{duty_found, duty_passes}
use Rattle.console.proofs.FlagLine.{flag_found, flag_level, level_of_rest}
use Rattle.console.proofs.LimitsLine.{limits_found, limits_level}
use Rattle.console.proofs.NumberRead.{fails_alone, number_fails, number_passes, passes_alone}
use Rattle.console.proofs.PlainLine.{days_refused, found, leaf, line_read, line_refused, plain_read, plain_refused}
use Rattle.console.proofs.ReportLine.{board_reads, request_reads, request_refused, exceedances_reads, limits_reads, members_reads, pairing_reads, pairings_reads, roster_reads}
use Rattle.console.proofs.ServeLine.{both_kinds, either_fails, serve_found, serve_level}
use Rattle.console.proofs.command_line.action.Goals as goal

alone : (word : Text) → is_plain word ≡ true → list_all is_plain (word ∷ []) ≡ true
alone word plain = rw plain refl

pub returns-clause-duty : goal.returns-clause-duty
returns-clause-duty c zone report time times is plain =
    plain_read _ _ c.read.ensures.ok c.read.ensures.refused _ _ is refl _ refl plain
    (duty_passes zone report time times) (duty_found zone report time times)

pub returns-clause-init : goal.returns-clause-init
returns-clause-init c file zone is plain =
    plain_read _ _ c.read.ensures.ok c.read.ensures.refused _ _ is refl _ refl plain refl refl

pub returns-clause-do_one : goal.returns-clause-do_one
returns-clause-do_one c file dry_run lines is plain =
    line_read _ _ c.read.ensures.ok c.read.ensures.refused _ _ is refl _ refl
    (flag_level _ refl (file ∷ []) (alone file plain) (do_flags dry_run lines) _ (do_reads file dry_run lines))
    (flag_found _ refl (file ∷ []) (alone file plain) (do_flags dry_run lines) _ (do_reads file dry_run lines))

pub returns-clause-import : goal.returns-clause-import
returns-clause-import c file number n is plain says =
    plain_read _ _ c.read.ensures.ok c.read.ensures.refused _ _ is refl _ refl plain (passes_alone last_number number n says)
    (ap (λ o. Some (one file) ∷ option_map whole o ∷ []) says)

pub returns-clause-import_number : goal.returns-clause-import_number
returns-clause-import_number c file number is plain none =
    plain_refused _ _ c.read.ensures.ok c.read.ensures.refused _ _ is refl ValueValidation plain
    (fails_alone last_number number none)

pub returns-clause-roster : goal.returns-clause-roster
returns-clause-roster c file crew form is plain =
    line_read _ _ c.read.ensures.ok c.read.ensures.refused _ _ is refl _ refl
    (flag_level _ refl (file ∷ crew ∷ []) plain (form_words form) _ (roster_reads file crew form))
    (flag_found _ refl (file ∷ crew ∷ []) plain (form_words form) _ (roster_reads file crew form))

pub returns-clause-pairing : goal.returns-clause-pairing
returns-clause-pairing c file id form is plain =
    line_read _ _ c.read.ensures.ok c.read.ensures.refused _ _ is refl _ refl
    (flag_level _ refl (file ∷ id ∷ []) plain (form_words form) _ (pairing_reads file id form))
    (flag_found _ refl (file ∷ id ∷ []) plain (form_words form) _ (pairing_reads file id form))

pub returns-clause-limits : goal.returns-clause-limits
returns-clause-limits c file crew None form is plain id_plain =
    line_read _ _ c.read.ensures.ok c.read.ensures.refused _ _ is refl _ refl
    (flag_level _ refl (file ∷ crew ∷ []) plain (form_words form) _ (limits_reads file crew form))
    (flag_found _ refl (file ∷ crew ∷ []) plain (form_words form) _ (limits_reads file crew form))
returns-clause-limits c file crew (Some id) form is plain id_plain =
    line_read _ _ c.read.ensures.ok c.read.ensures.refused _ _ is refl _ refl (limits_level file crew id plain id_plain form)
    (limits_found file crew id plain id_plain form)

pub returns-clause-exceedances : goal.returns-clause-exceedances
returns-clause-exceedances c file form is plain =
    line_read _ _ c.read.ensures.ok c.read.ensures.refused _ _ is refl _ refl
    (flag_level _ refl (file ∷ []) (alone file plain) (form_words form) _ (exceedances_reads file form))
    (flag_found _ refl (file ∷ []) (alone file plain) (form_words form) _ (exceedances_reads file form))

pub returns-clause-members : goal.returns-clause-members
returns-clause-members c file form is plain =
    line_read _ _ c.read.ensures.ok c.read.ensures.refused _ _ is refl _ refl
    (flag_level _ refl (file ∷ []) (alone file plain) (form_words form) _ (members_reads file form))
    (flag_found _ refl (file ∷ []) (alone file plain) (form_words form) _ (members_reads file form))

pub returns-clause-pairings : goal.returns-clause-pairings
returns-clause-pairings c file which form is plain =
    line_read _ _ c.read.ensures.ok c.read.ensures.refused _ _ is refl _ refl
    (flag_level _ refl (file ∷ []) (alone file plain) (pairings_flags which form) _ (pairings_reads file which form))
    (flag_found _ refl (file ∷ []) (alone file plain) (pairings_flags which form) _ (pairings_reads file which form))

pub returns-clause-serve : goal.returns-clause-serve
returns-clause-serve c file port None p n is plain count_plain port_is count_is =
    plain_read _ _ c.read.ensures.ok c.read.ensures.refused _ _ is refl _ refl plain (passes_alone last_port port p port_is)
    (ap₂ (λ o k. Some (one file) ∷ option_map whole o ∷ option_map whole k ∷ []) port_is count_is)
returns-clause-serve c file port (Some count) p n is plain count_plain port_is count_is =
    line_read _ _ c.read.ensures.ok c.read.ensures.refused _ _ is refl _ refl
    (serve_level file port count plain count_plain
    ∙ ap₂ both_kinds (number_passes last_port port p port_is) (number_passes most_connections count n count_is))
    (serve_found file port count plain count_plain
    ∙ ap₂ (λ o k. Some (one file) ∷ option_map whole o ∷ option_map whole k ∷ []) port_is count_is)

pub returns-clause-serve_numbers : goal.returns-clause-serve_numbers
returns-clause-serve_numbers c file port None is plain count_plain (inl none) =
    plain_refused _ _ c.read.ensures.ok c.read.ensures.refused _ _ is refl ValueValidation plain
    (fails_alone last_port port none)
returns-clause-serve_numbers c file port None is plain count_plain (inr none) =
    let bad : ⊥ = cc in
    absurd bad
returns-clause-serve_numbers c file port (Some count) is plain count_plain either =
    line_refused _ _ c.read.ensures.ok c.read.ensures.refused _ _ is refl ValueValidation
    (serve_level file port count plain count_plain ∙ either_fails _ _ (elim either [
      | inl none ↦ inl (number_fails last_port port none)
      | inr none ↦ inr (number_fails most_connections count none)
    ]))

-- what is found for the days of a board
same_day : (a b : Option ℕ) → option_map day a ≡ option_map day b → a ≡ b
same_day None None e = refl
same_day None (Some b) e =
    let bad : ⊥ = cc in
    absurd bad
same_day (Some a) None e =
    let bad : ⊥ = cc in
    absurd bad
same_day (Some a) (Some b) e =
    let same : a ≡ b = cc in
    ap Some same

days_there : (rows : List Row) (from to : Text) (file form : Option Value)
    → found (codes "board") rows
    ≡ file ∷ option_map day (day_begin from) ∷ option_map day (day_begin to) ∷ form ∷ []
    → days_found rows ≡ days_read from to
days_there rows from to file form is =
    let first : option_map day (day_found (codes "from") rows) ≡ option_map day (day_begin from) = cc in
    let last : option_map day (day_found (codes "to") rows) ≡ option_map day (day_begin to) = cc in
    ap₂ days_from (same_day _ _ first) (same_day _ _ last)

days_given : (from to : Option ℕ) (days : Days) → days_from from to ≡ Some days
    → (from ≡ Some days.first) × (to ≡ Some days.last)
days_given None to days is =
    let bad : ⊥ = cc in
    absurd bad
days_given (Some first) None days is =
    let bad : ⊥ = cc in
    absurd bad
days_given (Some first) (Some last) days is = go (nat_le first last && nat_le (last - first) 87_840) is
  where
    go : (b : Bool) → cond b (Some (record { first = first; last = last })) None ≡ Some days
        → (◌≡◌ {A = Option ℕ} (Some first) (Some days.first)) × (◌≡◌ {A = Option ℕ} (Some last) (Some days.last))
    go true is =
        let same : ◌≡◌ {A = Days} (record { first = first; last = last }) days = cc in
        (ap (λ (d : Days). Some d.first) same, ap (λ (d : Days). Some d.last) same)
    go false is =
        let bad : ⊥ = cc in
        absurd bad

abbrev board_rows : Text → Text → Text → Form → List Row
board_rows file from to form =
    rows_after (leaf (codes "board")).rules [] (file ∷ from ∷ to ∷ form_words form)

board_found : (file from to : Text) (form : Form) → list_all is_plain (file ∷ from ∷ to ∷ []) ≡ true
    → found (codes "board") (board_rows file from to form)
    ≡ Some (one file) ∷ option_map day (day_begin from) ∷ option_map day (day_begin to) ∷ Some (given (is_json form)) ∷ []
board_found file from to form plain =
    flag_found _ refl (file ∷ from ∷ to ∷ []) plain (form_words form) _ (board_reads file from to form)

pub returns-clause-board : goal.returns-clause-board
returns-clause-board c file from to days form is plain read =
    let has = board_found file from to form plain in
    let ends = days_given (day_begin from) (day_begin to) days read in
    line_read _ _ c.read.ensures.ok c.read.ensures.refused _ _ is refl _
    (ap board_fault (days_there (board_rows file from to form) from to _ _ has ∙ read))
    (flag_level _ refl (file ∷ from ∷ to ∷ []) plain (form_words form) _ (board_reads file from to form))
    (has ∙ ap₂ (λ a b. Some (one file) ∷ option_map day a ∷ option_map day b ∷ Some (given (is_json form)) ∷ []) ends.0 ends.1)

pub returns-clause-board_days : goal.returns-clause-board_days
returns-clause-board_days c file from to form is plain none =
    days_refused _ _ c.read.ensures.ok c.read.ensures.refused _ _ is refl ValueValidation
    (flag_level _ refl (file ∷ from ∷ to ∷ []) plain (form_words form) _ (board_reads file from to form))
    (ap board_fault (days_there (board_rows file from to form) from to _ _ (board_found file from to form plain) ∙ none))

pub returns-clause-request : goal.returns-clause-request
returns-clause-request c file number n form is plain says =
    let number_is = number_passes last_number number n says in
    line_read _ _ c.read.ensures.ok c.read.ensures.refused _ _ is refl _ refl
    (flag_level _ refl (file ∷ number ∷ []) plain (form_words form) _ (request_reads file number form number_is))
    (flag_found _ refl (file ∷ number ∷ []) plain (form_words form) _ (request_reads file number form number_is)
    ∙ ap (λ o. Some (one file) ∷ option_map whole o ∷ Some (given (is_json form)) ∷ []) says)

pub returns-clause-kept_number : goal.returns-clause-kept_number
returns-clause-kept_number c file number form is plain none =
    line_refused _ _ c.read.ensures.ok c.read.ensures.refused _ _ is refl ValueValidation
    (level_of_rest _ refl (file ∷ number ∷ []) (form_words form) plain refl
    ∙ request_refused file number form (number_fails last_number number none))
