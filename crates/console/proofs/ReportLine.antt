-- A plain line of each report with its flags; `LimitsLine` has `limits` with its option.
use Rattle.std.proofs.Common.{◌≡◌, ap, Bool, cond, refl, [], ◌∷◌, Some, None, codes, true, false}
use Rattle.std.specs.Prelude.{fold, option_map}
use Rattle.clap.specs.Faults.{walk_fault}
use Rattle.clap.specs.Kinds.{Kinds, or_else}
use Rattle.clap.specs.Walk.{Text, walked}
use Rattle.clap.specs.declared.error.kind.ErrorKind.TheVariants.{ValueValidation}
use Rattle.console.proofs.FlagLine.{Reads, at_words}
use Rattle.console.proofs.NumberRead.{is_number, number_fault}
use Rattle.console.proofs.PlainLine.{leaf}
use Rattle.console.proofs.PlainWords.{fault_at}
use Rattle.console.specs.CommandLine.{day, given, is_json, is_only_open, last_number, maybe, number_up_to, one, whole}
use Rattle.request.specs.Days.{day_begin}
use Rattle.console.specs.Plain.{form_words, pairings_flags}
use Rattle.request.specs.declared.form.Form.{Form}
use Rattle.request.specs.declared.form.Form.TheVariants as form
use Rattle.request.specs.declared.subject.Listed.{Listed}
use Rattle.request.specs.declared.subject.Listed.TheVariants as listed

pub roster_reads : (file crew : Text) (in_form : Form)
    → Reads (codes "roster") (file ∷ crew ∷ []) (form_words in_form)
    (Some (one file) ∷ Some (one crew) ∷ Some (given (is_json in_form)) ∷ [])
unfolding walk_fault walked
roster_reads file crew form.Text = record { words_fault = refl; flags_fault = refl; end_fault = refl; values_found = refl }
roster_reads file crew form.Json = record { words_fault = refl; flags_fault = refl; end_fault = refl; values_found = refl }

pub pairing_reads : (file id : Text) (in_form : Form)
    → Reads (codes "pairing") (file ∷ id ∷ []) (form_words in_form)
    (Some (one file) ∷ Some (one id) ∷ Some (given (is_json in_form)) ∷ [])
unfolding walk_fault walked
pairing_reads file id form.Text = record { words_fault = refl; flags_fault = refl; end_fault = refl; values_found = refl }
pairing_reads file id form.Json = record { words_fault = refl; flags_fault = refl; end_fault = refl; values_found = refl }

pub limits_reads : (file crew : Text) (in_form : Form)
    → Reads (codes "limits") (file ∷ crew ∷ []) (form_words in_form)
    (Some (one file) ∷ Some (one crew) ∷ Some (maybe None) ∷ Some (given (is_json in_form)) ∷ [])
unfolding walk_fault walked
limits_reads file crew form.Text = record { words_fault = refl; flags_fault = refl; end_fault = refl; values_found = refl }
limits_reads file crew form.Json = record { words_fault = refl; flags_fault = refl; end_fault = refl; values_found = refl }

pub exceedances_reads : (file : Text) (in_form : Form)
    → Reads (codes "exceedances") (file ∷ []) (form_words in_form)
    (Some (one file) ∷ Some (given (is_json in_form)) ∷ [])
unfolding walk_fault walked
exceedances_reads file form.Text = record { words_fault = refl; flags_fault = refl; end_fault = refl; values_found = refl }
exceedances_reads file form.Json = record { words_fault = refl; flags_fault = refl; end_fault = refl; values_found = refl }

pub members_reads : (file : Text) (in_form : Form)
    → Reads (codes "members") (file ∷ []) (form_words in_form)
    (Some (one file) ∷ Some (given (is_json in_form)) ∷ [])
unfolding walk_fault walked
members_reads file form.Text = record { words_fault = refl; flags_fault = refl; end_fault = refl; values_found = refl }
members_reads file form.Json = record { words_fault = refl; flags_fault = refl; end_fault = refl; values_found = refl }

pub pairings_reads : (file : Text) (which : Listed) (in_form : Form)
    → Reads (codes "pairings") (file ∷ []) (pairings_flags which in_form)
    (Some (one file) ∷ Some (given (is_only_open which)) ∷ Some (given (is_json in_form)) ∷ [])
unfolding walk_fault walked
pairings_reads file listed.All form.Text = record { words_fault = refl; flags_fault = refl; end_fault = refl; values_found = refl }
pairings_reads file listed.All form.Json = record { words_fault = refl; flags_fault = refl; end_fault = refl; values_found = refl }
pairings_reads file listed.Open form.Text = record { words_fault = refl; flags_fault = refl; end_fault = refl; values_found = refl }
pairings_reads file listed.Open form.Json = record { words_fault = refl; flags_fault = refl; end_fault = refl; values_found = refl }

pub board_reads : (file from to : Text) (in_form : Form)
    → Reads (codes "board") (file ∷ from ∷ to ∷ []) (form_words in_form)
    (Some (one file) ∷ option_map day (day_begin from) ∷ option_map day (day_begin to) ∷ Some (given (is_json in_form)) ∷ [])
unfolding walk_fault walked
board_reads file from to form.Text = record { words_fault = refl; flags_fault = refl; end_fault = refl; values_found = refl }
board_reads file from to form.Json = record { words_fault = refl; flags_fault = refl; end_fault = refl; values_found = refl }

-- what a number comes to that is looked at when a flag begins
abbrev flagged_fault : Bool → Kinds
flagged_fault b = or_else (or_else (or_else (or_else (cond b [] (ValueValidation ∷ [])) []) []) []) []

pub request_reads : (file number : Text) (in_form : Form) → is_number last_number number ≡ true
    → Reads (codes "request") (file ∷ number ∷ []) (form_words in_form)
    (Some (one file) ∷ option_map whole (number_up_to last_number number) ∷ Some (given (is_json in_form)) ∷ [])
unfolding walk_fault walked
request_reads file number form.Text is = record { words_fault = refl; flags_fault = refl; end_fault = ap number_fault is; values_found = refl }
request_reads file number form.Json is = record { words_fault = refl; flags_fault = ap flagged_fault is; end_fault = refl; values_found = refl }

-- the words of `request` are no fault but for its number
pub request_refused : (file number : Text) (in_form : Form) → is_number last_number number ≡ false
    → fault_at (leaf (codes "request"))
    (walk_fault (leaf (codes "request")) [] (at_words (leaf (codes "request")) (file ∷ number ∷ [])) (form_words in_form))
    (fold (walked (leaf (codes "request")).rules []) (at_words (leaf (codes "request")) (file ∷ number ∷ [])) (form_words in_form)).held
    ≡ ValueValidation ∷ []
unfolding walk_fault walked
request_refused file number form.Text is = ap number_fault is
request_refused file number form.Json is = ap (λ b. or_else (flagged_fault b) []) is
