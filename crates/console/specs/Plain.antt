-- The words of a plain line of each subcommand.
use Rattle.std.specs.Prelude.{◌≡◌, ◌==◌, ◌++◌, ℕ, Bool, true, not, List, [], ◌∷◌, Option, Some}
use Rattle.std.specs.Prelude.{None, codes, if◌then◌else◌}
use Rattle.clap.specs.Walk.{Text}
use Rattle.console.specs.CommandLine.{call_of, call_of_report, given, is_json, is_only_open}
use Rattle.console.specs.CommandLine.{most_connections, number_up_to, one, several, whole}
use Rattle.console.specs.declared.actions.Action.{Action}
use Rattle.request.specs.declared.form.Form.{Form}
use Rattle.request.specs.declared.subject.Listed.{Listed}
use Rattle.request.specs.declared.subject.Subject.{Subject}

-- whether a word doesn't begin with a hyphen (45)
abbrev pub is_plain : Text → Bool
is_plain [] = true
is_plain (x ∷ xs) = not (x == 45)

-- the words of `duty ZONE REPORT TIME..`, with one time or more
abbrev pub duty_words : Text → Text → Text → List Text → List Text
duty_words zone report time times = codes "duty" ∷ zone ∷ report ∷ time ∷ times

-- the action is `duty` with exactly these arguments
abbrev pub IsDuty : Text → Text → List Text → Action → Type 0
IsDuty zone report times a = call_of a ≡ (codes "duty", one zone ∷ one report ∷ several times ∷ [])

-- the words of `init FILE ZONE`
abbrev pub init_words : Text → Text → List Text
init_words file zone = codes "init" ∷ file ∷ zone ∷ []

-- the action is `init` with exactly these arguments
abbrev pub IsInit : Text → Text → Action → Type 0
IsInit file zone a = call_of a ≡ (codes "init", one file ∷ one zone ∷ [])

-- the word of a flag, if the flag is given
abbrev pub word_if : Bool → Text → List Text
word_if is_given word = if is_given then word ∷ [] else []

-- the flags of `do`: `--dry-run`, and then `--lines`, each if it is given
abbrev pub do_flags : Bool → Bool → List Text
do_flags dry_run lines = word_if dry_run (codes "--dry-run") ++ word_if lines (codes "--lines")

-- the words of `do FILE`, and then the flags that are given
abbrev pub do_words : Text → Bool → Bool → List Text
do_words file dry_run lines = codes "do" ∷ file ∷ do_flags dry_run lines

-- the action is `do` with exactly these arguments
abbrev pub IsDo : Text → Bool → Bool → Action → Type 0
IsDo file dry_run lines a = call_of a ≡ (codes "do", one file ∷ given dry_run ∷ given lines ∷ [])

-- the words of `import FILE NUMBER`
abbrev pub import_words : Text → Text → List Text
import_words file number = codes "import" ∷ file ∷ number ∷ []

-- the action is `import` with exactly these arguments
abbrev pub IsImport : Text → ℕ → Action → Type 0
IsImport file number a = call_of a ≡ (codes "import", one file ∷ whole number ∷ [])

-- `--json`, if a report is asked for in JSON
abbrev pub form_words : Form → List Text
form_words form = word_if (is_json form) (codes "--json")

-- the words of `roster FILE CREW`, and then `--json`, if it is asked for in JSON
abbrev pub roster_words : Text → Text → Form → List Text
roster_words file crew form = codes "roster" ∷ file ∷ crew ∷ form_words form

-- the words of `pairing FILE PAIRING`, and then `--json`, if it is asked for in JSON
abbrev pub pairing_words : Text → Text → Form → List Text
pairing_words file id form = codes "pairing" ∷ file ∷ id ∷ form_words form

-- the words of `limits FILE CREW`, of `--with PAIRING` if a pairing is given, and then `--json`, if
-- the limits are asked for in JSON
abbrev pub limits_words : Text → Text → Option Text → Form → List Text
limits_words file crew None form = codes "limits" ∷ file ∷ crew ∷ form_words form
limits_words file crew (Some id) form =
    codes "limits" ∷ file ∷ crew ∷ codes "--with" ∷ id ∷ form_words form

-- the words of `exceedances FILE`, and then `--json`, if they are asked for in JSON
abbrev pub exceedances_words : Text → Form → List Text
exceedances_words file form = codes "exceedances" ∷ file ∷ form_words form

-- the words of `members FILE`, and then `--json`, if they are asked for in JSON
abbrev pub members_words : Text → Form → List Text
members_words file form = codes "members" ∷ file ∷ form_words form

-- the flags of `pairings`: `--open`, if those with a free seat alone are asked for, and then
-- `--json`, if they are asked for in JSON
abbrev pub pairings_flags : Listed → Form → List Text
pairings_flags which form = word_if (is_only_open which) (codes "--open") ++ form_words form

-- the words of `pairings FILE`, and then the flags that are given
abbrev pub pairings_words : Text → Listed → Form → List Text
pairings_words file which form = codes "pairings" ∷ file ∷ pairings_flags which form

-- the words of `board FILE FROM TO`, and then `--json`, if it is asked for in JSON
abbrev pub board_words : Text → Text → Text → Form → List Text
board_words file from to form = codes "board" ∷ file ∷ from ∷ to ∷ form_words form

-- the words of `request FILE NUMBER`, and then `--json`, if it is asked for in JSON
abbrev pub request_words : Text → Text → Form → List Text
request_words file number form = codes "request" ∷ file ∷ number ∷ form_words form

-- the action is a report from this file on exactly this subject, in exactly this form
abbrev pub IsReport : Text → Subject Text Text → Form → Action → Type 0
IsReport file subject form a = call_of a ≡ call_of_report file subject form

-- the words of `serve FILE PORT`, and of `--connections N` if N is given
abbrev pub serve_words : Text → Text → Option Text → List Text
serve_words file port None = codes "serve" ∷ file ∷ port ∷ []
serve_words file port (Some count) =
    codes "serve" ∷ file ∷ port ∷ codes "--connections" ∷ count ∷ []

-- how many connections `serve` is asked for: 1,000,000 if no number is given
abbrev pub asked_connections : Option Text → Option ℕ
asked_connections None = Some most_connections
asked_connections (Some count) = number_up_to most_connections count

-- the action is `serve` with exactly these arguments
abbrev pub IsServe : Text → ℕ → ℕ → Action → Type 0
IsServe file port count a = call_of a ≡ (codes "serve", one file ∷ whole port ∷ whole count ∷ [])
