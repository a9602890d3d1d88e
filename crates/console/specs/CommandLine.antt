-- The command line as a table: the rules that `clap` gets of the table, and what an action says of
-- the words.
use Rattle.std.specs.Prelude.{◌≡◌, ◌∷◌, ◌++◌, ℕ, Bool, List, [], Option, Some, None, true, false, map}
use Rattle.std.specs.Prelude.{find}
use Rattle.std.specs.Prelude.{codes, fold, if◌then◌else◌, option_and_then, option_map, string_bytes}
use Rattle.std.specs.Option.{option_map_or}
use Rattle.std.specs.Str.{bytes_eq}
use Rattle.std.specs.Str.Parse.{digits_value, without_leading_plus}
use Rattle.clap.specs.Words.{App, Row, Rule, Text, all_of, app_of, first_of, new_app, new_rule}
use Rattle.clap.specs.Words.{rule_of, with_rule, with_subcommand}
use Rattle.clap.specs.Simple.{on_top, subcommand_of}
use Rattle.clap.specs.ValueTests.{is_unsigned_in}
use Rattle.clap.specs.declared.builder.action.ArgAction.TheVariants.{Append, SetTrue}
use Rattle.clap.specs.declared.builder.arg.Arg.{Arg}
use Rattle.clap.specs.declared.builder.command.Command.{Command}
use Rattle.clap.specs.declared.builder.command.Command.TheViews.{out-Command}
use Rattle.clap.specs.declared.builder.value_parser.ValueParser.TheVariants.{Unsigned}
use Rattle.clap.specs.declared.error.kind.ErrorKind.TheVariants.{ValueValidation}
use Rattle.clap.specs.Faults.{fault_of}
use Rattle.clap.specs.Kinds.{Kinds, or_else}
use Rattle.request.specs.Days.{Days, day_begin, days_from}
use Rattle.request.specs.Subjects.{subject_bytes}
use Rattle.request.specs.declared.form.Form.{Form}
use Rattle.request.specs.declared.form.Form.TheVariants as form
use Rattle.request.specs.declared.subject.Listed.{Listed}
use Rattle.request.specs.declared.subject.Listed.TheVariants.{All, Open}
use Rattle.request.specs.declared.subject.Subject.{Subject}
use Rattle.request.specs.declared.subject.Subject.TheVariants.{Crew, Limits, Pairing, Exceedances}
use Rattle.request.specs.declared.subject.Subject.TheVariants.{Members, Pairings, Board}
use Rattle.request.specs.declared.subject.Subject.TheVariants.{Request}
use Rattle.console.specs.declared.actions.Action.{Action}
use Rattle.console.specs.declared.actions.Action.TheVariants.{Duty, Init, Do, Import, Report, Serve}

-- the greatest number of a request
abbrev pub last_number : ℕ
last_number = 9_223_372_036_854_775_807

-- the greatest number of a port
abbrev pub last_port : ℕ
last_port = 65_535

-- the greatest number of connections that a call of `serve` may be asked to serve
abbrev pub most_connections : ℕ
most_connections = 1_000_000

-- an argument of a subcommand, by its name
pub data Argument : Type 0 where
  -- a text, by its place
  a_text : Text → Argument
  -- a text or more, by their places
  some_texts : Text → Argument
  -- a whole number from 1 to this one, by its place
  a_number : ℕ → Text → Argument
  -- a day, by its place
  a_day : Text → Argument
  -- `--NAME N`, a whole number from 1 to this one, which is read of the text here if it is left out
  option_number : ℕ → Text → Text → Argument
  -- `--NAME TEXT`, a text, which may be left out
  option_text : Text → Argument
  -- `--NAME`, which may be left out
  flag : Text → Argument

-- `--connections N`, which may be left out and is then 1,000,000
abbrev pub connections : Argument
connections = option_number most_connections (codes "1000000") (codes "connections")

-- `--json`, which each report takes
abbrev pub json_flag : Argument
json_flag = flag (codes "json")

-- the subcommands, each with its arguments in order
abbrev pub subcommand_table : List (Text × List Argument)
subcommand_table =
    (codes "duty", a_text (codes "zone") ∷ a_text (codes "report") ∷ some_texts (codes "time") ∷ [])
    ∷ (codes "init", a_text (codes "file") ∷ a_text (codes "zone") ∷ [])
    ∷ (codes "do", a_text (codes "file") ∷ flag (codes "dry-run") ∷ flag (codes "lines") ∷ [])
    ∷ (codes "import", a_text (codes "file") ∷ a_number last_number (codes "number") ∷ [])
    ∷ (codes "roster", a_text (codes "file") ∷ a_text (codes "crew") ∷ json_flag ∷ [])
    ∷ (codes "pairing", a_text (codes "file") ∷ a_text (codes "pairing") ∷ json_flag ∷ [])
    ∷ (
      codes "limits",
      a_text (codes "file") ∷ a_text (codes "crew") ∷ option_text (codes "with") ∷ json_flag ∷ [],
    )
    ∷ (codes "exceedances", a_text (codes "file") ∷ json_flag ∷ [])
    ∷ (codes "members", a_text (codes "file") ∷ json_flag ∷ [])
    ∷ (codes "pairings", a_text (codes "file") ∷ flag (codes "open") ∷ json_flag ∷ [])
    ∷ (
      codes "board",
      a_text (codes "file") ∷ a_day (codes "from") ∷ a_day (codes "to") ∷ json_flag ∷ [],
    )
    ∷ (
      codes "request",
      a_text (codes "file") ∷ a_number last_number (codes "number") ∷ json_flag ∷ [],
    )
    ∷ (codes "serve", a_text (codes "file") ∷ a_number last_port (codes "port") ∷ connections ∷ [])
    ∷ []

-- the arguments of the subcommand of this name
abbrev pub arguments_of : Text → List Argument
arguments_of name =
    option_map_or (λ row. row.1) (find (λ row. bytes_eq row.0 name) subcommand_table) []

-- ---- the rules that `clap` gets

-- the rule of an argument by its place that must be there, with a name in help
abbrev pub wanted : Text → Rule
wanted id = record (new_rule id) { required = true; value_names = 1 }

-- the rule of an argument by its place that must be there, once or more, with a name in help
abbrev pub wanted_each : Text → Rule
wanted_each id = record (wanted id) { action = Some Append }

-- the rule of an argument that must be there, and be a whole number from 1 to `most`
abbrev pub wanted_number : ℕ → Text → Rule
wanted_number most id = record (wanted id) { parser = Some (Unsigned 1 most) }

-- the rule of an option with a value, which may be left out
abbrev pub optional : Text → Rule
optional id = record (new_rule id) { long = Some id; value_names = 1 }

-- the rule of an option of a whole number from 1 to `most`, which may be left out
abbrev pub optional_number : ℕ → Text → Text → Rule
optional_number most default id = record (optional id) {
  defaults = default ∷ [];
  parser = Some (Unsigned 1 most);
}

-- the rule of an option with no value, which may be left out
abbrev pub optional_flag : Text → Rule
optional_flag id = record (new_rule id) { long = Some id; action = Some SetTrue }

-- the rule of an argument of the table
abbrev pub rule : Argument → Rule
rule (a_text id) = wanted id
rule (some_texts id) = wanted_each id
rule (a_number most id) = wanted_number most id
rule (a_day id) = wanted id
rule (option_number most default id) = optional_number most default id
rule (option_text id) = optional id
rule (flag id) = optional_flag id

-- a subcommand with these arguments
abbrev pub with_arguments : Text → List Argument → App
with_arguments name arguments = fold (λ app a. with_rule app (rule a)) (new_app name) arguments

-- the subcommand of this name
abbrev pub subcommand : Text → App
subcommand name = with_arguments name (arguments_of name)

-- the program without its subcommands: a subcommand is wanted, and a call without a word shows help
abbrev pub bare : App
bare = on_top (λ s. record s {
  no_binary_name = true;
  disable_help_subcommand = true;
  has_version = true;
  arg_required_else_help = true;
  subcommand_required = true;
}) (new_app (codes "rosterbook"))

-- the program's command line
abbrev pub command_line : App
command_line =
    fold (λ app row. with_subcommand app (with_arguments row.0 row.1).top) bare subcommand_table

-- The command of `clap` is built as `app` says.
abbrev pub IsCommandOfApp : App → Command → Type 0
IsCommandOfApp app c = (app_of c ≡ app) × ((out-Command c).has_globals ≡ false)

-- The commands of `clap` are the subcommands of these rows, one for one.
abbrev pub AreSubcommands : List Command → List (Text × List Argument) → Type 0
AreSubcommands [] [] = Unit {0}
AreSubcommands (c ∷ commands) (row ∷ rows) =
    IsCommandOfApp (with_arguments row.0 row.1) c × AreSubcommands commands rows
AreSubcommands _ _ = ⊥

-- After these commands of `clap` there is one more, which is built as `app` says.
abbrev pub IsFollowedBy : App → List Command → List Command → Type 0
IsFollowedBy app before now = (c : Command) × (now ≡ before ++ c ∷ []) × IsCommandOfApp app c

-- The arguments of `clap` are these arguments, one for one.
abbrev pub AreArguments : List Arg → List Argument → Type 0
AreArguments [] [] = Unit {0}
AreArguments (arg ∷ args) (a ∷ arguments) =
    (rule_of arg ≡ rule a) × (arg.global ≡ false) × AreArguments args arguments
AreArguments _ _ = ⊥

-- ---- what an action says of the words

-- the value that is given for an argument
pub data Value : Type 0 where
  one : Text → Value
  several : List Text → Value
  whole : ℕ → Value
  day : ℕ → Value
  maybe : Option Text → Value
  given : Bool → Value

-- a whole number from 1 to `most`, read of its text: digits, zeros first or none, after `+` or
-- nothing
abbrev pub number_up_to : ℕ → Text → Option ℕ
number_up_to most text =
    if is_unsigned_in 1 most text then Some (digits_value 10 (without_leading_plus text)) else None

-- the number of a request, read of its text
abbrev pub request_number : Text → Option ℕ
request_number = number_up_to last_number

-- the number from 1 to `most` that was found for the argument
abbrev pub number_found : ℕ → Text → List Row → Option ℕ
number_found most id rows = option_and_then (number_up_to most) (first_of id rows)

-- the day that was found for the argument, by its first minute
abbrev pub day_found : Text → List Row → Option ℕ
day_found id rows = option_and_then day_begin (first_of id rows)

-- the days that were found for the board
abbrev pub days_found : List Row → Option Days
days_found rows = days_from (day_found (codes "from") rows) (day_found (codes "to") rows)

-- whether a flag was given: `true` was found for the flag, and not its default `false`
abbrev pub is_on : Text → List Row → Bool
is_on id rows = option_map_or (λ text. bytes_eq text (codes "true")) (first_of id rows) false

-- the value that was found for the argument
abbrev pub value_of : List Row → Argument → Option Value
value_of rows (a_text id) = option_map one (first_of id rows)
value_of rows (some_texts id) = option_map several (all_of id rows)
value_of rows (a_number most id) = option_map whole (number_found most id rows)
value_of rows (a_day id) = option_map day (day_found id rows)
value_of rows (option_number most default id) = option_map whole (number_found most id rows)
value_of rows (option_text id) = Some (maybe (first_of id rows))
value_of rows (flag id) = Some (given (is_on id rows))

-- whether only those pairings are listed that have a free seat
abbrev pub is_only_open : Listed → Bool
is_only_open All = false
is_only_open Open = true

-- whether a report is asked for in JSON
abbrev pub is_json : Form → Bool
is_json form.Text = false
is_json form.Json = true

-- the subcommand of a report from this file in this form, and what is given for each of its
-- arguments
abbrev pub call_of_report : Text → Subject Text Text → Form → Text × List Value
call_of_report file (Crew id) in_form =
    (codes "roster", one file ∷ one id ∷ given (is_json in_form) ∷ [])
call_of_report file (Pairing id) in_form =
    (codes "pairing", one file ∷ one id ∷ given (is_json in_form) ∷ [])
call_of_report file (Limits id with) in_form =
    (codes "limits", one file ∷ one id ∷ maybe with ∷ given (is_json in_form) ∷ [])
call_of_report file Exceedances in_form =
    (codes "exceedances", one file ∷ given (is_json in_form) ∷ [])
call_of_report file Members in_form = (codes "members", one file ∷ given (is_json in_form) ∷ [])
call_of_report file (Pairings which) in_form =
    (codes "pairings", one file ∷ given (is_only_open which) ∷ given (is_json in_form) ∷ [])
call_of_report file (Board days) in_form =
    (codes "board", one file ∷ day days.first ∷ day days.last ∷ given (is_json in_form) ∷ [])
call_of_report file (Request number) in_form =
    (codes "request", one file ∷ whole number ∷ given (is_json in_form) ∷ [])

-- the subcommand of an action, and what is given for each of its arguments
abbrev pub call_of : Action → Text × List Value
call_of (Duty zone report times) = (
  codes "duty",
  one (string_bytes zone) ∷ one (string_bytes report) ∷ several (map string_bytes times.items) ∷ [],
)
call_of (Init file zone) = (codes "init", one (string_bytes file) ∷ one (string_bytes zone) ∷ [])
call_of (Do file dry_run lines) =
    (codes "do", one (string_bytes file) ∷ given dry_run ∷ given lines ∷ [])
call_of (Import file number) = (codes "import", one (string_bytes file) ∷ whole number ∷ [])
call_of (Report file subject in_form) =
    call_of_report (string_bytes file) (subject_bytes subject) in_form
call_of (Serve file port count) =
    (codes "serve", one (string_bytes file) ∷ whole port ∷ whole count ∷ [])

-- The action is the subcommand that was met, with the arguments that were found for that
-- subcommand.
abbrev pub IsActionOf : Action → Text × List Row → Type 0
IsActionOf a met = (met.0 ≡ (call_of a).0)
    × (map (value_of met.1) (arguments_of met.0) ≡ map (λ v. Some v) (call_of a).1)

-- ---- what `clap` doesn't look at

-- the fault of a board whose days aren't days, are more than 62, or end before they begin
abbrev pub board_fault : Option Days → Kinds
board_fault None = ValueValidation ∷ []
board_fault (Some days) = []

-- the fault of the days that were found, where the subcommand is `board`
abbrev pub days_fault : Option (Text × List Row) → Kinds
days_fault None = []
days_fault (Some met) =
    if bytes_eq met.0 (codes "board") then board_fault (days_found met.1) else []

-- the fault of a line: what `clap` finds of it, or else that of its days
abbrev pub line_fault : List Text → Kinds
line_fault words =
    or_else (fault_of command_line words) (days_fault (subcommand_of command_line words))
