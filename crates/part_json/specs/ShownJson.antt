-- What is shown of a state as JSON: which text it is, or why there is none; and that the part of
-- the state that is handed out for a report shows the same.
use Rattle.std.specs.Prelude.{◌≡◌, ◌↔◌, ℕ, List, Some, None, IsSome, Result, Ok, Err}
use Rattle.std.specs.FinMap as fin
use Rattle.std.specs.Option.{option_map}
use Rattle.request.specs.declared.subject.Subject.{Subject}
use Rattle.request.specs.declared.subject.Subject.TheVariants.{Crew, Limits, Pairing, Exceedances}
use Rattle.request.specs.declared.subject.Subject.TheVariants.{Members, Pairings, Board}
use Rattle.request.specs.declared.subject.Subject.TheVariants.{Request}
use Rattle.roster.specs.Sound.{Sound}
use Rattle.roster.specs.State.{State}
use Rattle.limits_report.specs.NearestLimits.{judged_duties}
use Rattle.part.specs.Shown.{Absence, no_crew, no_pairing, shown_part}
use Rattle.report_json.specs.BoardJson.{board_json}
use Rattle.report_json.specs.ExceedancesJson.{IsExceedancesJson}
use Rattle.report_json.specs.LimitsJson.{IsLimitsJson}
use Rattle.report_json.specs.MembersJson.{members_json}
use Rattle.report_json.specs.Objects.{json_text}
use Rattle.report_json.specs.PairingJson.{pairing_json}
use Rattle.report_json.specs.PairingsJson.{pairings_json}
use Rattle.report_json.specs.RequestJson.{request_json}
use Rattle.report_json.specs.RosterJson.{roster_json}

-- what is shown of a state as JSON: the text of a member's roster, of a member's limits, of a
-- pairing, of the exceedances, of the members, of pairings, of the board of some days, or of what
-- is kept under a number; or that there is none, and why
abbrev pub IsShownJson : State → Subject (List ℕ) (List ℕ) → Result (List ℕ) Absence → Type 0
IsShownJson s (Crew who) (Ok text) = option_map json_text (roster_json s who) ≡ Some text
IsShownJson s (Crew who) (Err no_crew) = fin.get s.crew who ≡ None
IsShownJson s (Crew who) (Err no_pairing) = ⊥
IsShownJson s (Limits who named) (Ok text) = IsLimitsJson s who named text
IsShownJson s (Limits who named) (Err no_crew) = fin.get s.crew who ≡ None
IsShownJson s (Limits who named) (Err no_pairing) =
    IsSome (fin.get s.crew who) × (judged_duties s who named ≡ None)
IsShownJson s (Pairing id) (Ok text) = option_map json_text (pairing_json s id) ≡ Some text
IsShownJson s (Pairing id) (Err no_crew) = ⊥
IsShownJson s (Pairing id) (Err no_pairing) = fin.get s.pairings id ≡ None
IsShownJson s Exceedances (Ok text) = IsExceedancesJson s text
IsShownJson s Exceedances (Err absence) = ⊥
IsShownJson s Members (Ok text) = text ≡ json_text (members_json s)
IsShownJson s Members (Err absence) = ⊥
IsShownJson s (Pairings which) (Ok text) = text ≡ json_text (pairings_json s which)
IsShownJson s (Pairings which) (Err absence) = ⊥
IsShownJson s (Board days) (Ok text) = text ≡ json_text (board_json s days)
IsShownJson s (Board days) (Err absence) = ⊥
IsShownJson s (Request number) (Ok text) = text ≡ json_text (request_json s number)
IsShownJson s (Request number) (Err absence) = ⊥

-- ---- Laws

-- what is shown as JSON of the part that is handed out for a report is what is shown of the state:
-- the same text, or none for the same reason
abbrev pub PartIsShownAlikeJson : Type 0
PartIsShownAlikeJson = (s : State) (what : Subject (List ℕ) (List ℕ))
    (answer : Result (List ℕ) Absence) →
    IsShownJson (shown_part s what) what answer ↔ IsShownJson s what answer

-- of a sound state something is shown as JSON, whatever is asked: a text, or why there is none
abbrev pub EachIsShownJson : Type 0
EachIsShownJson = (s : State) (what : Subject (List ℕ) (List ℕ)) → Sound s →
    (answer : Result (List ℕ) Absence) × IsShownJson s what answer

-- what is shown of a state as JSON for one subject is one: one text, or one reason why there is
-- none
abbrev pub HasOneShownJson : Type 0
HasOneShownJson = (s : State) (what : Subject (List ℕ) (List ℕ))
    (a b : Result (List ℕ) Absence) → IsShownJson s what a → IsShownJson s what b → a ≡ b
