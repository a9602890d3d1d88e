-- What is shown of a state: which text it is, or why there is none; and the part of the state that
-- is handed out for the text.
use Rattle.std.specs.Prelude.{◌≡◌, ◌↔◌, false, ◌||◌, ◌&&◌, ◌==◌, ℕ, Bool, List, Option, Some, None}
use Rattle.std.specs.Prelude.{IsSome, Result, Ok, Err}
use Rattle.std.specs.FinMap as fin
use Rattle.std.specs.Option.{option_map_or}
use Rattle.std.specs.Str.{bytes_eq}
use Rattle.request.specs.declared.subject.Subject.{Subject}
use Rattle.request.specs.declared.subject.Subject.TheVariants.{Crew, Limits, Pairing, Exceedances}
use Rattle.request.specs.declared.subject.Subject.TheVariants.{Members, Pairings, Board}
use Rattle.request.specs.declared.subject.Subject.TheVariants.{Request}
use Rattle.request.specs.Days.{Days}
use Rattle.limits_report.specs.LimitsText.{IsLimitsText}
use Rattle.limits_report.specs.NearestLimits.{judged_duties}
use Rattle.report.specs.Board.{ground_meets, has_period_in, outside_meets}
use Rattle.report.specs.BoardText.{IsBoardText}
use Rattle.report.specs.ExceedanceText.{IsExceedanceText}
use Rattle.report.specs.Kept.{number_in}
use Rattle.report.specs.MembersText.{IsMembersText}
use Rattle.report.specs.PairingText.{pairing_text}
use Rattle.report.specs.PairingsText.{IsPairingsText}
use Rattle.report.specs.RequestText.{request_text}
use Rattle.report.specs.RosterText.{IsRosterText}
use Rattle.roster.specs.Pairings.{holds}
use Rattle.roster.specs.Refusals.{is_member}
use Rattle.roster.specs.Sound.{Sound}
use Rattle.roster.specs.State.{State}

-- ---- What is shown

-- why there is no text: the member isn't there, or the pairing isn't
pub data Absence : Type 0 where
  no_crew no_pairing : Absence

-- what is shown of a state: the text of a member's roster, of a member's limits, of a pairing, of
-- the exceedances, of the members, of pairings, of the board of some days, or of what is kept under
-- a number; or that there is none, and why
abbrev pub IsShown : State → Subject (List ℕ) (List ℕ) → Result (List ℕ) Absence → Type 0
IsShown s (Crew who) (Ok text) = IsRosterText s who text
IsShown s (Crew who) (Err no_crew) = fin.get s.crew who ≡ None
IsShown s (Crew who) (Err no_pairing) = ⊥
IsShown s (Limits who named) (Ok text) = IsLimitsText s who named text
IsShown s (Limits who named) (Err no_crew) = fin.get s.crew who ≡ None
IsShown s (Limits who named) (Err no_pairing) =
    IsSome (fin.get s.crew who) × (judged_duties s who named ≡ None)
IsShown s (Pairing id) (Ok text) = pairing_text s id ≡ Some text
IsShown s (Pairing id) (Err no_crew) = ⊥
IsShown s (Pairing id) (Err no_pairing) = pairing_text s id ≡ None
IsShown s Exceedances (Ok text) = IsExceedanceText s text
IsShown s Exceedances (Err absence) = ⊥
IsShown s Members (Ok text) = IsMembersText s text
IsShown s Members (Err absence) = ⊥
IsShown s (Pairings which) (Ok text) = IsPairingsText s which text
IsShown s (Pairings which) (Err absence) = ⊥
IsShown s (Board days) (Ok text) = IsBoardText s days text
IsShown s (Board days) (Err absence) = ⊥
IsShown s (Request number) (Ok text) = text ≡ request_text s number
IsShown s (Request number) (Err absence) = ⊥

-- ---- The parts

-- the member holds a seat of the pairing with this id
abbrev pub is_held_of : State → List ℕ → List ℕ → Bool
is_held_of s who id = option_map_or (holds who) (fin.get s.pairings id) false

-- the ground duty with this id is the member's
abbrev pub is_ground_of : State → List ℕ → List ℕ → Bool
is_ground_of s who id = option_map_or (λ g. bytes_eq g.crew who) (fin.get s.grounds id) false

-- the outside period with this id is the member's
abbrev pub is_outside_of : State → List ℕ → List ℕ → Bool
is_outside_of s who id = option_map_or (λ o. bytes_eq o.crew who) (fin.get s.outsides id) false

-- The part of a state with one member, the pairings that the member holds, and the member's ground
-- duties and outside periods. Who else holds these pairings isn't in it.
abbrev pub member_part : State → List ℕ → State
member_part s who = record {
  bases = s.bases;
  crew = fin.retain_keys s.crew (bytes_eq who);
  pairings = fin.retain_keys s.pairings (is_held_of s who);
  grounds = fin.retain_keys s.grounds (is_ground_of s who);
  outsides = fin.retain_keys s.outsides (is_outside_of s who);
  exceedances = fin.empty;
  requests = fin.empty;
}

-- the part of a state with all bases, one pairing, and nothing else
abbrev pub pairing_part : State → List ℕ → State
pairing_part s id = record {
  bases = s.bases;
  crew = fin.empty;
  pairings = fin.retain_keys s.pairings (bytes_eq id);
  grounds = fin.empty;
  outsides = fin.empty;
  exceedances = fin.empty;
  requests = fin.empty;
}

-- the member holds a seat of the pairing with this id, or the pairing is the named one, if one is
-- named
abbrev pub is_held_or_named : State → List ℕ → (named : Option (List ℕ)) → List ℕ → Bool
is_held_or_named s who None id = is_held_of s who id
is_held_or_named s who (Some other) id = is_held_of s who id || bytes_eq other id

-- the part of a state that the limits of a member need: the member's part, and the named pairing,
-- if one is named, whoever holds it
abbrev pub limits_part : State → List ℕ → (named : Option (List ℕ)) → State
limits_part s who named = record (member_part s who) {
  pairings = fin.retain_keys s.pairings (is_held_or_named s who named);
}

-- the part of a state with all its bases and members, and nothing that the members do
abbrev pub crew_part : State → State
crew_part s = record {
  bases = s.bases;
  crew = s.crew;
  pairings = fin.empty;
  grounds = fin.empty;
  outsides = fin.empty;
  exceedances = fin.empty;
  requests = fin.empty;
}

-- The part of a state with all its bases and pairings. The members who hold the pairings aren't in
-- it.
abbrev pub pairings_part : State → State
pairings_part s = record {
  bases = s.bases;
  crew = fin.empty;
  pairings = s.pairings;
  grounds = fin.empty;
  outsides = fin.empty;
  exceedances = fin.empty;
  requests = fin.empty;
}

-- the part of a state with all its bases and exceedances, and nothing else
abbrev pub exceedances_part : State → State
exceedances_part s = record {
  bases = s.bases;
  crew = fin.empty;
  pairings = fin.empty;
  grounds = fin.empty;
  outsides = fin.empty;
  exceedances = s.exceedances;
  requests = fin.empty;
}

-- the pairing with this id has a period that meets the days
abbrev pub is_pairing_in : State → Days → List ℕ → Bool
is_pairing_in s days id = option_map_or (has_period_in days) (fin.get s.pairings id) false

-- the ground duty with this id is a member's and meets the days
abbrev pub is_ground_in : State → Days → List ℕ → Bool
is_ground_in s days id =
    option_map_or (λ g. is_member s g.crew && ground_meets days g) (fin.get s.grounds id) false

-- the outside period with this id is a member's and meets the days
abbrev pub is_outside_in : State → Days → List ℕ → Bool
is_outside_in s days id =
    option_map_or (λ o. is_member s o.crew && outside_meets days o) (fin.get s.outsides id) false

-- the part of a state with all its bases, members and exceedances, the pairings of which a period
-- meets the days, and the members' ground duties and outside periods that do
abbrev pub board_part : State → Days → State
board_part s days = record {
  bases = s.bases;
  crew = s.crew;
  pairings = fin.retain_keys s.pairings (is_pairing_in s days);
  grounds = fin.retain_keys s.grounds (is_ground_in s days);
  outsides = fin.retain_keys s.outsides (is_outside_in s days);
  exceedances = s.exceedances;
  requests = fin.empty;
}

-- whether a key, by its name, is that of a part of the request with this number
abbrev pub is_under : (number : ℕ) → (name : List ℕ) → Bool
is_under number name = number_in name == number

-- the part of a state with all its bases, and what is kept under the number of a request
abbrev pub request_part : State → (number : ℕ) → State
request_part s number = record {
  bases = s.bases;
  crew = fin.empty;
  pairings = fin.empty;
  grounds = fin.empty;
  outsides = fin.empty;
  exceedances = fin.empty;
  requests = fin.retain_keys s.requests (is_under number);
}

-- the part of a state that is handed out for a text, and no more
abbrev pub shown_part : State → Subject (List ℕ) (List ℕ) → State
shown_part s (Crew who) = member_part s who
shown_part s (Limits who named) = limits_part s who named
shown_part s (Pairing id) = pairing_part s id
shown_part s Exceedances = exceedances_part s
shown_part s Members = crew_part s
shown_part s (Pairings which) = pairings_part s
shown_part s (Board days) = board_part s days
shown_part s (Request number) = request_part s number

-- ---- Laws

-- what is shown of the part that is handed out for a text is what is shown of the state: the same
-- text, or none for the same reason
abbrev pub PartIsShownAlike : Type 0
PartIsShownAlike = (s : State) (what : Subject (List ℕ) (List ℕ))
    (answer : Result (List ℕ) Absence) →
    IsShown (shown_part s what) what answer ↔ IsShown s what answer

-- of a sound state something is shown, whatever is asked: a text, or why there is none
abbrev pub EachIsShown : Type 0
EachIsShown = (s : State) (what : Subject (List ℕ) (List ℕ)) → Sound s →
    (answer : Result (List ℕ) Absence) × IsShown s what answer

-- what is shown of a state for one subject is one: one text, or one reason why there is none
abbrev pub HasOneShown : Type 0
HasOneShown = (s : State) (what : Subject (List ℕ) (List ℕ)) (a b : Result (List ℕ) Absence) →
    IsShown s what a → IsShown s what b → a ≡ b
