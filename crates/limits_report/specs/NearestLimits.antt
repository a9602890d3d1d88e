-- What is nearest to each of the eight limits of 14 CFR Part 117, of a member's duties.
use Rattle.std.specs.Prelude.{◌≡◌, ℕ, Bool, not, List, [], ◌++◌, map, length, codes, ℤ, pos, negsuc}
use Rattle.std.specs.Prelude.{Option, Some, None, unwrap_or, slice_get}
use Rattle.std.specs.Fmt.{decimal}
use Rattle.std.specs.FinMap as fin
use Rattle.std.specs.List.{filter}
use Rattle.std.specs.Option.{option_map}
use Rattle.limits.specs.Judgement.{all_sections}
use Rattle.limits.specs.declared.section.Section.{Section}
use Rattle.limits.specs.declared.section.Section.TheVariants as section
use Rattle.roster.specs.Places.{Place, period, on_ground, outside, Placed, the_pairing, duties}
use Rattle.roster.specs.Places.{periods_at, history_of}
use Rattle.roster.specs.State.{State, zone_of}
use Rattle.roster.specs.declared.state.PairingEntry.{PairingEntry}
use Rattle.nearness.specs.Nearness.{IsNearness, exceeds}
use Rattle.nearness.specs.declared.all_limits.Nearness.{Nearness}
use Rattle.nearness.specs.declared.periods.MeasuredPeriod.{MeasuredPeriod}
use Rattle.nearness.specs.declared.windows.FullestWindow.{FullestWindow}
use Rattle.limits_report.specs.declared.nearest.FirstMinute.{FirstMinute}
use Rattle.limits_report.specs.declared.nearest.FirstMinute.TheVariants.{At, Before2000}
use Rattle.limits_report.specs.declared.nearest.NearestLimit.{NearestLimit}

-- ---- The duties that are judged

-- duties of a member at their places: the new duties, which are judged, and the other duties,
-- listed before the new ones
pub record Judged : Type 0 where
  pub others : List Placed
  pub new : List Placed

-- the duties that are judged without a pairing: all of the member's duties are new
abbrev pub as_they_are : State → List ℕ → Judged
as_they_are s who = record { others = []; new = history_of s who }

-- the member's duties, but for the periods of a pairing
abbrev pub others_than : State → List ℕ → (id : List ℕ) → List Placed
others_than s who id = filter (λ p. not (the_pairing id p.0)) (history_of s who)

-- the duties that are judged with a pairing: its periods are new, and the others are the member's
-- duties but for these periods
abbrev pub as_if_held : State → List ℕ → (id : List ℕ) → PairingEntry → Judged
as_if_held s who id r =
    record { others = others_than s who id; new = periods_at (zone_of s who) (id, r) }

-- the duties of a member that are judged, with a pairing or without one; no duties are judged with
-- a pairing that isn't there
abbrev pub judged_duties : State → (who : List ℕ) → (pairing : Option (List ℕ)) → Option Judged
judged_duties s who None = Some (as_they_are s who)
judged_duties s who (Some id) = option_map (as_if_held s who id) (fin.get s.pairings id)

-- ---- Their names

-- The name of a duty: a period of a pairing is named by the pairing and the period's number. No
-- limit names a ground duty, since only flight duty periods are measured.
abbrev pub place_text : Place → List ℕ
place_text (period id number) = id ++ codes "/" ++ decimal number
place_text (on_ground id) = codes "ground " ++ id
place_text (outside id) = codes "outside " ++ id

-- the names of duties in turn
abbrev pub names : List Placed → List (List ℕ)
names placed = map (λ p. place_text p.0) placed

-- the name at an index, from 0 on; past the last name the name is empty
abbrev pub name_at : List (List ℕ) → ℕ → List ℕ
name_at names index = unwrap_or (slice_get names index) []

-- ---- What is nearest to a limit

-- What is nearest to a limit on each flight duty period: the period, with its minutes, the minutes
-- that are set for it, and its name. If no period is measured, it has only the minutes that the
-- limit sets for every period, if it does.
abbrev pub nearest_period : List (List ℕ) → Section → (exceeds : Bool) → (limit : Option ℕ) →
    Option MeasuredPeriod → NearestLimit
nearest_period names section exceeds limit (Some p) = record {
  section = section;
  minutes = Some p.minutes;
  limit = Some p.limit;
  duty = Some (name_at names p.index);
  from = None;
  exceeds = exceeds;
}
nearest_period names section exceeds limit None = record {
  section = section;
  minutes = None;
  limit = limit;
  duty = None;
  from = None;
  exceeds = exceeds;
}

-- the first minute of a window: an instant, or before the first instant
abbrev pub first_minute : ℤ → FirstMinute
first_minute (pos minute) = At minute
first_minute (negsuc _) = Before2000

-- What is nearest to a limit on the minutes of a window: the window, with its minutes and its first
-- minute. If there is no window, there are no minutes.
abbrev pub nearest_window : Section → (exceeds : Bool) → (limit : ℕ) → Option FullestWindow →
    NearestLimit
nearest_window section exceeds limit (Some w) = record {
  section = section;
  minutes = Some w.minutes;
  limit = Some limit;
  duty = None;
  from = Some (first_minute w.start);
  exceeds = exceeds;
}
nearest_window section exceeds limit None = record {
  section = section;
  minutes = Some 0;
  limit = Some limit;
  duty = None;
  from = None;
  exceeds = exceeds;
}

-- what is nearest to a section's limit: by Tables A and B a period; of flight time 100 hours in 672
-- hours and 1,000 in 365 days, of flight duty periods 60 hours in 168 hours and 190 in 672, of rest
-- 30 hours and 10
abbrev pub nearest_of : List (List ℕ) → Nearness → (exceeds : Bool) → Section → NearestLimit
nearest_of names n over section.FlightTime =
    nearest_period names section.FlightTime over None n.flight_time
nearest_of names n over section.FlightDutyPeriod =
    nearest_period names section.FlightDutyPeriod over None n.flight_duty_period
nearest_of names n over section.FlightTime672Hours =
    nearest_window section.FlightTime672Hours over 6_000 n.flight_time_672_hours
nearest_of names n over section.FlightTime365Days =
    nearest_window section.FlightTime365Days over 60_000 n.flight_time_365_days
nearest_of names n over section.FlightDutyPeriods168Hours =
    nearest_window section.FlightDutyPeriods168Hours over 3_600 n.flight_duty_periods_168_hours
nearest_of names n over section.FlightDutyPeriods672Hours =
    nearest_window section.FlightDutyPeriods672Hours over 11_400 n.flight_duty_periods_672_hours
nearest_of names n over section.ThirtyHourRest =
    nearest_period names section.ThirtyHourRest over (Some 1_800) n.thirty_hour_rest
nearest_of names n over section.TenHourRest =
    nearest_period names section.TenHourRest over (Some 600) n.ten_hour_rest

-- what is nearest to a section's limit, and whether it exceeds the limit
abbrev pub nearest_limit : List (List ℕ) → Nearness → Section → NearestLimit
nearest_limit names n section = nearest_of names n (exceeds section n) section

-- What is nearest to each limit, of duties that are judged, in the order of the sections.
pub record AreNearest (judged : Judged) (limits : List NearestLimit) : Type 0 where
  pub nearness : Nearness
  pub nearest :
      IsNearness (duties (judged.others ++ judged.new)) (duties judged.new) (length judged.others)
      nearness
  pub are : limits ≡ map (nearest_limit (names (judged.others ++ judged.new)) nearness) all_sections

-- What is nearest to each limit, of the duties of the member with this id, with a pairing that is
-- in the state or without one.
pub record AreNearestLimits (s : State) (who : List ℕ) (pairing : Option (List ℕ))
    (limits : List NearestLimit) : Type 0 where
  pub of : Judged
  pub are_judged : judged_duties s who pairing ≡ Some of
  pub are : AreNearest of limits
