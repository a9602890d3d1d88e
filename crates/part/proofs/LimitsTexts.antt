-- The limits of the part that is gathered for them are those of the state.
use Rattle.std.proofs.Common.{◌≡◌, ◌↔◌, ℕ, true, false, not, List, [], map, ◌++◌, sym, ap, ◌∙◌, Option, Some, None}
use Rattle.std.specs.FinMap as fin
use Rattle.std.specs.List.{filter, flat_map}
use Rattle.std.specs.Option.{option_map, option_map_or}
use Rattle.std.specs.Str.{bytes_eq}
use Rattle.duty.specs.Shape.{home}
use Rattle.limits_report.specs.LimitsText.{IsLimitsText}
use Rattle.limits_report.specs.NearestLimits.{judged_duties}
use Rattle.roster.specs.Bases.{zone_at}
use Rattle.roster.specs.Pairings.{holds}
use Rattle.roster.specs.Places.{Placed, ground_at, history_of, outside_at, periods_at, the_pairing}
use Rattle.roster.specs.State.{State, zone_of}
use Rattle.roster.specs.declared.state.PairingEntry.{PairingEntry}
use Rattle.part.specs.Shown.{is_held_of, is_held_or_named, limits_part}
use Rattle.part.proofs.Retained.{same_name, retained, from_retained, same_passing, or_left, or_right}
use Rattle.part.proofs.ShownTexts.{crew_same, grounds_same, outsides_same}

module _ (s : State) (who : List ℕ) (named : Option (List ℕ)) where
  abbrev part : State
  part = limits_part s who named

  -- a pairing that the member holds is in the part
  held_passes : (other : Option (List ℕ)) (id : List ℕ) → is_held_of s who id ≡ true → is_held_or_named s who other id ≡ true
  held_passes None id held = held
  held_passes (Some other) id held = or_left (is_held_of s who id) (bytes_eq other id) held

  pairings_same : filter (λ (row : List ℕ × PairingEntry). holds who row.1) (fin.entries part.pairings) ≡ filter (λ (row : List ℕ × PairingEntry). holds who row.1) (fin.entries s.pairings)
  pairings_same = same_passing (holds who) part.pairings s.pairings
      (λ id r there. (from_retained s.pairings (is_held_or_named s who named) id r there).1)
      (λ id r there held. retained s.pairings (is_held_or_named s who named) id (held_passes named id (ap (λ o. option_map_or (holds who) o false) there ∙ held)) ∙ there)

  zone_same : zone_of part who ≡ zone_of s who
  zone_same i = zone_at s.bases (option_map_or (λ m. m.base) (crew_same s who i) home)

  history_same : history_of part who ≡ history_of s who
  history_same i =
      flat_map (periods_at (zone_same i)) (pairings_same i)
      ++ map ground_at (grounds_same s who i)
      ++ map outside_at (outsides_same s who i)

pub judged_same : (s : State) (who : List ℕ) (named : Option (List ℕ)) → judged_duties (limits_part s who named) who named ≡ judged_duties s who named
judged_same s who None i = Some (record { others = []; new = history_same s who None i })
judged_same s who (Some id) i = option_map (λ r. record {
  others = filter (λ (p : Placed). not (the_pairing id p.0)) (history_same s who (Some id) i);
  new = periods_at (zone_same s who (Some id) i) (id, r);
}) (retained s.pairings (is_held_or_named s who (Some id)) id (or_right (is_held_of s who id) (bytes_eq id id) (same_name id)) i)

module _ (s t : State) (who : List ℕ) (named : Option (List ℕ)) (crew : fin.get s.crew who ≡ fin.get t.crew who) (same : judged_duties s who named ≡ judged_duties t who named) where
  limits_on : (text : List ℕ) → IsLimitsText s who named text → IsLimitsText t who named text
  limits_on text is = record {
    member = is.member;
    is_there = sym crew ∙ is.is_there;
    of = is.of;
    are_judged = sym same ∙ is.are_judged;
    told = is.told;
  }

pub limits_shown_text : (s : State) (who : List ℕ) (named : Option (List ℕ)) (text : List ℕ) → IsLimitsText (limits_part s who named) who named text ↔ IsLimitsText s who named text
limits_shown_text s who named text = (
  limits_on (limits_part s who named) s who named (crew_same s who) (judged_same s who named) text,
  limits_on s (limits_part s who named) who named (sym (crew_same s who)) (sym (judged_same s who named)) text,
)
