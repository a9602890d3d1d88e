-- The board, and what is kept under a number, as JSON of the part that is handed out for each.
use Rattle.std.proofs.Common.{◌≡◌, ℕ, Bool, true, false, ◌&&◌, ◌++◌, ◌∷◌, [], List, map, refl, sym, ap, ◌∙◌, is_some}
use Rattle.std.specs.FinMap as fin
use Rattle.std.specs.List.{Contains, filter, flat_map}
use Rattle.std.specs.Fmt.{decimal}
use Rattle.std.specs.Prelude.{codes}
use Rattle.serde_json.specs.Data.{Data, string}
use Rattle.request.specs.Days.{Days}
use Rattle.command.specs.Texts.{seat_text}
use Rattle.command.specs.declared.member.Member.{Member}
use Rattle.roster.specs.Pairings.{holds}
use Rattle.roster.specs.Refusals.{is_member}
use Rattle.roster.specs.State.{State}
use Rattle.roster.specs.declared.state.LoggedCommand.{LoggedCommand}
use Rattle.roster.specs.declared.state.PairingEntry.{PairingEntry}
use Rattle.roster.proofs.Members.{from_rows, is_first, is_later}
use Rattle.report.specs.Board.{grounds_in, has_period_in, open_in, outsides_in, pairings_held}
use Rattle.report.specs.Kept.{part_in}
use Rattle.part.specs.Shown.{board_part, request_part}
use Rattle.part.proofs.BoardTexts.{flat_without, grounds_in_same, held_in_same, kept_same, no_periods, open_in_same, outsides_in_same}
use Rattle.stored_json.specs.Values.{object_of, array_of}
use Rattle.report_json.specs.BoardJson.{board_duties_json, board_json, board_member_json, board_outside_json, board_period_json, board_periods_json, exceeded_by}
use Rattle.report_json.specs.MembersJson.{bases_json}
use Rattle.report_json.specs.PairingsJson.{listed_pairing_json}
use Rattle.report_json.specs.RequestJson.{kept_part_json, request_json}
use Rattle.report_json.specs.RosterJson.{ground_duty_json}
use Rattle.report_json.specs.declared.exceeded.Exceeded.{Exceeded}

-- two functions that agree on a list make the same of it
same_of_each : {A B : Type 0} (f g : A → B) (xs : List A) → ((x : A) → Contains xs x → f x ≡ g x) → map f xs ≡ map g xs
same_of_each f g [] same = refl
same_of_each f g (x ∷ xs) same = λ i. same x (is_first x xs x refl) i ∷ same_of_each f g xs (λ y c. same y (is_later x xs y c)) i

module _ (s : State) (days : Days) where
  abbrev part : State
  part = board_part s days

  module _ (who : List ℕ) (exceeded : List Exceeded) where
    nothing_of : (entry : List ℕ × PairingEntry) → has_period_in days entry.1 ≡ false → board_periods_json days exceeded entry ≡ []
    nothing_of entry none = ap (map (board_period_json exceeded entry.0)) (no_periods days entry.1 none)

    periods_of : (t : State) → flat_map (board_periods_json days exceeded) (pairings_held t who)
        ≡ flat_map (board_periods_json days exceeded) (filter (λ (row : List ℕ × PairingEntry). holds who row.1 && has_period_in days row.1) (fin.entries t.pairings))
    periods_of t = flat_without (board_periods_json days exceeded) (λ (row : List ℕ × PairingEntry). holds who row.1) (λ row. has_period_in days row.1)
        (fin.entries t.pairings) nothing_of

    periods_same : flat_map (board_periods_json days exceeded) (pairings_held part who) ≡ flat_map (board_periods_json days exceeded) (pairings_held s who)
    periods_same = periods_of part ∙ ap (flat_map (board_periods_json days exceeded)) (held_in_same s days who) ∙ sym (periods_of s)

    duties_same : is_member s who ≡ true → board_duties_json days part who exceeded ≡ board_duties_json days s who exceeded
    duties_same member i =
        periods_same i ++ map ground_duty_json (grounds_in_same s days who member i)
        ++ map (board_outside_json exceeded) (outsides_in_same s days who member i)

  member_same : (entry : List ℕ × Member) → is_member s entry.0 ≡ true → board_member_json days part entry ≡ board_member_json days s entry
  member_same (who, m) member i =
      object_of ((codes "base", string m.base) ∷ (codes "crew", string who)
      ∷ (codes "duties", array_of (duties_same who (exceeded_by s who) member i))
      ∷ (codes "name", string m.name) ∷ (codes "seat", string (seat_text m.seat)) ∷ [])

  members_same : map (board_member_json days part) (fin.entries s.crew) ≡ map (board_member_json days s) (fin.entries s.crew)
  members_same = same_of_each (board_member_json days part) (board_member_json days s) (fin.entries s.crew)
      (λ entry c. member_same entry (ap is_some (from_rows s.crew entry.0 entry.1 c)))

  pub board_same : board_json part days ≡ board_json s days
  board_same i =
      object_of ((codes "bases", array_of (bases_json s)) ∷ (codes "members", array_of (members_same i))
      ∷ (codes "open", array_of (map listed_pairing_json (open_in_same s days i))) ∷ [])

pub request_same : (s : State) (number : ℕ) → request_json (request_part s number) number ≡ request_json s number
request_same s n = ap (λ rows. object_of ((codes "number", string (decimal n))
    ∷ (codes "parts", array_of (map (λ (row : List ℕ × LoggedCommand). kept_part_json (part_in row.0) row.1) rows)) ∷ [])) (kept_same s n)
