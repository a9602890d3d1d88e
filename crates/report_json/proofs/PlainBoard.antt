-- The values of a board, and of what is kept under a number, have no floats, so that their texts are those of their values.
use Rattle.std.proofs.Common.{◌≡◌, ℕ, List, [], ◌∷◌, ◌++◌, map, true, false, refl}
use Rattle.std.specs.FinMap as fin
use Rattle.std.specs.List.{filter, flat_map}
use Rattle.std.specs.Prelude.{codes, if◌then◌else◌}
use Rattle.std.specs.Str.{bytes_eq}
use Rattle.serde_json.specs.Data.{string}
use Rattle.serde_json.specs.Written.{has_float}
use Rattle.request.specs.Days.{Days}
use Rattle.duty.specs.Shape.{home}
use Rattle.duty.specs.declared.fdp.Fdp.{Fdp}
use Rattle.command.specs.Texts.{seat_text}
use Rattle.command.specs.declared.instruction.Instruction.{Instruction}
use Rattle.command.specs.declared.instruction.Instruction.TheVariants.{AddBase, AddCrew, AddPairing, CancelPairing, Assign, Release, Swap, AddGround, CancelGround, Actual, RecordOutside}
use Rattle.command.specs.declared.member.Member.{Member}
use Rattle.roster.specs.State.{State}
use Rattle.roster.specs.declared.state.LoggedCommand.{LoggedCommand}
use Rattle.roster.specs.declared.state.OutsideEntry.{OutsideEntry}
use Rattle.report.specs.Board.{pairings_held, periods_in, grounds_in, outsides_in, open_in}
use Rattle.report.specs.Kept.{kept_under, part_in}
use Rattle.report.specs.declared.periods.PeriodInForce.{PeriodInForce}
use Rattle.stored_json.specs.KeptText.{instruction_json, period_json, segment_json, times_json}
use Rattle.stored_json.specs.Values.{object_of}
use Rattle.stored_json.proofs.ReplyBack.{reply_no_float}
use Rattle.report_json.specs.BoardJson.{is_outside, is_period, section_json, board_period_json, board_periods_json, board_outside_json, board_duties_json, board_member_json, board_json, exceeded_by}
use Rattle.report_json.specs.MembersJson.{base_json}
use Rattle.report_json.specs.PairingsJson.{listed_pairing_json}
use Rattle.report_json.specs.RequestJson.{kept_part_json, request_json}
use Rattle.report_json.specs.RosterJson.{ground_duty_json}
use Rattle.report_json.specs.declared.exceeded.Exceeded.{Exceeded}
use Rattle.report_json.proofs.Plain.{ArePlain, actual_plain, all_plain, both_plain, each_plain, listed_pairing_plain, no_part, segments_plain}

-- ---- The board

period_plain : (exceeded : List Exceeded) (id : List ℕ) (np : ℕ × PeriodInForce) → has_float (board_period_json exceeded id np) ≡ false
period_plain exceeded id (n, p) =
    no_part _ _ (actual_plain p.actual)
    (no_part _ _ (each_plain section_json (λ e. refl) (filter (λ (e : Exceeded). is_period id n e.duty) exceeded))
    (no_part _ _ (segments_plain p.plan.segments) refl))

outside_plain : (exceeded : List Exceeded) (row : List ℕ × OutsideEntry) → has_float (board_outside_json exceeded row) ≡ false
outside_plain exceeded (id, o) =
    no_part _ _ (each_plain section_json (λ e. refl) (filter (λ (e : Exceeded). is_outside id e.duty) exceeded))
    (no_part _ _ (each_plain times_json (λ t. refl) o.period.segments) refl)

duties_plain : (days : Days) (s : State) (who : List ℕ) (exceeded : List Exceeded) → ArePlain (board_duties_json days s who exceeded)
duties_plain days s who exceeded =
    let periods = flat_map (board_periods_json days exceeded) (pairings_held s who) in
    let grounds = map ground_duty_json (grounds_in days s who) in
    both_plain (periods ++ grounds) (map (board_outside_json exceeded) (outsides_in days s who))
    (both_plain periods grounds
    (all_plain (board_periods_json days exceeded) (λ row. each_plain (board_period_json exceeded row.0) (period_plain exceeded row.0) (periods_in days row.1)) (pairings_held s who))
    (each_plain ground_duty_json (λ row. refl) (grounds_in days s who)))
    (each_plain (board_outside_json exceeded) (outside_plain exceeded) (outsides_in days s who))

member_plain : (days : Days) (s : State) (entry : List ℕ × Member) → has_float (board_member_json days s entry) ≡ false
member_plain days s (who, m) = no_part _ _ (duties_plain days s who (exceeded_by s who)) refl

pub board_plain : (s : State) (days : Days) → has_float (board_json s days) ≡ false
board_plain s days =
    no_part _ _ (each_plain base_json (λ row. refl) (fin.entries s.bases))
    (no_part _ _ (each_plain (board_member_json days s) (member_plain days s) (fin.entries s.crew))
    (no_part _ _ (each_plain listed_pairing_json listed_pairing_plain (open_in days s)) refl))

-- ---- What is kept under a number

planned_plain : (f : Fdp) → has_float (period_json f) ≡ false
planned_plain f = no_part _ _ (each_plain segment_json (λ s. refl) f.segments) refl

new_member_plain : (id : List ℕ) (m : Member) → has_float (instruction_json (AddCrew id m)) ≡ false
new_member_plain id m =
    elim (bytes_eq m.base home) as (λ b.
    has_float (object_of ((if b then [] else (codes "base", string m.base) ∷ []) ++ (codes "crew", string id)
    ∷ (codes "do", string (codes "add-crew"))
    ∷ (codes "name", string m.name) ∷ (codes "seat", string (seat_text m.seat)) ∷ [])) ≡ false) [ true ↦ refl | false ↦ refl ]

instruction_plain : (o : Instruction) → has_float (instruction_json o) ≡ false
instruction_plain (AddBase id zone) = refl
instruction_plain (AddCrew id m) = new_member_plain id m
instruction_plain (AddPairing p) = no_part _ _ (each_plain period_json planned_plain p.periods) refl
instruction_plain (CancelPairing id) = refl
instruction_plain (Assign id who) = refl
instruction_plain (Release id who) = refl
instruction_plain (Swap w) = refl
instruction_plain (AddGround g) = refl
instruction_plain (CancelGround id) = refl
instruction_plain (Actual id a) = no_part _ _ (each_plain times_json (λ t. refl) a.segments) refl
instruction_plain (RecordOutside who o) = no_part _ _ (each_plain times_json (λ t. refl) o.segments) refl

kept_part_plain : (part : ℕ) (kept : LoggedCommand) → has_float (kept_part_json part kept) ≡ false
kept_part_plain part kept = no_part _ _ (instruction_plain kept.command) (no_part _ _ (reply_no_float kept.reply) refl)

pub request_plain : (s : State) (number : ℕ) → has_float (request_json s number) ≡ false
request_plain s number =
    no_part _ _ (each_plain (λ (row : List ℕ × LoggedCommand). kept_part_json (part_in row.0) row.1) (λ row. kept_part_plain (part_in row.0) row.1) (kept_under s number)) refl
