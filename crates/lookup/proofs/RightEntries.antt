-- Where the tables are right, what is read of them has an entry, if it is there.
use Rattle.std.proofs.Common.{◌≡◌, inl, refl, sym, ap, subst, ◌∙◌, ℕ, true, List, [], ◌∷◌, map, Bool, Option, Some, None, slice_get}
use Rattle.sqlite_value.specs.Order.{Row, column}
use Rattle.sqlite.specs.Effect.{Database}
use Rattle.duty.specs.Pairings.{ground_fault}
use Rattle.stored_json.specs.Instants.{is_instant}
use Rattle.stored_json.specs.KeptText.{kept_text}
use Rattle.stored_json.specs.Laws.{IsCommand}
use Rattle.stored_json.specs.ReplyText.{reply_text}
use Rattle.command.specs.Keys.{key_name}
use Rattle.command.specs.declared.exceedance.Reply.{Reply}
use Rattle.command.specs.declared.instruction.Instruction.{Instruction}
use Rattle.duty.specs.Plans.{GroundPlan}
use Rattle.roster.specs.declared.state.LoggedCommand.{LoggedCommand}
use Rattle.tables.specs.Records.{ground_row, request_row}
use Rattle.tables.specs.Rows.{Finds}
use Rattle.tables.specs.declared.ground.GroundRecord.{GroundRecord}
use Rattle.tables.specs.declared.request.RequestRecord.{RequestRecord}
use Rattle.state_rows.specs.Rows.{table, ground_duty, request, outside_segment}
use Rattle.state_rows.proofs.Lists.{some_same}
use Rattle.state_rows.proofs.Values.{number_is, text_is}
use Rattle.entries.specs.Right.{AreRight}
use Rattle.lookup.specs.Entries.{HasFirstGround, HasFirstRequest, HasTexts, TellsGround, ground_told}
use Rattle.lookup.specs.Reads.{HaveNone}
use Rattle.lookup.proofs.ReadLemmas.{of_found}
use Rattle.lookup.proofs.RightRows.{grounds_right, requests_right}

module _ (db : Database) (right : AreRight outside_segment db) (test : Row → Bool) where
  pub ground_there : (records : List GroundRecord) → Finds (table ground_duty) test db (map ground_row records) → (found : Option GroundPlan) × HasFirstGround records found
  ground_there [] finds = (None, refl)
  ground_there (row ∷ rows) finds =
      let r = grounds_right db right in
      let there = of_found ground_duty test db (map ground_row (row ∷ rows)) finds (ground_row row) (inl refl) in
      let at = (r.1.1.1 (ground_row row)).0 there.0 in
      let is = r.1.2 at.0.name at.0.value at.0.there in
      let at_column = λ (k : ℕ). ap (λ (x : Row). column x k) at.1 in
      let id : row.id ≡ at.0.value.id = text_is (at_column 0) ∙ sym is.named in
      let crew_is : row.crew ≡ at.0.value.crew = text_is (at_column 1) in
      let task : row.task ≡ at.0.value.task = text_is (at_column 2) in
      let begin : row.begin_at ≡ at.0.value.begin = number_is (at_column 3) in
      let end : row.end_at ≡ at.0.value.end = number_is (at_column 4) in
      let same : ground_told row ≡ at.0.value = λ i. record { id = id i; crew = crew_is i; begin = begin i; end = end i; task = task i } in
      (Some (ground_told row), (refl, record { begin = ap is_instant begin ∙ is.begin; end = ap is_instant end ∙ is.end; made = ap ground_fault same ∙ is.made }))

  pub request_there : (records : List RequestRecord) → Finds (table request) test db (map request_row records) → (found : Option LoggedCommand) × HasFirstRequest records found
  request_there [] finds = (None, refl)
  request_there (row ∷ rows) finds =
      let there = of_found request test db (map request_row (row ∷ rows)) finds (request_row row) (inl refl) in
      let r = requests_right db right in
      let at = (r.1.1.1 (request_row row)).0 there.0 in
      let known = r.1.2.0 (key_name at.0.key) at.0.kept at.0.there in
      let at_column = λ (k : ℕ). ap (λ (x : Row). column x k) at.1 in
      (Some at.0.kept, (at.0.kept, refl, record { command = known.2.command; command_text = sym (text_is (at_column 2)); reply_text = sym (text_is (at_column 3)) }))

-- ---- What a first record is that has no entry

ground_in : (records : List GroundRecord) (row : GroundRecord) → slice_get records 0 ≡ Some row → (found : Option GroundPlan) → HasFirstGround records found → TellsGround row
ground_in [] row here found first = absurd (cc)
ground_in (x ∷ xs) row here found first = subst TellsGround (some_same here) first.1

pub no_begin : (records : List GroundRecord) (row : GroundRecord) → slice_get records 0 ≡ Some row → (is_instant row.begin_at ≡ true → ⊥) → HaveNone (HasFirstGround records)
no_begin records row here none found told = none (ground_in records row here found told).begin

pub no_end : (records : List GroundRecord) (row : GroundRecord) → slice_get records 0 ≡ Some row → (is_instant row.end_at ≡ true → ⊥) → HaveNone (HasFirstGround records)
no_end records row here none found told = none (ground_in records row here found told).end

pub no_ground : (records : List GroundRecord) (row : GroundRecord) → slice_get records 0 ≡ Some row → (ground_fault (ground_told row) ≡ None → ⊥) → HaveNone (HasFirstGround records)
no_ground records row here none found told = none (ground_in records row here found told).made

request_in : (records : List RequestRecord) (row : RequestRecord) → slice_get records 0 ≡ Some row → (found : Option LoggedCommand) → HasFirstRequest records found → (r : LoggedCommand) × HasTexts row r
request_in [] row here found first = absurd (cc)
request_in (x ∷ xs) row here found first = (first.0, subst (λ (y : RequestRecord). HasTexts y first.0) (some_same here) first.2)

pub no_first : (records : List RequestRecord) (row : RequestRecord) → slice_get records 0 ≡ Some row → HaveNone (HasTexts row) → HaveNone (HasFirstRequest records)
no_first records row here none found told = let it = request_in records row here found told in none it.0 it.1

pub no_command : (row : RequestRecord) → ((instruction : Instruction) → IsCommand instruction → kept_text instruction ≡ row.command → ⊥) → HaveNone (HasTexts row)
no_command row none found told = none found.command told.command told.command_text

pub no_reply : (row : RequestRecord) → ((reply : Reply) → reply_text reply ≡ row.reply → ⊥) → HaveNone (HasTexts row)
no_reply row none found told = none found.reply told.reply_text
