-- How a request and a schedule are answered, from what was asked of a book.
use Rattle.std.proofs.Common.{◌≡◌, ◌∙◌, ◌++◌, inl, inr, ℕ, List, [], ◌∷◌, refl, sym, ap, subst, string_bytes, Result, Ok, Err}
use Rattle.std.specs.Io.KnownBytes.{Appends}
use Rattle.sqlite_trees.specs.declared.store.Store.{Ghosts}
use Rattle.command.specs.declared.instruction.Instruction.{Instruction}
use Rattle.command.specs.declared.refusal.Refusal.{Refusal}
use Rattle.command.specs.declared.refusal.Refusal.TheVariants as refusals
use Rattle.codec.specs.Requests.{read_request}
use Rattle.roster.specs.Folds.{ReplyOrRefusal}
use Rattle.roster.specs.State.{State}
use Rattle.state_rows.specs.declared.fault.StoreFault.{StoreFault}
use Rattle.book.specs.Answered.{IsAnswered}
use Rattle.book.specs.Kept.{IsDurablyAt, IsClean, Kept, result_of}
use Rattle.book.specs.declared.answer.Answer.{Answer}
use Rattle.asking.specs.Answers.{IsOrMemory, Reports, answer_json, answer_kind, refusal_kind}
use Rattle.asking.specs.Requests.{HasChecked, IsCheckedAsRead, IsDoneAsRead, IsRequestAsked, IsRequestChecked, ReadRequest, asked_as}
use Rattle.asking.specs.declared.answers.JsonAnswer.{JsonAnswer}
use Rattle.http_exchange.specs.Exchange.{ChannelBytes}
use Rattle.rosterbook.specs.Asking.{Answers, IsRequestAnswered, left_by_check, left_by_request, status_of_answer, exit_status_of_kind, told_json}
use Rattle.rosterbook.specs.Streams.{Prints, ReadsInput, line_end}
use Rattle.rosterbook.specs.declared.status.Status.{Status}
use Rattle.rosterbook.specs.declared.status.Status.TheVariants.{Refused}

-- ---- `do`

refused_kind : (r : Refusal) → exit_status_of_kind (refusal_kind r) ≡ Refused
refused_kind refusals.NumberUsed = refl
refused_kind refusals.NoSuchCrew = refl
refused_kind refusals.CrewExists = refl
refused_kind refusals.NoSuchPairing = refl
refused_kind refusals.PairingExists = refl
refused_kind refusals.SeatTaken = refl
refused_kind refusals.WrongSeat = refl
refused_kind refusals.NotAssigned = refl
refused_kind refusals.PairingCrewed = refl
refused_kind refusals.Flown = refl
refused_kind refusals.Overlap = refl
refused_kind (refusals.Limits broken) = refl
refused_kind refusals.NoSuchDuty = refl
refused_kind refusals.GroundExists = refl
refused_kind refusals.NoSuchGround = refl
refused_kind (refusals.SegmentCount period) = refl
refused_kind refusals.NoSuchBase = refl
refused_kind refusals.BaseExists = refl
refused_kind refusals.OutsideTaken = refl

kind_ends : (answer : ReplyOrRefusal) → exit_status_of_kind (answer_kind answer) ≡ status_of_answer answer
kind_ends (Ok reply) = refl
kind_ends (Err refusal) = refused_kind refusal

-- the status and the line of what is reported of an answer of the book
answer_told : (answer : Answer) (told : JsonAnswer) (asked : ℕ × Instruction) → IsOrMemory (answer_kind (result_of answer)) (answer_json (result_of answer)) (Ok told)
    → ◌≡◌ {A = Status × List ℕ} (exit_status_of_kind told.kind, string_bytes told.text) (told_json (Ok asked) (result_of answer))
answer_told answer told asked (kind, text) =
    ap (λ k. (exit_status_of_kind k, string_bytes told.text)) kind ∙ ap (λ t. (exit_status_of_kind (answer_kind (result_of answer)), t)) text
    ∙ ap (λ (s : Status). (s, answer_json (result_of answer))) (kind_ends (result_of answer))

module _ {S : Type 0} (g : Ghosts S) (old new : Kept S) where
  abbrev pub IsRequestTold : (State → ReadRequest → State) → Status × List ℕ → ReadRequest → Type 0
  IsRequestTold left_by told request = (answer : ReplyOrRefusal)
      × (told ≡ told_json request answer)
      × ((s : State) → IsDurablyAt g old s → IsClean g new → Answers s request answer)
      × ((s : State) → IsDurablyAt g old s → IsDurablyAt g new (left_by s request))

  command_told : (asked : ℕ × Instruction) (answered : Result Answer StoreFault) (told : JsonAnswer) → IsAnswered g old new (asked_as asked) answered → Reports answered (Ok told)
      → IsRequestTold left_by_request (exit_status_of_kind told.kind, string_bytes told.text) (Ok asked)
  command_told (number, instruction) (Ok answer) told is reported = (
    result_of answer,
    answer_told answer told (number, instruction) reported,
    (λ s at clean. ap (λ a. a ∷ []) (is.reply s at clean)),
    (λ s at. is.answered s at),
  )
  command_told asked (Err fault) told is never = absurd (cc)

  read_told : (request : ReadRequest) (told : JsonAnswer) → IsDoneAsRead g old new request (Ok told) → IsRequestTold left_by_request (exit_status_of_kind told.kind, string_bytes told.text) request
  read_told (Ok asked) told it = command_told asked it.answer told it.answered it.reported
  read_told (Err fault) told (same, (kind, text)) = (
    Err refusals.NumberUsed,
    ap (λ k. (exit_status_of_kind k, string_bytes told.text)) kind ∙ ap (λ t. (Refused, t)) text,
    (λ s at clean. tt),
    (λ s at. subst (λ (b : Kept S). IsDurablyAt g b s) (sym same) at),
  )

  -- a request that was asked, or isn't read, is answered so
  pub request_told : (body : List ℕ) (told : JsonAnswer) → IsRequestAsked g old new body (Ok told)
      → IsRequestTold left_by_request (exit_status_of_kind told.kind, string_bytes told.text) (read_request body)
  request_told body told (inr (same, never)) = absurd (cc)
  request_told body told (inl done) = read_told (read_request body) told done

  -- and the line was written
  pub request_answered : (held out out' : ChannelBytes) (input : List ℕ) (told : JsonAnswer) (status : Status) → ReadsInput held input → IsRequestAsked g old new input (Ok told)
      → status ≡ exit_status_of_kind told.kind → Appends out out' (string_bytes told.text ++ line_end) → IsRequestAnswered g left_by_request old new held out out' status
  request_answered held out out' input told status read asked ends written =
      let it = request_told input told asked in
      record {
        input = input;
        answer = it.0;
        told = record {
          read = read;
          printed = subst (λ (l : Status × List ℕ). Prints l status out out') it.1 (ends, written);
        };
        answered = it.2;
        left = it.3;
      }

  -- ---- `do --dry-run`

  command_checked : (asked : ℕ × Instruction) (answered : Result Answer StoreFault) (told : JsonAnswer) → HasChecked g old new (asked_as asked) answered → Reports answered (Ok told)
      → IsRequestTold left_by_check (exit_status_of_kind told.kind, string_bytes told.text) (Ok asked)
  command_checked (number, instruction) (Ok answer) told is reported = (
    result_of answer,
    answer_told answer told (number, instruction) reported,
    (λ s at clean. ap (λ a. a ∷ []) (is.reply s at clean)),
    (λ s at. is.call.kept s at),
  )
  command_checked asked (Err fault) told is never = absurd (cc)

  read_checked : (request : ReadRequest) (told : JsonAnswer) → IsCheckedAsRead g old new request (Ok told) → IsRequestTold left_by_check (exit_status_of_kind told.kind, string_bytes told.text) request
  read_checked (Ok asked) told it = command_checked asked it.answer told it.checked it.reported
  read_checked (Err fault) told (same, (kind, text)) = (
    Err refusals.NumberUsed,
    ap (λ k. (exit_status_of_kind k, string_bytes told.text)) kind ∙ ap (λ t. (Refused, t)) text,
    (λ s at clean. tt),
    (λ s at. subst (λ (b : Kept S). IsDurablyAt g b s) (sym same) at),
  )

  -- a request that was checked, or isn't read, is answered so
  pub check_told : (body : List ℕ) (told : JsonAnswer) → IsRequestChecked g old new body (Ok told)
      → IsRequestTold left_by_check (exit_status_of_kind told.kind, string_bytes told.text) (read_request body)
  check_told body told (inr (same, never)) = absurd (cc)
  check_told body told (inl done) = read_checked (read_request body) told done

  -- and the line was written
  pub request_checked : (held out out' : ChannelBytes) (input : List ℕ) (told : JsonAnswer) (status : Status) → ReadsInput held input → IsRequestChecked g old new input (Ok told)
      → status ≡ exit_status_of_kind told.kind → Appends out out' (string_bytes told.text ++ line_end) → IsRequestAnswered g left_by_check old new held out out' status
  request_checked held out out' input told status read checked ends written =
      let it = check_told input told checked in
      record {
        input = input;
        answer = it.0;
        told = record {
          read = read;
          printed = subst (λ (l : Status × List ℕ). Prints l status out out') it.1 (ends, written);
        };
        answered = it.2;
        left = it.3;
      }
