-- Each input has a response in a sound state: whatever it asks is answered.
use Rattle.std.proofs.Common.{◌⊎◌, inl, inr, refl, ℕ, Bool, List, [], Some, Result, Ok, Err}
use Rattle.duty.specs.Plans.{Plan}
use Rattle.roster.specs.Folds.{Replies, import}
use Rattle.roster.specs.Sound.{Sound}
use Rattle.roster.specs.State.{State}
use Rattle.stored_json.specs.declared.fault.CodecFault.TheVariants.{BadCsv}
use Rattle.codec.specs.Requests.{read_request}
use Rattle.codec.specs.Schedule.{IsAtFault, IsSchedule}
use Rattle.codec.proofs.EachText.{is_schedule_or_at_fault}
use Rattle.asking.proofs.CountTexts.{each_has_count_text}
use Rattle.asking.proofs.ShownAs.{each_is_shown_as}
use Rattle.http_message.specs.Plan.{Planned}
use Rattle.http_message.specs.declared.plan.Submission.TheVariants.{Command, Check, Import, Lines, LineChecks}
use Rattle.http_message.specs.declared.refusals.RequestFault.{RequestFault}
use Rattle.http_exchange.specs.Exchange as exchange
use Rattle.http_exchange.specs.Exchange.{asks}
use Rattle.http_exchange.specs.Final.{Final, of_answer, of_fault}
use Rattle.http_exchange.specs.Handler as http
use Rattle.http_exchange.specs.Handler.{StatusText, submit}
use Rattle.asking.specs.Lines.{commands_in, requests_in}
use Rattle.web.specs.Acts.{Asks, Commands, IsAnswer, answer_to_checks, answer_to_lines, commands_of_body, request_answer}
use Rattle.web.specs.Answers.{count_answer, desk_answer, fault_answer, parts_answer, report_answer}
use Rattle.web.specs.Response.{IsFinal, IsResponseTo, WholeResponse}

-- ---- What is asked, and its answer

module _ (s : State) where
  -- the commands that a request asks, and its answer
  record IsMet (asked : http.HandlerRequest) : Type 0 where
    commands : Commands
    answer : StatusText
    asks_them : Asks asked commands
    told : IsAnswer s asked answer

  met_import : (number : ℕ) (body : List ℕ) → ((plans : List Plan) × IsSchedule body plans) ⊎ ((n : ℕ) × IsAtFault body n) → IsMet (submit (Import number) body)
  met_import number body (inl (plans, is)) = record {
    commands = import number plans;
    answer = parts_answer (Replies s (import number plans));
    asks_them = inl (plans, is, refl);
    told = inl (plans, is, refl);
  }
  met_import number body (inr (n, at_fault)) = record {
    commands = [];
    answer = fault_answer (BadCsv n);
    asks_them = inr (n, at_fault, refl);
    told = inr (n, at_fault, refl);
  }

  each_met : Sound s → (asked : http.HandlerRequest) → IsMet asked
  each_met sound (submit Command body) = record {
    commands = commands_of_body (read_request body);
    answer = request_answer s (read_request body);
    asks_them = refl;
    told = refl;
  }
  each_met sound (submit Check body) =
      record { commands = []; answer = request_answer s (read_request body); asks_them = refl; told = refl }
  each_met sound (submit Lines body) =
      record { commands = commands_in (requests_in body); answer = answer_to_lines s (requests_in body); asks_them = refl; told = refl }
  each_met sound (submit LineChecks body) =
      record { commands = []; answer = answer_to_checks s (requests_in body); asks_them = refl; told = refl }
  each_met sound (submit (Import number) body) = met_import number body (is_schedule_or_at_fault body)
  each_met sound (http.show what form) =
      let shown = each_is_shown_as form s what sound in
      record { commands = []; answer = report_answer form shown.0; asks_them = refl; told = (shown.0, shown.1, refl) }
  each_met sound http.show_desk = record { commands = []; answer = desk_answer; asks_them = refl; told = refl }
  each_met sound http.show_count =
      let text = each_has_count_text s sound in
      record { commands = []; answer = count_answer text.0; asks_them = refl; told = (text.0, text.1, refl) }

  -- ---- The response

  each_final : Sound s → (asked : Result http.HandlerRequest RequestFault) (is_head : Bool) → (commands : Commands) × (final : Final) × IsFinal s asked is_head commands final
  each_final sound (Err fault) is_head = ([], of_fault fault is_head, (refl, refl))
  each_final sound (Ok asked) is_head =
      let met = each_met sound asked in
      (met.commands, of_answer (Ok met.answer) is_head, (met.asks_them, (met.answer, met.told, refl)))

  pub each_response_to : Sound s → (p : Planned) (rest : List ℕ) → (r : WholeResponse) × IsResponseTo s p rest r
  each_response_to sound p rest =
      let done = each_final sound (asks p.step rest) p.is_head in (
        record { interim = exchange.interim p.step; final = done.1; commands = done.0; unread = Some (exchange.unread p.step rest) },
        record { interim_is = refl; final_is = done.2; unread_is = refl },
      )
