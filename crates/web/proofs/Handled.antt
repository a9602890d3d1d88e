-- From what was asked of a book to the response.
use Rattle.std.proofs.Common.{◌≡◌, ◌∙◌, ◌||◌, ◌⊎◌, ap, sym, subst, refl, inl, inr, ℕ, Bool, true, false, IsTrue, List, [], ◌∷◌, string_bytes, Result, Ok, Err, IfOk}
use Rattle.std.specs.Bool.{⊤}
use Rattle.std.specs.Global.{Global}
use Rattle.std.specs.Prelude.{String}
use Rattle.values.specs.declared.memory_fault.MemoryFault.{MemoryFault}
use Rattle.sqlite.specs.Held.{state}
use Rattle.sqlite_trees.specs.declared.store.Store.{Ghosts}
use Rattle.duty.specs.Plans.{Plan}
use Rattle.command.specs.declared.instruction.Instruction.{Instruction}
use Rattle.command.specs.declared.refusal.Refusal.{Refusal}
use Rattle.command.specs.declared.refusal.Refusal.TheVariants as refusals
use Rattle.stored_json.specs.declared.fault.CodecFault.{CodecFault}
use Rattle.stored_json.specs.declared.fault.CodecFault.TheVariants.{BadCsv}
use Rattle.codec.specs.Requests.{read_request}
use Rattle.codec.specs.Schedule.{IsAtFault, IsSchedule}
use Rattle.roster.specs.Folds as folds
use Rattle.roster.specs.Folds.{Replies, ReplyOrRefusal, import}
use Rattle.roster.specs.Honest.{Honest}
use Rattle.roster.specs.State.{State}
use Rattle.roster.specs.Steps.{step_of}
use Rattle.state_rows.specs.declared.fault.StoreFault.{StoreFault}
use Rattle.state_rows.specs.declared.fault.StoreFault.TheVariants as fault
use Rattle.state_rows.specs.Kept.{IsBookOf}
use Rattle.state_rows.specs.Outcomes.{CrashLeaves}
use Rattle.book.specs.Answered.{IsAnswered}
use Rattle.book.specs.Calls.{HasRead, IsAfterCalls}
use Rattle.book.specs.Kept as kept
use Rattle.book.specs.Kept.{HasTablesOf, IsDurablyAt, IsClean, IsInDoubt, Kept, StillHasTables, result_of}
use Rattle.book.proofs.States.{one_of_either}
use Rattle.part.specs.Shown.{Absence, no_crew, no_pairing}
use Rattle.book.specs.declared.answer.Answer as book
use Rattle.asking.specs.Answers.{IsOrMemory, Reports, ReportsUnread, answer_json, answer_kind, refusal_kind}
use Rattle.asking.specs.Reports.{HasGivenRoster, IsReportAsked, IsShownAs, ReportsShown}
use Rattle.asking.specs.Requests.{HasChecked, IsCheckedAsRead, IsDoneAsRead, IsRequestAsked, IsRequestChecked, ReadRequest, asked_as}
use Rattle.asking.specs.declared.answers.AskFault.{AskFault}
use Rattle.asking.specs.declared.answers.AskFault.TheVariants as ask
use Rattle.asking.specs.declared.answers.JsonAnswer.{JsonAnswer}
use Rattle.asking.specs.declared.reports.Shown.{Shown}
use Rattle.asking.specs.declared.reports.Shown.TheVariants.{Text, NoSuchCrew, NoSuchPairing}
use Rattle.request.specs.declared.form.Form.{Form}
use Rattle.request.specs.declared.subject.Subject.{Subject}
use Rattle.http_message.specs.declared.plan.Submission.TheVariants.{Command, Check, Import}
use Rattle.http_exchange.specs.Handler as http
use Rattle.http_exchange.specs.Handler.{StatusText, submit}
use Rattle.http_exchange.specs.declared.handler.HandlerFault.{HandlerFault}
use Rattle.http_exchange.specs.declared.handler.HandlerFault.TheVariants.{Store, Memory}
use Rattle.web.specs.Acts.{Commands}
use Rattle.web.specs.Answers.{IsInJsonUnder, IsResponseToReport, TellsAnswer, answer_status, command_answer, desk_answer, fault_answer, handler_fault_of, json, parts_answer, refusal_status, report_answer, response_to_command, status_of_kind}
use Rattle.web.specs.Handling.{HoldsWhateverIsAsked, IsHandled, IsLeftByCommands, answers_store_fault}
use Rattle.web.specs.Serving.{StillMeans}

pub or_false : (b : Bool) → b ≡ (b || false)
or_false true = refl
or_false false = refl

-- ---- what is as it was

pub still_honest : {S : Type 0} (g : Ghosts S) (now : Kept S) (s : State) → IsDurablyAt g now s → Honest s → CrashLeaves (state g now.held) Honest
still_honest g now s at honest = record {
  crash = λ clean trees may.
      let left = at.leaves.crash clean trees may in
      (left.0, subst Honest (sym left.1) honest, left.2);
}

-- what is shown is shown as long as the connection is open
still : {S : Type 0} (g : Ghosts S) (now : Kept S) (s : State) → HasTablesOf g now s → StillHasTables g now s
still g now s has = λ clean is_open. (has clean).1

-- and it is open, where it has the tables
pub still_means : {S : Type 0} (g : Ghosts S) (old now : Kept S) (s : State) → HasTablesOf g now s → StillMeans g old now s
still_means g old now s has = (still g now s has, λ clean was_open. inl (has clean).0)

module _ {S : Type 0} (g : Ghosts S) (book : Kept S) where
  pub unasked_kept : (result : Result StatusText HandlerFault) → answers_store_fault result ≡ false → HoldsWhateverIsAsked g book book result
  unasked_kept result none = record {
    failed = or_false book.failed ∙ ap (λ b. book.failed || b) (sym none);
    shut = λ _. refl;
    disk = λ clean. clean;
    honest = λ s at honest. still_honest g book s at honest;
    others_left = record { crash = λ clean trees may. inl may };
    calls = ([], refl);
  }

  -- there was no memory to ask
  pub no_memory : (asked : http.HandlerRequest) → IsHandled g book book asked (Err Memory)
  no_memory asked = record { kept = unasked_kept (Err Memory) refl; shut = λ _. tt; done = λ s at. inl refl }

  -- the page of the desk asks nothing
  pub desk_handled : (told : Result StatusText HandlerFault) → TellsAnswer desk_answer told → IsHandled g book book http.show_desk told
  desk_handled (Ok answer) tells = record {
    kept = unasked_kept (Ok answer) refl;
    shut = λ _. tells;
    done = λ s at. ((λ _. tells), ([], refl, (at, λ tables. tables)));
  }
  desk_handled (Err Store) tells = absurd tells
  desk_handled (Err Memory) tells = no_memory http.show_desk

  -- a body that isn't read asks nothing
  pub command_unread : (body : List ℕ) (fault : CodecFault) (told : Result StatusText HandlerFault) → read_request body ≡ Err fault → TellsAnswer (fault_answer fault) told
      → IsHandled g book book (submit Command body) told
  command_unread body fault (Ok answer) is tells = record {
    kept = unasked_kept (Ok answer) refl;
    shut = λ _. (fault, is, tells);
    done = λ s at. rw is ((λ _. tells), ([], refl, (at, λ tables. tables)));
  }
  command_unread body fault (Err Store) is tells = absurd tells
  command_unread body fault (Err Memory) is tells = no_memory (submit Command body)

  pub check_unread : (body : List ℕ) (fault : CodecFault) (told : Result StatusText HandlerFault) → read_request body ≡ Err fault → TellsAnswer (fault_answer fault) told
      → IsHandled g book book (submit Check body) told
  check_unread body fault (Ok answer) is tells = record {
    kept = unasked_kept (Ok answer) refl;
    shut = λ _. (fault, is, tells);
    done = λ s at. rw is ((λ _. tells), ([], refl, (at, λ tables. tables)));
  }
  check_unread body fault (Err Store) is tells = absurd tells
  check_unread body fault (Err Memory) is tells = no_memory (submit Check body)

  pub schedule_unread : (number : ℕ) (body : List ℕ) (fault : CodecFault) (line : ℕ) (told : Result StatusText HandlerFault) → fault ≡ BadCsv line → IsAtFault body line
      → TellsAnswer (fault_answer fault) told → IsHandled g book book (submit (Import number) body) told
  schedule_unread number body fault line (Ok answer) is at_fault tells = record {
    kept = unasked_kept (Ok answer) refl;
    shut = λ _. (line, at_fault, subst (λ f. answer ≡ fault_answer f) is tells);
    done = λ s at. (
      (λ _. inr (line, at_fault, subst (λ f. answer ≡ fault_answer f) is tells)),
      ([], inr (line, at_fault, refl), (at, λ tables. tables)),
    );
  }
  schedule_unread number body fault line (Err Store) is at_fault tells = absurd tells
  schedule_unread number body fault line (Err Memory) is at_fault tells = no_memory (submit (Import number) body)

-- ---- what is reported of an answer

-- an answer to a command is reported, or its fault
abbrev pub IsToldAs : Result book.Answer StoreFault → Result StatusText HandlerFault → Type 0
IsToldAs (Ok answer) told = TellsAnswer (command_answer (result_of answer)) told
IsToldAs (Err fault) told = told ≡ Err (handler_fault_of (ask.Book fault))

kind_of_refusal : (r : Refusal) → status_of_kind (refusal_kind r) ≡ refusal_status r
kind_of_refusal refusals.NumberUsed = refl
kind_of_refusal refusals.NoSuchCrew = refl
kind_of_refusal refusals.CrewExists = refl
kind_of_refusal refusals.NoSuchPairing = refl
kind_of_refusal refusals.PairingExists = refl
kind_of_refusal refusals.SeatTaken = refl
kind_of_refusal refusals.WrongSeat = refl
kind_of_refusal refusals.NotAssigned = refl
kind_of_refusal refusals.PairingCrewed = refl
kind_of_refusal refusals.Flown = refl
kind_of_refusal refusals.Overlap = refl
kind_of_refusal (refusals.Limits broken) = refl
kind_of_refusal refusals.NoSuchDuty = refl
kind_of_refusal refusals.GroundExists = refl
kind_of_refusal refusals.NoSuchGround = refl
kind_of_refusal (refusals.SegmentCount period) = refl
kind_of_refusal refusals.NoSuchBase = refl
kind_of_refusal refusals.BaseExists = refl
kind_of_refusal refusals.OutsideTaken = refl

status_of : (a : ReplyOrRefusal) → status_of_kind (answer_kind a) ≡ answer_status a
status_of (Ok reply) = refl
status_of (Err refusal) = kind_of_refusal refusal

told_answer : (a : ReplyOrRefusal) (r : Result JsonAnswer AskFault) → IsOrMemory (answer_kind a) (answer_json a) r → TellsAnswer (command_answer a) (response_to_command r)
told_answer a (Ok j) is =
    ap (λ k. json (status_of_kind k) (string_bytes j.text)) is.0
    ∙ ap (λ t. json (status_of_kind (answer_kind a)) t) is.1
    ∙ ap (λ n. json n (answer_json a)) (status_of a)
told_answer a (Err f) is = subst (λ (f : AskFault). TellsAnswer (command_answer a) (Err (handler_fault_of f))) (sym is) tt

told_unread : (fault : CodecFault) (r : Result JsonAnswer AskFault) → ReportsUnread fault r → TellsAnswer (fault_answer fault) (response_to_command r)
told_unread fault (Ok j) is = ap (λ k. json (status_of_kind k) (string_bytes j.text)) is.0 ∙ ap (λ t. json 422 t) is.1
told_unread fault (Err f) is = subst (λ (f : AskFault). TellsAnswer (fault_answer fault) (Err (handler_fault_of f))) (sym is) tt

told_as : (a : Result book.Answer StoreFault) (r : Result JsonAnswer AskFault) → Reports a r → IsToldAs a (response_to_command r)
told_as (Ok answer) r is = told_answer (result_of answer) r is
told_as (Err fault) r is = ap response_to_command is

-- a text in JSON is the answer, or there is none
pub tells_text : (status : ℕ) (r : Result (String Global) MemoryFault) (text : List ℕ) (told : Result StatusText HandlerFault) → IfOk r (λ t. string_bytes t ≡ text) → IsInJsonUnder status r told
    → TellsAnswer (json status text) told
tells_text status (Ok t) text told is tells = subst (TellsAnswer (json status text)) (sym tells) (ap (json status) is)
tells_text status (Err f) text told is tells = subst (TellsAnswer (json status text)) (sym tells) tt

-- ---- what is said of a report

module _ (what : Subject (List ℕ) (List ℕ)) (form : Form) where
  -- the report of a roster is the answer, if there was memory for it
  abbrev IsReported : State → Result StatusText HandlerFault → Type 0
  IsReported s (Ok answer) = (shown : Result (List ℕ) Absence) × IsShownAs form s what shown × (answer ≡ report_answer form shown)
  IsReported s (Err Store) = ⊥
  IsReported s (Err Memory) = ⊤

  -- what a book shows, or its fault
  abbrev IsReportToldAs : Result State StoreFault → Result StatusText HandlerFault → Type 0
  IsReportToldAs (Ok roster) told = IsReported roster told
  IsReportToldAs (Err fault) told = told ≡ Err (handler_fault_of (ask.Book fault))

  report_told : (shown : Result State StoreFault) (r : Result Shown AskFault) (told : Result StatusText HandlerFault) → ReportsShown shown what form r → IsResponseToReport form r told
      → IsReportToldAs shown told
  report_told (Err fault) r told is tells = subst (λ (r : Result Shown AskFault). IsResponseToReport form r told) is tells
  report_told (Ok roster) (Ok (Text text)) told is tells = subst (IsReported roster) (sym tells) (Ok (string_bytes text), is, refl)
  report_told (Ok roster) (Ok NoSuchCrew) (Ok answer) is tells = (Err no_crew, is, tells)
  report_told (Ok roster) (Ok NoSuchCrew) (Err Store) is tells = tells
  report_told (Ok roster) (Ok NoSuchCrew) (Err Memory) is tells = tt
  report_told (Ok roster) (Ok NoSuchPairing) (Ok answer) is tells = (Err no_pairing, is, tells)
  report_told (Ok roster) (Ok NoSuchPairing) (Err Store) is tells = tells
  report_told (Ok roster) (Ok NoSuchPairing) (Err Memory) is tells = tt
  report_told (Ok roster) (Err f) told is tells =
      subst (IsReported roster) (sym (tells ∙ ap (λ (f : AskFault). Err (handler_fault_of f)) is)) tt

-- ---- what was asked of a book

-- there is no answer
abbrev pub IsUnanswered : Result StatusText HandlerFault → Type 0
IsUnanswered (Ok answer) = ⊥
IsUnanswered (Err fault) = ⊤

pub none_answered : {A P : Type 0} (a : A) → ◌≡◌ {A = Result A StoreFault} (Ok a) (Err fault.Store) → P
none_answered a is = absurd cc

module _ {S : Type 0} (g : Ghosts S) (old new : Kept S) where
  -- a command was asked
  abbrev IsAskedIn : State → folds.Asked → Result StatusText HandlerFault → Type 0
  IsAskedIn s asked (Ok answer) =
      (IsClean g new → answer ≡ command_answer (folds.answer_of (step_of s asked.0 asked.1)))
      × (IsDurablyAt g new (folds.next s asked) × (HasTablesOf g old s → HasTablesOf g new (folds.next s asked)))
  IsAskedIn s asked (Err Store) = IsInDoubt g new s (folds.next s asked)
  IsAskedIn s asked (Err Memory) =
      (IsDurablyAt g new s × (HasTablesOf g old s → StillMeans g old new s))
      ⊎ (IsDurablyAt g new (folds.next s asked) × (HasTablesOf g old s → StillMeans g old new (folds.next s asked)))

  -- a command was asked, in whichever state the book was; with what is said whatever is asked
  record IsCommandAsked (asked : folds.Asked) (result : Result StatusText HandlerFault) : Type 0 where
    kept : HoldsWhateverIsAsked g old new result
    shut : IsTrue old.failed → IsUnanswered result
    done : (s : State) → IsDurablyAt g old s → IsAskedIn s asked result

  -- these pairings were added
  abbrev pub AreAddedIn : State → Commands → Result StatusText HandlerFault → Type 0
  AreAddedIn s commands (Ok answer) = (IsClean g new → answer ≡ parts_answer (Replies s commands)) × IsLeftByCommands g old new s commands (Ok answer)
  AreAddedIn s commands (Err fault) = IsLeftByCommands g old new s commands (Err fault)

  -- pairings were added, in whichever state the book was; with what is said whatever is asked
  pub record AreAdded (number : ℕ) (plans : List Plan) (result : Result StatusText HandlerFault) : Type 0 where
    pub kept : HoldsWhateverIsAsked g old new result
    pub shut : IsTrue old.failed → IsUnanswered result
    pub done : (s : State) → IsDurablyAt g old s → AreAddedIn s (import number plans) result

module _ {S : Type 0} (g : Ghosts S) (old new : Kept S) where
  -- ---- commands

  asked_by : (asked : folds.Asked) (r : Result book.Answer StoreFault) (told : Result StatusText HandlerFault) → IsToldAs r told
      → IsAnswered g old new asked r → IsAfterCalls g old new → IsCommandAsked g old new asked told
  asked_by asked (Ok a) (Ok answer) tells it calls = record {
    kept = record { failed = it.failed; shut = λ f. (it.shut f).1; disk = it.disk; honest = it.honest; others_left = it.others_left; calls = calls };
    shut = λ f. none_answered a (it.shut f).0;
    done = λ s at. ((λ c. tells ∙ ap command_answer (it.reply s at c)), (it.answered s at, λ t. it.shown s at t));
  }
  asked_by asked (Ok a) (Err Store) tells it calls = absurd tells
  asked_by asked (Ok a) (Err Memory) tells it calls = record {
    kept = record { failed = it.failed; shut = λ f. (it.shut f).1; disk = it.disk; honest = it.honest; others_left = it.others_left; calls = calls };
    shut = λ _. tt;
    done = λ s at. inr (it.answered s at, λ t. still_means g old new (folds.next s asked) (it.shown s at t));
  }
  asked_by asked (Err fault.Store) told tells it calls =
      subst (IsCommandAsked g old new asked) (sym tells) (record {
        kept = record { failed = it.failed; shut = λ f. (it.shut f).1; disk = it.disk; honest = it.honest; others_left = it.others_left; calls = calls };
        shut = λ _. tt;
        done = λ s at. it.store s at refl;
      })
  asked_by asked (Err fault.Memory) told tells it calls =
      subst (IsCommandAsked g old new asked) (sym tells) (record {
        kept = record { failed = it.failed; shut = λ f. (it.shut f).1; disk = it.disk; honest = it.honest; others_left = it.others_left; calls = calls };
        shut = λ _. tt;
        done = λ s at. inl (it.memory s at refl, λ t. (it.still_shown s at t, it.still_open refl));
      })

  command_read : (body : List ℕ) (number : ℕ) (instruction : Instruction) (told : Result StatusText HandlerFault) → read_request body ≡ Ok (number, instruction)
      → IsCommandAsked g old new (asked_as (number, instruction)) told → IsHandled g old new (submit Command body) told
  command_read body number instruction told is it = go told it
    where
      go : (told : Result StatusText HandlerFault) → IsCommandAsked g old new (asked_as (number, instruction)) told → IsHandled g old new (submit Command body) told
      go (Ok answer) asked = record { kept = asked.kept; shut = λ f. absurd (asked.shut f); done = λ s at. let did = asked.done s at in rw is (did.0, (asked_as (number, instruction) ∷ [], refl, did.1)) }
      go (Err Store) asked = record { kept = asked.kept; shut = λ f. (number, instruction, is); done = λ s at. rw is (asked_as (number, instruction) ∷ [], refl, (0, asked.done s at)) }
      go (Err Memory) asked = record { kept = asked.kept; shut = λ f. tt; done = λ s at. inr (rw is (asked_as (number, instruction) ∷ [], refl, begun s (asked.done s at))) }
        where
          begun : (s : State) → IsAskedIn g old new s (asked_as (number, instruction)) (Err Memory) → IsLeftByCommands g old new s (asked_as (number, instruction) ∷ []) (Err Memory)
          begun s (inl (at, shown)) = (0, at, shown)
          begun s (inr (at, shown)) = (1, at, shown)

  pub request_handled : (body : List ℕ) (r : Result JsonAnswer AskFault) → IsRequestAsked g old new body r → IsAfterCalls g old new
      → IsHandled g old new (submit Command body) (response_to_command r)
  request_handled body r (inr (same, is)) calls =
      subst (λ (r : Result JsonAnswer AskFault). IsHandled g old new (submit Command body) (response_to_command r)) (sym is)
      (subst (λ (b : Kept S). IsHandled g old b (submit Command body) (Err Memory)) (sym same) (no_memory g old (submit Command body)))
  request_handled body r (inl done) calls = go (read_request body) refl done
    where
      go : (read : ReadRequest) → read_request body ≡ read → IsDoneAsRead g old new read r → IsHandled g old new (submit Command body) (response_to_command r)
      go (Ok (number, instruction)) is asked =
          command_read body number instruction (response_to_command r) is
          (asked_by (asked_as (number, instruction)) asked.answer (response_to_command r) (told_as asked.answer r asked.reported) asked.answered calls)
      go (Err fault) is (same, unread) =
          subst (λ (b : Kept S). IsHandled g old b (submit Command body) (response_to_command r)) (sym same)
          (command_unread g old body fault (response_to_command r) is (told_unread fault r unread))

  -- ---- what keeps nothing

  module _ (calls : IsAfterCalls g old new) {A : Type 0} (r : Result A StoreFault) (call : HasRead g old new r) where
    pub kept_so : (told : Result StatusText HandlerFault) → answers_store_fault told ≡ kept.is_store_fault r → HoldsWhateverIsAsked g old new told
    kept_so told same = record {
      failed = call.failed ∙ ap (λ b. old.failed || b) (sym same);
      shut = λ f. (call.shut f).1;
      disk = call.unchanged.nothing_new.disk;
      honest = λ s at honest. still_honest g new s (call.kept s at) honest;
      others_left = record { crash = λ c trees may. inl (call.unchanged.nothing_new.crash c trees may) };
      calls = calls;
    }

    pub shows : (s : State) → HasTablesOf g old s → StillHasTables g new s
    shows s has = λ c is_open.
        let now = call.unchanged.still_shown c is_open in
        subst (IsBookOf s) (sym now.1) (has (call.unchanged.nothing_new.disk c)).1

  -- ---- commands that are only checked

  module _ (calls : IsAfterCalls g old new) (body : List ℕ) (number : ℕ) (instruction : Instruction) (is : read_request body ≡ Ok (number, instruction)) where
    checked_by : (r : Result book.Answer StoreFault) (told : Result StatusText HandlerFault) → IsToldAs r told
        → HasChecked g old new (asked_as (number, instruction)) r → IsHandled g old new (submit Check body) told
    checked_by (Ok a) (Ok answer) tells it = record {
      kept = kept_so calls (Ok a) it.call (Ok answer) refl;
      shut = λ f. none_answered a (it.call.shut f).0;
      done = λ s at. rw is ((λ c. tells ∙ ap command_answer (it.reply s at c)), ([], refl, (it.call.kept s at, λ t. it.tables s at t)));
    }
    checked_by (Ok a) (Err Store) tells it = absurd tells
    checked_by (Ok a) (Err Memory) tells it = record {
      kept = kept_so calls (Ok a) it.call (Err Memory) refl;
      shut = λ _. tt;
      done = λ s at. inr ([], refl, (0, it.call.kept s at, λ t. still_means g old new s (it.tables s at t)));
    }
    checked_by (Err fault.Store) told tells it = subst (IsHandled g old new (submit Check body)) (sym tells) (record {
      kept = kept_so calls (Err fault.Store) it.call (Err Store) refl;
      shut = λ _. (number, instruction, is);
      done = λ s at. ([], refl, (0, one_of_either (state g new.held) s s (it.call.kept s at)));
    })
    checked_by (Err fault.Memory) told tells it = subst (IsHandled g old new (submit Check body)) (sym tells) (record {
      kept = kept_so calls (Err fault.Memory) it.call (Err Memory) refl;
      shut = λ _. tt;
      done = λ s at. inr ([], refl, (0, it.call.kept s at, λ t. (shows calls (Err fault.Memory) it.call s t, it.call.unchanged.still_open)));
    })

  pub check_handled : (body : List ℕ) (r : Result JsonAnswer AskFault) → IsRequestChecked g old new body r → IsAfterCalls g old new
      → IsHandled g old new (submit Check body) (response_to_command r)
  check_handled body r (inr (same, is)) calls =
      subst (λ (r : Result JsonAnswer AskFault). IsHandled g old new (submit Check body) (response_to_command r)) (sym is)
      (subst (λ (b : Kept S). IsHandled g old b (submit Check body) (Err Memory)) (sym same) (no_memory g old (submit Check body)))
  check_handled body r (inl done) calls = go (read_request body) refl done
    where
      go : (read : ReadRequest) → read_request body ≡ read → IsCheckedAsRead g old new read r → IsHandled g old new (submit Check body) (response_to_command r)
      go (Ok (number, instruction)) is checked =
          checked_by calls body number instruction is checked.answer (response_to_command r) (told_as checked.answer r checked.reported) checked.checked
      go (Err fault) is (same, unread) =
          subst (λ (b : Kept S). IsHandled g old b (submit Check body) (response_to_command r)) (sym same)
          (check_unread g old body fault (response_to_command r) is (told_unread fault r unread))

  -- ---- imports

  pub schedule_read : (number : ℕ) (body : List ℕ) (plans : List Plan) (told : Result StatusText HandlerFault) → IsSchedule body plans → AreAdded g old new number plans told
      → IsHandled g old new (submit (Import number) body) told
  schedule_read number body plans (Ok answer) is added = record {
    kept = added.kept;
    shut = λ f. absurd (added.shut f);
    done = λ s at. let did = added.done s at in ((λ c. inl (plans, is, did.0 c)), (import number plans, inl (plans, is, refl), did.1));
  }
  schedule_read number body plans (Err Store) is added = record { kept = added.kept; shut = λ f. (plans, is); done = λ s at. (import number plans, inl (plans, is, refl), added.done s at) }
  schedule_read number body plans (Err Memory) is added = record { kept = added.kept; shut = λ f. tt; done = λ s at. inr (import number plans, inl (plans, is, refl), added.done s at) }

  -- ---- reports

  module _ (about : Subject (List ℕ) (List ℕ)) (form : Form) (calls : IsAfterCalls g old new) where
    reported_by : (r : Result State StoreFault) (told : Result StatusText HandlerFault) → IsReportToldAs about form r told
        → HasGivenRoster g old new about r → IsHandled g old new (http.show about form) told
    reported_by (Ok roster) (Ok answer) tells it = record {
      kept = kept_so calls (Ok roster) it.call (Ok answer) refl;
      shut = λ f. none_answered roster (it.call.shut f).0;
      done = λ s at. (
        (λ c. (tells.0, (it.text s at c form tells.0).0 tells.1, tells.2)),
        ([], refl, (it.call.kept s at, λ t. it.tables s at t)),
      );
    }
    reported_by (Ok roster) (Err Store) tells it = absurd tells
    reported_by (Ok roster) (Err Memory) tells it = record {
      kept = kept_so calls (Ok roster) it.call (Err Memory) refl;
      shut = λ _. tt;
      done = λ s at. inr ([], refl, (0, it.call.kept s at, λ t. still_means g old new s (it.tables s at t)));
    }
    reported_by (Err fault.Store) told tells it = subst (IsHandled g old new (http.show about form)) (sym tells) (record {
      kept = kept_so calls (Err fault.Store) it.call (Err Store) refl;
      shut = λ _. tt;
      done = λ s at. ([], refl, (0, one_of_either (state g new.held) s s (it.call.kept s at)));
    })
    reported_by (Err fault.Memory) told tells it = subst (IsHandled g old new (http.show about form)) (sym tells) (record {
      kept = kept_so calls (Err fault.Memory) it.call (Err Memory) refl;
      shut = λ _. tt;
      done = λ s at. inr ([], refl, (0, it.call.kept s at, λ t. (shows calls (Err fault.Memory) it.call s t, it.call.unchanged.still_open)));
    })

    pub report_handled : (r : Result Shown AskFault) (told : Result StatusText HandlerFault) → IsReportAsked g old new about form r → IsResponseToReport form r told
        → IsHandled g old new (http.show about form) told
    report_handled r told (inl asked) tells = reported_by asked.shown told (report_told about form asked.shown r told asked.reported tells) asked.has_shown
    report_handled r told (inr (same, is)) tells =
        let memory : told ≡ Err Memory = subst (λ (r : Result Shown AskFault). IsResponseToReport form r told) is tells in
        subst (λ (b : Kept S). IsHandled g old b (http.show about form) told) (sym same)
        (subst (IsHandled g old old (http.show about form)) (sym memory) (no_memory g old (http.show about form)))
