-- Where the program stops among the commands that it asks.
use Rattle.std.proofs.Common.{◌≡◌, inl, inr, ◌<◌, ◌≤◌, ℕ, ◌||◌, true, false, Bool, List, [], ◌∷◌, length, take, refl, ap, sym, subst, arith, Result, Ok, Err, IfErr, IsErrAnd, IsTrue}
use Rattle.sqlite_trees.specs.declared.store.Store.{Ghosts}
use Rattle.command.specs.declared.instruction.Instruction.{Instruction}
use Rattle.state_rows.specs.declared.fault.StoreFault.{StoreFault}
use Rattle.state_rows.specs.declared.fault.StoreFault.TheVariants.{Store, Memory}
use Rattle.codec.specs.Requests.{read_request}
use Rattle.roster.specs.Folds.{Asked, Fold, Replies, next}
use Rattle.roster.specs.State.{State}
use Rattle.book.specs.Answered.{IsAnswered}
use Rattle.book.specs.Kept.{IsDurablyAt, IsClean, IsInDoubt, Kept, is_store_fault, result_of}
use Rattle.book.specs.declared.answer.Answer.{Answer}
use Rattle.roster.specs.Folds.{ReplyOrRefusal}
use Rattle.asking.specs.Answers.{Reports}
use Rattle.asking.specs.Requests.{IsDoneAsRead, IsRequestAsked, ReadRequest, asked_as}
use Rattle.asking.specs.declared.answers.AskFault.{AskFault}
use Rattle.asking.specs.declared.answers.AskFault.TheVariants as ask
use Rattle.asking.specs.declared.answers.JsonAnswer.{JsonAnswer}
use Rattle.rosterbook.specs.Asking.{Answers, IsAskStopped, IsBodyUntold, IsLeftAfterAnswers, IsBookFault, IsStoppedIn, left_by_request, stop_of}
use Rattle.asking.specs.Lines.{asked_by_request}
use Rattle.http_exchange.specs.Exchange.{ChannelBytes}
use Rattle.rosterbook.specs.Streams.{IsOfChannel, ReadsInput}
use Rattle.rosterbook.specs.declared.stop.Stop.{Stop}
use Rattle.rosterbook.specs.declared.stop.Stop.TheVariants as stops
use Rattle.rosterbook.specs.declared.stop.Stop.TheVariants.{Book}
use Rattle.rosterbook.proofs.Answering.{request_told}
use Rattle.rosterbook.proofs.CleanBefore.{clean_before_request, clean_before_same}

-- a reader or a writer doesn't fail as the book does
pub no_fault_of_book : (stop : Stop) → IsOfChannel stop → IsBookFault stop → ⊥
no_fault_of_book stop (inl memory) (fault, is) = absurd (cc)
no_fault_of_book stop (inr channel) (fault, is) = absurd (cc)

-- ---- Among commands

or_true : (b : Bool) → IsTrue (b || true)
or_true true = refl
or_true false = refl

-- the book has failed where the store has
pub has_failed : (A : Type 0) (fault : StoreFault) (was is : Bool) → is ≡ (was || is_store_fault {A = A} (Err fault)) → Book fault ≡ Book Store → IsTrue is
has_failed A Store was is failed at_store = rw failed (or_true was)
has_failed A Memory was is failed at_store = absurd (cc)

module _ {S : Type 0} (g : Ghosts S) (old new : Kept S) where
  -- no line was written of the last answer
  pub untold : (asked : List Asked) (count : ℕ) (answers : List ReplyOrRefusal) (stop : Stop) → IsOfChannel stop → count ≤ length asked → length answers ≡ count → (IsClean g new → IsClean g old) →
      ((s : State) → IsDurablyAt g old s → IsClean g new → answers ≡ take count (Replies s asked)) →
      ((s : State) → IsDurablyAt g old s → IsDurablyAt g new (Fold s (take count asked))) →
      IsStoppedIn g old new asked answers stop
  untold asked count answers stop (inl is) within each clean answered left = subst (IsStoppedIn g old new asked answers) (sym is) (record {
    told = inr (inl refl);
    few = omega (arith, each, within);
    unanswered = λ no. absurd (no_fault_of_book stops.Memory (inl refl) no);
    failed = λ no. absurd (cc);
    disk = clean;
    answered = λ s at clean. rw each (answered s at clean);
    left = λ s at. rw each (left s at);
  })
  untold asked count answers stop (inr is) within each clean answered left = subst (IsStoppedIn g old new asked answers) (sym is) (record {
    told = inr (inr refl);
    few = omega (arith, each, within);
    unanswered = λ no. absurd (no_fault_of_book stops.Channel (inr refl) no);
    failed = λ no. absurd (cc);
    disk = clean;
    answered = λ s at clean. rw each (answered s at clean);
    left = λ s at. rw each (left s at);
  })

  left_at : (fault : StoreFault) (s : State) (a : Asked) → (fault ≡ Memory → IsDurablyAt g new s) → (fault ≡ Store → IsInDoubt g new s (next s a)) → IsLeftAfterAnswers g new s (a ∷ []) 0 (Book fault)
  left_at Store s a memory store = store refl
  left_at Memory s a memory store = memory refl

  -- a command met a fault
  unanswered : (a : Asked) (fault : StoreFault) → IsAnswered g old new a (Err fault) → IsStoppedIn g old new (a ∷ []) [] (Book fault)
  unanswered a fault it = record {
    told = inl (fault, refl);
    few = omega arith;
    unanswered = λ is. omega arith;
    failed = has_failed Answer fault old.failed new.failed it.failed;
    disk = it.disk;
    answered = λ s at clean. refl;
    left = λ s at. left_at fault s a (λ which. it.memory s at (ap Err which)) (λ which. it.store s at (ap Err which));
  }

-- what is known of the fault of a call, by which another is returned
pub err_told : {A E : Type 0} (r : Result A E) (P Q : E → Type 0) → IsErrAnd r P → ((e : E) → P e → Q e) → IfErr r Q
err_told (Ok a) P Q it weaker = tt
err_told (Err e) P Q it weaker = weaker e it

-- ---- `do`

-- a command has no answer
module _ {S : Type 0} (g : Ghosts S) (old new : Kept S) where
  abbrev pub IsStoppedAt : ReadRequest → AskFault → Type 0
  IsStoppedAt request fault = (answers : List ReplyOrRefusal) × IsStoppedIn g old new (asked_by_request request) answers (stop_of fault)

  pub command_stopped : (asked : ℕ × Instruction) (answered : Result Answer StoreFault) (fault : AskFault) → IsAnswered g old new (asked_as asked) answered → Reports answered (Err fault)
      → IsStoppedAt (Ok asked) fault
  command_stopped (number, instruction) (Ok answer) fault is memory =
      let asked = asked_as (number, instruction) in (
        result_of answer ∷ [],
        subst (λ f. IsStoppedIn g old new (asked ∷ []) (result_of answer ∷ []) (stop_of f)) (sym memory)
            (untold g old new (asked ∷ []) 1 (result_of answer ∷ []) stops.Memory (inl refl) (omega arith) refl is.disk
            (λ s at clean. ap (λ a. a ∷ []) (is.reply s at clean)) (λ s at. is.answered s at)),
      )
  command_stopped (number, instruction) (Err met) fault is same =
      let asked = asked_as (number, instruction) in
      let at_book : fault ≡ ask.Book met = cc in (
        [],
        subst (λ f. IsStoppedIn g old new (asked ∷ []) [] (stop_of f)) (sym at_book) (unanswered g old new asked met is),
      )

-- the request of a body has no answer
module _ {S : Type 0} (g : Ghosts S) (old new : Kept S) (held out : ChannelBytes) (input : List ℕ) (read : ReadsInput held input) where
  unasked : (fault : AskFault) → fault ≡ ask.Memory → new ≡ old → IsAskStopped g old new held out out (stop_of fault)
  unasked fault memory same = inl (record { unchanged = same; silent = refl; told = inl (ap stop_of memory) })

  read_stopped : (request : ReadRequest) → read_request input ≡ request → (fault : AskFault) → IsDoneAsRead g old new request (Err fault) → IsAskStopped g old new held out out (stop_of fault)
  read_stopped (Ok asked) is fault it =
      let stopped = subst (λ r. IsStoppedAt g old new r fault) (sym is) (command_stopped g old new asked it.answer fault it.answered it.reported) in
      inr (input, stopped.0, read, stopped.1, λ _. refl)
  read_stopped (Err unread) is fault (same, memory) = unasked fault memory same

  pub request_stopped : (fault : AskFault) → IsRequestAsked g old new input (Err fault) → IsAskStopped g old new held out out (stop_of fault)
  request_stopped fault (inr (same, is)) = unasked fault (let memory : fault ≡ ask.Memory = cc in memory) same
  request_stopped fault (inl done) = read_stopped (read_request input) refl fault done

-- the answer was not written
pub answer_untold : {S : Type 0} (g : Ghosts S) (old new : Kept S) (request : ReadRequest) (answer : ReplyOrRefusal) (stop : Stop) → IsOfChannel stop →
    ((s : State) → IsDurablyAt g old s → IsClean g new → Answers s request answer) →
    ((s : State) → IsDurablyAt g old s → IsDurablyAt g new (left_by_request s request)) →
    (answers : List ReplyOrRefusal) × IsStoppedIn g old new (asked_by_request request) answers stop × (length answers < length (asked_by_request request) → ⊥)
answer_untold g old new (Ok asked) answer stop which answered left = (answer ∷ [], untold g old new (asked_by_request (Ok asked)) 1 (answer ∷ []) stop which (omega arith) refl (clean_before_request g old new (Ok asked) left) answered left, λ fewer. absurd (omega (arith, fewer)))
answer_untold g old new (Err fault) answer stop which answered left = ([], untold g old new [] 0 [] stop which (omega arith) refl (clean_before_same g old new left) (λ s at is_clean. refl) left, λ fewer. absurd (omega (arith, fewer)))

pub asked_untold : {S : Type 0} (g : Ghosts S) (old new : Kept S) (held out out' : ChannelBytes) (input : List ℕ) (told : JsonAnswer) (stop : Stop) → IsOfChannel stop → ReadsInput held input →
    IsRequestAsked g old new input (Ok told) → IsAskStopped g old new held out out' stop
asked_untold g old new held out out' input told stop which read asked =
    let was = request_told g old new input told asked in
    let it = answer_untold g old new (read_request input) was.0 stop which was.2 was.3 in
    inr (input, it.0, read, it.1, λ fewer. absurd (it.2 fewer))

-- a body that was read has no answer, or its line was not written
pub body_stopped : {S : Type 0} (g : Ghosts S) (old new : Kept S) (held out out' : ChannelBytes) (body : List ℕ) (stop : Stop) → ReadsInput held body →
    IsBodyUntold (IsRequestAsked g old new body) out out' stop → IsAskStopped g old new held out out' stop
body_stopped g old new held out out' body stop read (inl (fault, asked, is, silent)) =
    subst (IsAskStopped g old new held out out') (sym is)
    (subst (λ (o : ChannelBytes). IsAskStopped g old new held out o (stop_of fault)) (sym silent) (request_stopped g old new held out body read fault asked))
body_stopped g old new held out out' body stop read (inr (answer, asked, which)) = asked_untold g old new held out out' body answer stop which read asked
