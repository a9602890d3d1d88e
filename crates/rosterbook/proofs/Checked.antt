-- A request that is only checked: the book is as it was, also where there is no answer.
use Rattle.std.proofs.Common.{◌≡◌, inl, inr, refl, ap, sym, subst, ℕ, List, Result, Ok, Err}
use Rattle.sqlite_trees.specs.declared.store.Store.{Ghosts}
use Rattle.codec.specs.Requests.{read_request}
use Rattle.command.specs.declared.instruction.Instruction.{Instruction}
use Rattle.roster.specs.State.{State}
use Rattle.state_rows.specs.declared.fault.StoreFault.{StoreFault}
use Rattle.book.specs.Kept.{IsDurablyAt, Kept}
use Rattle.book.specs.declared.answer.Answer.{Answer}
use Rattle.asking.specs.Answers.{Reports}
use Rattle.asking.specs.Requests.{HasChecked, IsCheckedAsRead, IsRequestChecked, ReadRequest, asked_as}
use Rattle.asking.specs.declared.answers.AskFault.{AskFault}
use Rattle.asking.specs.declared.answers.AskFault.TheVariants as ask
use Rattle.asking.specs.declared.answers.JsonAnswer.{JsonAnswer}
use Rattle.http_exchange.specs.Exchange.{ChannelBytes}
use Rattle.rosterbook.specs.Asking.{IsBodyUntold, stop_of}
use Rattle.rosterbook.specs.Showing.{IsShowStopped}
use Rattle.rosterbook.specs.declared.stop.Stop.{Stop}
use Rattle.rosterbook.proofs.Showing.{not_of_book}
use Rattle.rosterbook.proofs.Stopping.{has_failed}

module _ {S : Type 0} (g : Ghosts S) (old new : Kept S) where
  kept_as_read : (r : Result JsonAnswer AskFault) (request : ReadRequest) → IsCheckedAsRead g old new request r → (s : State) → IsDurablyAt g old s → IsDurablyAt g new s
  kept_as_read r (Ok asked) it s at = it.checked.call.kept s at
  kept_as_read r (Err fault) it s at = subst (λ (b : Kept S). IsDurablyAt g b s) (sym it.0) at

  pub check_kept : (body : List ℕ) (r : Result JsonAnswer AskFault) → IsRequestChecked g old new body r → (s : State) → IsDurablyAt g old s → IsDurablyAt g new s
  check_kept body r (inl done) s at = kept_as_read r (read_request body) done s at
  check_kept body r (inr (same, is)) s at = subst (λ (b : Kept S). IsDurablyAt g b s) (sym same) at

  module _ (out : ChannelBytes) (fault : AskFault) where
    for_memory : fault ≡ ask.Memory → IsShowStopped new out out (stop_of fault)
    for_memory memory = not_of_book new out out (stop_of fault) (inl (ap stop_of memory))

    command_stopped : (asked : ℕ × Instruction) (answered : Result Answer StoreFault) → HasChecked g old new (asked_as asked) answered → Reports answered (Err fault) → IsShowStopped new out out (stop_of fault)
    command_stopped asked (Ok answer) has memory = for_memory memory
    command_stopped asked (Err met) has is =
        let at_book : fault ≡ ask.Book met = cc in
        subst (λ f. IsShowStopped new out out (stop_of f)) (sym at_book) (record {
          told = inl (met, refl);
          silent = λ _. refl;
          failed = has_failed Answer met old.failed new.failed has.call.failed;
        })

    stopped_as_read : (request : ReadRequest) → IsCheckedAsRead g old new request (Err fault) → IsShowStopped new out out (stop_of fault)
    stopped_as_read (Ok asked) it = command_stopped asked it.answer it.checked it.reported
    stopped_as_read (Err unread) (same, memory) = for_memory memory

    pub check_stopped : (body : List ℕ) → IsRequestChecked g old new body (Err fault) → IsShowStopped new out out (stop_of fault)
    check_stopped body (inl done) = stopped_as_read (read_request body) done
    check_stopped body (inr (same, is)) = for_memory (let memory : fault ≡ ask.Memory = cc in memory)

  -- a body that has no answer, or whose answer was not written
  pub body_stopped : (out out' : ChannelBytes) (body : List ℕ) (stop : Stop) → IsBodyUntold (IsRequestChecked g old new body) out out' stop → IsShowStopped new out out' stop
  body_stopped out out' body stop (inl (fault, asked, is, silent)) =
      subst (IsShowStopped new out out') (sym is) (subst (λ (o : ChannelBytes). IsShowStopped new out o (stop_of fault)) (sym silent) (check_stopped out fault body asked))
  body_stopped out out' body stop (inr (answer, asked, which)) = not_of_book new out out' stop which
