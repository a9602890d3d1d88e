-- Requests of lines that were answered so far, up to one more.
use Rattle.std.proofs.Common.{◌≡◌, ◌∙◌, ◌<◌, ◌≤◌, inl, inr, refl, sym, ap, subst, arith, ℕ, ◌+◌, List, [], ◌∷◌, ◌++◌, append-nil, length, length-append, take, fold, Ok, Err}
use Rattle.std.proofs.Math.Seq.{take-append-add}
use Rattle.std.proofs.lemmas.Grind.{flat_map-append}
use Rattle.std.proofs.lemmas.List.{map-append}
use Rattle.std.proofs.lemmas.List.Sums.{fold-append}
use Rattle.std.specs.Io.KnownBytes.{Appends}
use Rattle.sqlite_trees.specs.declared.store.Store.{Ghosts}
use Rattle.codec.specs.Requests.{read_request}
use Rattle.roster.specs.Folds.{Asked, Fold, Replies, ReplyOrRefusal}
use Rattle.roster.specs.State.{State}
use Rattle.state_rows.specs.declared.fault.StoreFault.TheVariants as faults
use Rattle.book.specs.Kept.{IsClean, IsDurablyAt, IsInDoubt, Kept}
use Rattle.book.proofs.CommandLists.{fold_append, replies_append}
use Rattle.asking.proofs.LinesTaken.{commands_both, told_both}
use Rattle.asking.specs.Lines.{Told, asked_by_request, commands_in, requests_of, told_of, told_text}
use Rattle.asking.specs.Requests.{IsDoneAsRead, IsRequestAsked, ReadRequest}
use Rattle.asking.specs.declared.answers.AskFault.{AskFault}
use Rattle.asking.specs.declared.answers.AskFault.TheVariants as ask
use Rattle.http_exchange.specs.Exchange.{ChannelBytes}
use Rattle.rosterbook.specs.Asking.{IsBodyTold, IsBodyUntold, IsLeftAfterAnswers, IsStoppedIn, left_by_request, status_of_answer, stop_of}
use Rattle.rosterbook.specs.InLines.{AreRequestsAnswered, AreRequestsTold, AreStoppedAtLast, printed_of, status_after, status_of_told, told_status}
use Rattle.rosterbook.specs.Streams.{line_end}
use Rattle.rosterbook.specs.declared.status.Status.{Status}
use Rattle.rosterbook.specs.declared.status.Status.TheVariants.{Done, Refused}
use Rattle.rosterbook.specs.declared.stop.Stop.{Stop}
use Rattle.rosterbook.specs.declared.stop.Stop.TheVariants.{Load, Book, Memory, Channel, Network}
use Rattle.rosterbook.proofs.Answering.{IsRequestTold, request_told}
use Rattle.rosterbook.proofs.CleanBefore.{clean_before_all}
use Rattle.rosterbook.proofs.PartsAdded.{appends_both}
use Rattle.rosterbook.proofs.RefusalLemmas.{appends_nothing}
use Rattle.rosterbook.proofs.Stopping.{answer_untold, command_stopped, untold}

-- ---- What is reported of two lists of requests, one after the other

after_both : (first second third : Status) → status_after (status_after first second) third ≡ status_after first (status_after (status_after Done second) third)
after_both first second Refused = refl
after_both first Refused third = refl
after_both first second third = refl

status_from : (status : Status) (told : List Told) → fold (λ s one. status_after s (told_status one)) status told ≡ status_after status (status_of_told told)
status_from status [] = refl
status_from status (one ∷ told) =
    status_from (status_after status (told_status one)) told
    ∙ after_both status (told_status one) (status_of_told told)
    ∙ ap (status_after status) (sym (status_from (status_after Done (told_status one)) told))

status_both : (told more : List Told) → status_of_told (told ++ more) ≡ status_after (status_of_told told) (status_of_told more)
status_both told more = fold-append (λ s one. status_after s (told_status one)) Done told more ∙ status_from (status_of_told told) more

printed_both : (requests more : List ReadRequest) (answers others : List ReplyOrRefusal) → length answers ≡ length (commands_in requests) →
    printed_of (told_of (requests ++ more) (answers ++ others)) ≡ printed_of (told_of requests answers) ++ printed_of (told_of more others)
printed_both requests more answers others each =
    ap printed_of (told_both requests more answers others each) ∙ flat_map-append (λ one. told_text one ++ line_end) (told_of requests answers) (told_of more others)

-- requests were reported, and others then
pub told_then : (out out_mid out' : ChannelBytes) (requests more : List ReadRequest) (answers others : List ReplyOrRefusal) (status next : Status) →
    AreRequestsTold requests answers status out out_mid → AreRequestsTold more others next out_mid out' →
    AreRequestsTold (requests ++ more) (answers ++ others) (status_after status next) out out'
told_then out out_mid out' requests more answers others status next first second = record {
  each =
      let both = commands_both requests more in
      omega (arith, length-append answers others, length-append (commands_in requests) (commands_in more), ap length both, first.each, second.each);
  printed = subst (Appends out out') (sym (printed_both requests more answers others first.each)) (appends_both out out_mid out' _ _ first.printed second.printed);
  ends =
      ap (λ t. status_after t next) first.ends
      ∙ ap (status_after (status_of_told (told_of requests answers))) second.ends
      ∙ sym (status_both (told_of requests answers) (told_of more others))
      ∙ sym (ap status_of_told (told_both requests more answers others first.each));
}

-- ---- Of a book

module _ {S : Type 0} (g : Ghosts S) where
  pub none_answered : (book : Kept S) (out : ChannelBytes) → AreRequestsAnswered g book book out out [] Done
  none_answered book out = record {
    answers = [];
    told = record { each = refl; printed = appends_nothing out; ends = refl };
    answered = λ s at clean. refl;
    left = λ s at. at;
  }

  -- ---- What is left after two lists of commands, one after the other

  module _ (new : Kept S) (s : State) (asked more : List Asked) where
    fold_taken : (n : ℕ) → Fold s (take (length asked + n) (asked ++ more)) ≡ Fold (Fold s asked) (take n more)
    fold_taken n = ap (Fold s) (take-append-add asked more n) ∙ fold_append s asked (take n more)

    fold_taken_more : (n : ℕ) → Fold s (take (length asked + n + 1) (asked ++ more)) ≡ Fold (Fold s asked) (take (n + 1) more)
    fold_taken_more n =
        let same : length asked + n + 1 ≡ length asked + (n + 1) = omega arith in
        ap (λ k. Fold s (take k (asked ++ more))) same ∙ fold_taken (n + 1)

    at_both : (n : ℕ) → IsDurablyAt g new (Fold (Fold s asked) (take n more)) → IsDurablyAt g new (Fold s (take (length asked + n) (asked ++ more)))
    at_both n at = subst (IsDurablyAt g new) (sym (fold_taken n)) at

    left_both : (n : ℕ) (stop : Stop) → IsLeftAfterAnswers g new (Fold s asked) more n stop → IsLeftAfterAnswers g new s (asked ++ more) (length asked + n) stop
    left_both n (Load fault) at = at_both n at
    left_both n (Book faults.Store) doubt =
        subst (λ t. IsInDoubt g new t (Fold s (take (length asked + n + 1) (asked ++ more)))) (sym (fold_taken n))
        (subst (IsInDoubt g new (Fold (Fold s asked) (take n more))) (sym (fold_taken_more n)) doubt)
    left_both n (Book faults.Memory) at = at_both n at
    left_both n Memory at = at_both n at
    left_both n Channel at = at_both n at
    left_both n Network at = at_both n at

  replies_both : (s : State) (asked more : List Asked) (answers others : List ReplyOrRefusal) → answers ≡ Replies s asked → others ≡ take (length others) (Replies (Fold s asked) more) →
      answers ++ others ≡ take (length (answers ++ others)) (Replies s (asked ++ more))
  replies_both s asked more answers others first second =
      let after = Replies (Fold s asked) more in
      ap (λ l. answers ++ l) second
      ∙ sym (take-append-add answers after (length others))
      ∙ ap (λ n. take n (answers ++ after)) (sym (length-append answers others))
      ∙ ap (λ l. take (length (answers ++ others)) (l ++ after)) first
      ∙ ap (take (length (answers ++ others))) (sym (replies_append s asked more))

  module _ (old mid new : Kept S) (out out_mid out' : ChannelBytes) (requests more : List ReadRequest) (status : Status) (first : AreRequestsAnswered g old mid out out_mid requests status) where
    abbrev asked : List Asked
    asked = commands_in requests

    abbrev others : List Asked
    others = commands_in more

    was_clean : IsClean g mid → IsClean g old
    was_clean = clean_before_all g old mid asked first.left

    -- ---- The others were answered too

    module _ (next : Status) (second : AreRequestsAnswered g mid new out_mid out' more next) where
      both_answered : AreRequestsAnswered g old new out out' (requests ++ more) (status_after status next)
      both_answered = record {
        answers = first.answers ++ second.answers;
        told = told_then out out_mid out' requests more first.answers second.answers status next first.told second.told;
        answered = λ s at clean.
            let is_clean = clean_before_all g mid new others second.left clean in
            ap (λ l. l ++ second.answers) (first.answered s at is_clean)
            ∙ ap (λ l. Replies s asked ++ l) (second.answered (Fold s asked) (first.left s at) clean)
            ∙ sym (replies_append s asked others)
            ∙ ap (Replies s) (sym (commands_both requests more));
        left = λ s at.
            subst (λ l. IsDurablyAt g new (Fold s l)) (sym (commands_both requests more))
            (subst (IsDurablyAt g new) (sym (fold_append s asked others)) (second.left (Fold s asked) (first.left s at)));
      }

    -- ---- The program stopped at the last of the others

    module _ (stop : Stop) (second : AreStoppedAtLast g mid new out_mid out' more stop) where
      stopped_in : IsStoppedIn g old new (asked ++ others) (first.answers ++ second.answers) stop
      stopped_in =
          let it = second.asked in
          let answers = length-append first.answers second.answers in
          let commands = length-append asked others in
          let each = first.told.each in
          record {
            told = it.told;
            few = omega (arith, answers, commands, each, it.few);
            unanswered = λ is. omega (arith, answers, commands, each, it.unanswered is);
            failed = it.failed;
            disk = λ clean. was_clean (it.disk clean);
            answered = λ s at clean.
                replies_both s asked others first.answers second.answers (first.answered s at (it.disk clean)) (it.answered (Fold s asked) (first.left s at) clean);
            left = λ s at.
                let same : length asked + length second.answers ≡ length (first.answers ++ second.answers) = omega (arith, answers, each) in
                subst (λ n. IsLeftAfterAnswers g new s (asked ++ others) n stop) same
                (left_both new s asked others (length second.answers) stop (it.left (Fold s asked) (first.left s at)));
          }

      stopped_then : AreStoppedAtLast g old new out out' (requests ++ more) stop
      stopped_then =
          let answers = length-append first.answers second.answers in
          let commands = length-append asked others in
          let both = ap length (commands_both requests more) in
          let each = first.told.each in
          record {
            answers = first.answers ++ second.answers;
            asked = subst (λ l. IsStoppedIn g old new l (first.answers ++ second.answers) stop) (sym (commands_both requests more)) stopped_in;
            at_last = omega (arith, answers, commands, both, each, second.at_last);
            printed = λ fewer.
                subst (Appends out out') (sym (printed_both requests more first.answers second.answers each))
                (appends_both out out_mid out' _ _ first.told.printed (second.printed (omega (arith, answers, commands, both, each, fewer))));
          }

-- ---- Of lines

module _ {S : Type 0} (g : Ghosts S) (old mid new : Kept S) (out out_mid out' : ChannelBytes) (lines more : List (List ℕ)) (status : Status)
    (first : AreRequestsAnswered g old mid out out_mid (requests_of lines) status) where
  pub lines_answered : (next last : Status) → AreRequestsAnswered g mid new out_mid out' (requests_of more) next → last ≡ status_after status next →
      AreRequestsAnswered g old new out out' (requests_of (lines ++ more)) last
  lines_answered next last second is =
      subst (AreRequestsAnswered g old new out out' (requests_of (lines ++ more))) (sym is)
      (subst (λ r. AreRequestsAnswered g old new out out' r (status_after status next)) (sym (map-append read_request lines more))
      (both_answered g old mid new out out_mid out' (requests_of lines) (requests_of more) status first next second))

  pub lines_stopped : (stop : Stop) → AreStoppedAtLast g mid new out_mid out' (requests_of more) stop → AreStoppedAtLast g old new out out' (requests_of (lines ++ more)) stop
  lines_stopped stop second =
      subst (λ r. AreStoppedAtLast g old new out out' r stop) (sym (map-append read_request lines more))
      (stopped_then g old mid new out out_mid out' (requests_of lines) (requests_of more) status first stop second)

-- ---- One request

module _ {S : Type 0} (g : Ghosts S) (old new : Kept S) (out out' : ChannelBytes) where
  pub answer_ends : (answer : ReplyOrRefusal) → status_of_answer answer ≡ status_after Done (status_of_answer answer)
  answer_ends (Ok reply) = refl
  answer_ends (Err refusal) = refl

  pub one_printed : (told : Status × List ℕ) (is : Told) → told ≡ (told_status is, told_text is) → Appends out out' (told.1 ++ line_end) → Appends out out' (printed_of (is ∷ []))
  one_printed told is same printed =
      subst (Appends out out') (sym (append-nil (told_text is ++ line_end))) (subst (λ (t : Status × List ℕ). Appends out out' (t.1 ++ line_end)) same printed)

  one_answered : (request : ReadRequest) (told : Status × List ℕ) (status : Status) → IsRequestTold g old new left_by_request told request → status ≡ told.0 → Appends out out' (told.1 ++ line_end) →
      AreRequestsAnswered g old new out out' (request ∷ []) status
  one_answered (Ok asked) told status (answer, is, answered, left) ends printed = record {
    answers = answer ∷ [];
    told = record {
      each = refl;
      printed = one_printed told (Ok answer) is printed;
      ends = ends ∙ ap (λ (t : Status × List ℕ). t.0) is ∙ answer_ends answer;
    };
    answered = answered;
    left = left;
  }
  one_answered (Err fault) told status (answer, is, answered, left) ends printed = record {
    answers = [];
    told = record {
      each = refl;
      printed = one_printed told (Err fault) is printed;
      ends = ends ∙ ap (λ (t : Status × List ℕ). t.0) is;
    };
    answered = λ s at clean. refl;
    left = left;
  }

  pub body_answered : (body : List ℕ) (status : Status) → IsBodyTold (IsRequestAsked g old new body) out out' status → AreRequestsAnswered g old new out out' (read_request body ∷ []) status
  body_answered body status it = one_answered (read_request body) _ status (request_told g old new body it.answer it.asked) it.ends it.printed

  -- nothing is reported of one that has no answer
  nothing_told : (request : ReadRequest) (answers : List ReplyOrRefusal) → out' ≡ out → length answers < length (commands_in (request ∷ [])) →
      Appends out out' (printed_of (told_of (request ∷ []) answers))
  nothing_told (Ok asked) [] silent fewer = subst (λ o. Appends out o []) (sym silent) (appends_nothing out)
  nothing_told (Ok asked) (answer ∷ answers) silent fewer = absurd (omega (arith, fewer))
  nothing_told (Err fault) answers silent fewer = absurd (omega (arith, fewer))

  at_most_one : (request : ReadRequest) → length (commands_in (request ∷ [])) ≤ 1
  at_most_one (Ok asked) = omega arith
  at_most_one (Err fault) = omega arith

  -- it was asked nothing
  one_unasked : (request : ReadRequest) → new ≡ old → out' ≡ out → AreStoppedAtLast g old new out out' (request ∷ []) Memory
  one_unasked request same silent = record {
    answers = [];
    asked = untold g old new (commands_in (request ∷ [])) 0 [] Memory (inl refl) (omega arith) refl
        (λ clean. subst (IsClean g) same clean) (λ s at clean. refl) (λ s at. subst (λ (b : Kept S). IsDurablyAt g b s) (sym same) at);
    at_last = omega (arith, at_most_one request);
    printed = λ fewer. nothing_told request [] silent fewer;
  }

  -- it has no answer
  one_unanswered : (request : ReadRequest) (fault : AskFault) → IsDoneAsRead g old new request (Err fault) → out' ≡ out → AreStoppedAtLast g old new out out' (request ∷ []) (stop_of fault)
  one_unanswered (Ok asked) fault it silent =
      let stopped = command_stopped g old new asked it.answer fault it.answered it.reported in
      record { answers = stopped.0; asked = stopped.1; at_last = omega arith; printed = λ fewer. nothing_told (Ok asked) stopped.0 silent fewer }
  one_unanswered (Err unread) fault (same, memory) silent = subst (λ f. AreStoppedAtLast g old new out out' (Err unread ∷ []) (stop_of f)) (sym memory) (one_unasked (Err unread) same silent)

  -- its line was not written
  one_unwritten : (request : ReadRequest) (answers : List ReplyOrRefusal) (stop : Stop) → IsStoppedIn g old new (asked_by_request request) answers stop →
      (length answers < length (asked_by_request request) → ⊥) → AreStoppedAtLast g old new out out' (request ∷ []) stop
  one_unwritten (Ok asked) answers stop it whole = record { answers = answers; asked = it; at_last = omega arith; printed = λ fewer. absurd (whole fewer) }
  one_unwritten (Err fault) answers stop it whole = record { answers = answers; asked = it; at_last = omega arith; printed = λ fewer. absurd (whole fewer) }

  pub body_stopped : (body : List ℕ) (stop : Stop) → IsBodyUntold (IsRequestAsked g old new body) out out' stop → AreStoppedAtLast g old new out out' (read_request body ∷ []) stop
  body_stopped body stop (inl (fault, inl done, is, silent)) =
      subst (AreStoppedAtLast g old new out out' (read_request body ∷ [])) (sym is) (one_unanswered (read_request body) fault done silent)
  body_stopped body stop (inl (fault, inr (same, never), is, silent)) =
      let memory : fault ≡ ask.Memory = cc in
      subst (AreStoppedAtLast g old new out out' (read_request body ∷ [])) (sym (is ∙ ap stop_of memory)) (one_unasked (read_request body) same silent)
  body_stopped body stop (inr (answer, asked, which)) =
      let was = request_told g old new body answer asked in
      let it = answer_untold g old new (read_request body) was.0 stop which was.2 was.3 in
      one_unwritten (read_request body) it.0 stop it.1 it.2
