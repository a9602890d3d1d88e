-- Requests of lines that were checked so far, up to one more.
use Rattle.std.proofs.Common.{◌≡◌, ◌∙◌, refl, sym, ap, subst, ℕ, List, [], ◌∷◌, ◌++◌, Ok, Err}
use Rattle.std.proofs.lemmas.List.{map-append}
use Rattle.std.specs.Io.KnownBytes.{Appends}
use Rattle.sqlite_trees.specs.declared.store.Store.{Ghosts}
use Rattle.codec.specs.Requests.{read_request}
use Rattle.roster.specs.Folds.{answer_of}
use Rattle.roster.specs.Steps.{step_of}
use Rattle.book.specs.Kept.{Kept}
use Rattle.asking.proofs.LinesTaken.{commands_both}
use Rattle.asking.specs.Requests.{IsRequestChecked, ReadRequest}
use Rattle.http_exchange.specs.Exchange.{ChannelBytes}
use Rattle.rosterbook.specs.Asking.{IsBodyTold, left_by_check}
use Rattle.rosterbook.specs.InLines.{AreRequestsChecked, status_after}
use Rattle.asking.specs.Lines.{answers_in, commands_in, requests_of}
use Rattle.rosterbook.specs.Streams.{line_end}
use Rattle.rosterbook.specs.declared.status.Status.{Status}
use Rattle.rosterbook.specs.declared.status.Status.TheVariants.{Done}
use Rattle.rosterbook.proofs.Answering.{IsRequestTold, check_told}
use Rattle.rosterbook.proofs.CleanBefore.{clean_before_same}
use Rattle.rosterbook.proofs.LinesAnswered.{answer_ends, one_printed, told_then}
use Rattle.rosterbook.proofs.RefusalLemmas.{appends_nothing}

module _ {S : Type 0} (g : Ghosts S) where
  pub none_checked : (book : Kept S) (out : ChannelBytes) → AreRequestsChecked g book book out out [] Done
  none_checked book out = record {
    answers = [];
    told = record { each = refl; printed = appends_nothing out; ends = refl };
    answered = λ s at clean. refl;
    left = λ s at. at;
  }

  both_checked : (old mid new : Kept S) (out out_mid out' : ChannelBytes) (requests more : List ReadRequest) (status next : Status) →
      AreRequestsChecked g old mid out out_mid requests status → AreRequestsChecked g mid new out_mid out' more next →
      AreRequestsChecked g old new out out' (requests ++ more) (status_after status next)
  both_checked old mid new out out_mid out' requests more status next first second = record {
    answers = first.answers ++ second.answers;
    told = told_then out out_mid out' requests more first.answers second.answers status next first.told second.told;
    answered = λ s at clean.
        let is_clean = clean_before_same g mid new second.left clean in
        ap (λ l. l ++ second.answers) (first.answered s at is_clean)
        ∙ ap (λ l. answers_in s (commands_in requests) ++ l) (second.answered s (first.left s at) clean)
        ∙ sym (map-append (λ one. answer_of (step_of s one.0 one.1)) (commands_in requests) (commands_in more))
        ∙ ap (answers_in s) (sym (commands_both requests more));
    left = λ s at. second.left s (first.left s at);
  }

  pub lines_checked : (old mid new : Kept S) (out out_mid out' : ChannelBytes) (lines more : List (List ℕ)) (status next last : Status) →
      AreRequestsChecked g old mid out out_mid (requests_of lines) status → AreRequestsChecked g mid new out_mid out' (requests_of more) next → last ≡ status_after status next →
      AreRequestsChecked g old new out out' (requests_of (lines ++ more)) last
  lines_checked old mid new out out_mid out' lines more status next last first second is =
      subst (AreRequestsChecked g old new out out' (requests_of (lines ++ more))) (sym is)
      (subst (λ r. AreRequestsChecked g old new out out' r (status_after status next)) (sym (map-append read_request lines more))
      (both_checked old mid new out out_mid out' (requests_of lines) (requests_of more) status next first second))

-- ---- One request

module _ {S : Type 0} (g : Ghosts S) (old new : Kept S) (out out' : ChannelBytes) where
  one_checked : (request : ReadRequest) (told : Status × List ℕ) (status : Status) → IsRequestTold g old new left_by_check told request → status ≡ told.0 → Appends out out' (told.1 ++ line_end) →
      AreRequestsChecked g old new out out' (request ∷ []) status
  one_checked (Ok asked) told status (answer, is, answered, left) ends printed = record {
    answers = answer ∷ [];
    told = record {
      each = refl;
      printed = one_printed g old new out out' told (Ok answer) is printed;
      ends = ends ∙ ap (λ (t : Status × List ℕ). t.0) is ∙ answer_ends g old new out out' answer;
    };
    answered = answered;
    left = left;
  }
  one_checked (Err fault) told status (answer, is, answered, left) ends printed = record {
    answers = [];
    told = record {
      each = refl;
      printed = one_printed g old new out out' told (Err fault) is printed;
      ends = ends ∙ ap (λ (t : Status × List ℕ). t.0) is;
    };
    answered = λ s at clean. refl;
    left = left;
  }

  pub body_checked : (body : List ℕ) (status : Status) → IsBodyTold (IsRequestChecked g old new body) out out' status → AreRequestsChecked g old new out out' (read_request body ∷ []) status
  body_checked body status it = one_checked (read_request body) _ status (check_told g old new body it.answer it.asked) it.ends it.printed
