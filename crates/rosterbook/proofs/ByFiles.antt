-- What is answered by a book that was opened is answered by what its files held, and what is left of it is left of them.
use Rattle.std.proofs.Common.{◌≡◌, inl, inr, refl, subst, sym, ℕ, ◌+◌, List, [], length, take, arith, Option, Some, None, Result, Ok, Err, IfOk, IfErr, IfSome}
use Rattle.std.specs.Prelude.{⊤, Bool, true, false}
use Rattle.std.proofs.lemmas.List.{take_all}
use Rattle.sqlite_disk.specs.declared.Disk.{Ghosts}
use Rattle.sqlite_trees.specs.declared.store.Store as store
use Rattle.sqlite_store.specs.declared.store.FileStore.{FileStore}
use Rattle.sqlite_wal.specs.Recovery.{Image}
use Rattle.sqlite.specs.Files.{file_state, over_files}
use Rattle.sqlite.specs.Held.{state}
use Rattle.codec.specs.Requests.{read_request}
use Rattle.entries.specs.declared.fault.LoadFault.{LoadFault}
use Rattle.roster.specs.Folds.{Asked, Fold, ReplyOrRefusal, import}
use Rattle.roster.specs.State.{State}
use Rattle.state_rows.specs.declared.fault.StoreFault.TheVariants as faults
use Rattle.request.specs.declared.form.Form.{Form}
use Rattle.request.specs.declared.subject.Subject.{Subject}
use Rattle.book.specs.Calls.{IsAfterCalls}
use Rattle.book.specs.Found.{IsCleanLeft, IsFaultOf, IsUnclosed, LeavesBook, LeavesByCrash, MeansWhatIsIn}
use Rattle.book.specs.Kept.{IsClean, IsDurablyAt, IsInDoubt, Kept}
use Rattle.book.specs.declared.file.FilesLeft.{FilesLeft}
use Rattle.book.proofs.Left.{leaves_either}
use Rattle.book.proofs.LifeLemmas as life
use Rattle.book.proofs.States.{one_of_either}
use Rattle.http_exchange.specs.Exchange.{ChannelBytes}
use Rattle.asking.specs.Requests.{ReadRequest}
use Rattle.rosterbook.specs.Asking.{IsAskStopped, IsImported, IsImportStopped, IsLeftAfterAnswers, IsRequestAnswered, IsStoppedIn, left_by_check, left_by_request}
use Rattle.asking.specs.Lines.{asked_by_request}
use Rattle.rosterbook.specs.ByFiles.{AreLeftAfter, AreLeftAsFound, AreLeftByDo, AreLeftByImport, AreLetGo, AreLeftByLines, AreLeftByRequest, AreLinesCheckedBy, AreLinesDoneBy, HaveSession, IsByFiles, IsDoneAs, IsDoneBy, IsImportedBy, IsRefusedAs, IsSession, IsShownBy}
use Rattle.rosterbook.specs.Doing.{IsInputAnswered, IsInputStopped}
use Rattle.rosterbook.specs.InLines.{AreLinesAnswered, AreLinesChecked, AreLinesStopped, AreRequestsAnswered}
use Rattle.asking.specs.Lines.{commands_in, requests_of}
use Rattle.rosterbook.specs.Showing.{IsToldOf}
use Rattle.rosterbook.specs.declared.status.Status.{Status}
use Rattle.rosterbook.specs.declared.stop.Stop.{Stop}
use Rattle.rosterbook.specs.declared.stop.Stop.TheVariants.{Load, Book, Memory, Channel, Network}
use Rattle.rosterbook.proofs.CleanBefore.{clean_before_all, clean_before_request, clean_before_same}
use Rattle.rosterbook.proofs.LinesRead.{all_are_first, none_read}

-- ---- After how many commands

module _ {S : Type 0} (g : store.Ghosts S) (new : Kept S) (s : State) where
  abbrev IsReached : List Asked → Type 0
  IsReached asked = (n : ℕ) × IsInDoubt g new (Fold s (take n asked)) (Fold s (take (n + 1) asked))

  all_reached : (asked : List Asked) → IsDurablyAt g new (Fold s asked) → IsReached asked
  all_reached asked at = (
    length asked,
    subst (λ (l : List Asked). IsInDoubt g new (Fold s l) (Fold s (take (length asked + 1) asked))) (sym (take_all (length asked) asked (omega arith)))
        (one_of_either (state g new.held) (Fold s asked) _ at),
  )

  request_reached : (request : ReadRequest) → IsDurablyAt g new (left_by_request s request) → IsReached (asked_by_request request)
  request_reached (Ok asked) at = all_reached _ at
  request_reached (Err fault) at = all_reached [] at

  stopped_reached : (asked : List Asked) (n : ℕ) (stop : Stop) → IsLeftAfterAnswers g new s asked n stop → IsReached asked
  stopped_reached asked n (Load fault) at = (n, one_of_either (state g new.held) _ _ at)
  stopped_reached asked n (Book faults.Store) doubt = (n, doubt)
  stopped_reached asked n (Book faults.Memory) at = (n, one_of_either (state g new.held) _ _ at)
  stopped_reached asked n Memory at = (n, one_of_either (state g new.held) _ _ at)
  stopped_reached asked n Channel at = (n, one_of_either (state g new.held) _ _ at)
  stopped_reached asked n Network at = (n, one_of_either (state g new.held) _ _ at)

-- ---- By the files of a book

module _ {D : Type 0} {g : Ghosts D} (image : Image) (old new : Kept (FileStore D g)) (left : FilesLeft D g)
    (means : IsClean over_files old → MeansWhatIsIn image (file_state old.held)) (disk : IsCleanLeft left → IsClean over_files new) where
  module _ (kept : (s : State) → IsDurablyAt over_files new s → IsCleanLeft left → LeavesBook left s) where
    by_files : (Says : State → Type 0) (after : State → State) → (IsClean over_files new → IsClean over_files old) →
        ((s : State) → IsDurablyAt over_files old s → IsClean over_files new → Says s) → ((s : State) → IsDurablyAt over_files old s → IsDurablyAt over_files new (after s)) →
        IsByFiles (Some left) image Says after
    by_files Says after before says stays = λ clean.
        let found = means (before (disk clean)) in
        (found.it, found.finds, says found.it found.keeps (disk clean), kept (after found.it) (stays found.it found.keeps) clean)

    done_at : (held out out' err : ChannelBytes) (status : Status) → IsRequestAnswered over_files left_by_request old new held out out' status →
        IsDoneBy (IsByFiles (Some left) image) left_by_request held out out' err err status
    done_at held out out' err status it = record {
      input = it.input;
      answer = it.answer;
      told = it.told;
      silent = refl;
      by = by_files _ _ (clean_before_request over_files old new _ it.left) it.answered it.left;
    }

    checked_at : (held out out' err : ChannelBytes) (status : Status) → IsRequestAnswered over_files left_by_check old new held out out' status →
        IsDoneBy (IsByFiles (Some left) image) left_by_check held out out' err err status
    checked_at held out out' err status it = record {
      input = it.input;
      answer = it.answer;
      told = it.told;
      silent = refl;
      by = by_files _ _ (clean_before_same over_files old new it.left) it.answered it.left;
    }

    lines_done_at : (held out out' err : ChannelBytes) (status : Status) → AreLinesAnswered over_files old new held out out' status →
        AreLinesDoneBy (IsByFiles (Some left) image) held out out' err err status
    lines_done_at held out out' err status (lines, read, it) = record {
      lines = lines;
      answers = it.answers;
      read = read;
      told = it.told;
      silent = refl;
      by = by_files _ _ (clean_before_all over_files old new (commands_in (requests_of lines)) it.left) it.answered it.left;
    }

    lines_checked_at : (held out out' err : ChannelBytes) (status : Status) → AreLinesChecked over_files old new held out out' status →
        AreLinesCheckedBy (IsByFiles (Some left) image) held out out' err err status
    lines_checked_at held out out' err status (lines, read, it) = record {
      lines = lines;
      answers = it.answers;
      read = read;
      told = it.told;
      silent = refl;
      by = by_files _ _ (clean_before_same over_files old new it.left) it.answered it.left;
    }

    pub answered_at : (dry_run lines : Bool) (held out out' err : ChannelBytes) (result : Result Status Stop) → IfOk result (IsInputAnswered over_files old new held out out' dry_run lines) →
        IfOk result (IsDoneAs (IsByFiles (Some left) image) dry_run lines held out out' err err)
    answered_at false false held out out' err (Ok status) it = done_at held out out' err status it
    answered_at true false held out out' err (Ok status) it = checked_at held out out' err status it
    answered_at false true held out out' err (Ok status) it = lines_done_at held out out' err status it
    answered_at true true held out out' err (Ok status) it = lines_checked_at held out out' err status it
    answered_at dry_run lines held out out' err (Err stop) it = tt

    pub imported_at : (number : ℕ) (held out out' err err' : ChannelBytes) (status : Status) → IsImported over_files old new number held out out' err err' status →
        IsImportedBy (IsByFiles (Some left) image) number held out out' err err' status
    imported_at number held out out' err err' status it = record {
      text = it.text;
      read = it.read;
      told = elim it.done [
        | inl none ↦
            let same = none.1 in
            inl (
              none.0,
              by_files (λ s. ⊤) (λ s. s) (λ clean. subst (IsClean over_files) same clean) (λ s at clean. tt)
                  (λ s at. subst (λ (b : Kept (FileStore D g)). IsDurablyAt over_files b s) (sym same) at),
            )
        | inr done ↦
            let added = done.2 in
            inr (done.0, added.answers, done.1, added.told, done.3, by_files _ _ (clean_before_all over_files old new (import number done.0) added.left) added.answered added.left)
      ];
    }

    pub shown_at : (subject : Subject (List ℕ) (List ℕ)) (form : Form) (out out' err err' : ChannelBytes) (result : Result Status Stop) → IfOk result (λ status. (s : State) × IsToldOf s subject form status out out' err err') →
        ((s : State) → IsDurablyAt over_files old s → IsClean over_files new → IfOk result (λ status. IsToldOf s subject form status out out' err err')) →
        ((s : State) → IsDurablyAt over_files old s → IsDurablyAt over_files new s) → IfOk result (IsShownBy (IsByFiles (Some left) image) subject form out out' err err')
    shown_at subject form out out' err err' (Ok status) some told stays = record { some = some; by = by_files _ _ (clean_before_same over_files old new stays) told stays }
    shown_at subject form out out' err err' (Err stop) some told stays = tt

  -- ---- Whatever the status

  module _ (crash : IsCleanLeft left → LeavesByCrash new left) where
    left_after : (asked : List Asked) → (IsClean over_files new → IsClean over_files old) → ((s : State) → IsDurablyAt over_files old s → IsReached over_files new s asked) →
        AreLeftAfter (Some left) image asked
    left_after asked before reaches = λ clean.
        let is_clean = disk clean in
        let found = means (before is_clean) in
        let reached = reaches found.it found.keeps in
        (found.it, found.finds, (reached.0, leaves_either new _ _ reached.1 is_clean left (crash clean)))

    pub left_as_found : ((s : State) → IsDurablyAt over_files old s → IsDurablyAt over_files new s) → AreLeftAsFound (Some left) image
    left_as_found stays = left_after [] (clean_before_same over_files old new stays) (λ s at. all_reached over_files new s [] (stays s at))

    same_left : new ≡ old → AreLeftAsFound (Some left) image
    same_left same = left_as_found (λ s at. subst (λ (b : Kept (FileStore D g)). IsDurablyAt over_files b s) (sym same) at)

    left_by_stop : (asked : List Asked) (answers : List ReplyOrRefusal) (stop : Stop) → IsStoppedIn over_files old new asked answers stop → AreLeftAfter (Some left) image asked
    left_by_stop asked answers stop it = left_after asked it.disk (λ s at. stopped_reached over_files new s asked (length answers) stop (it.left s at))

    request_left : (held out out' : ChannelBytes) (result : Result Status Stop) → IfOk result (λ status. IsRequestAnswered over_files left_by_request old new held out out' status) →
        IfErr result (λ stop. IsAskStopped over_files old new held out out' stop) → AreLeftByRequest (Some left) image held
    request_left held out out' (Ok status) it stopped =
        let request = read_request it.input in
        inr (it.input, it.told.read, left_after (asked_by_request request) (clean_before_request over_files old new request it.left) (λ s at. request_reached over_files new s request (it.left s at)))
    request_left held out out' (Err stop) it (inl none) = inl (same_left none.unchanged)
    request_left held out out' (Err stop) it (inr some) = inr (some.0, some.2, left_by_stop _ some.1 stop some.3)

    answered_left : (out out' : ChannelBytes) (requests : List ReadRequest) (status : Status) → AreRequestsAnswered over_files old new out out' requests status →
        AreLeftAfter (Some left) image (commands_in requests)
    answered_left out out' requests status it =
        let asked = commands_in requests in
        left_after asked (clean_before_all over_files old new asked it.left) (λ s at. all_reached over_files new s asked (it.left s at))

    lines_left : (held out out' : ChannelBytes) (result : Result Status Stop) → IfOk result (AreLinesAnswered over_files old new held out out') →
        IfErr result (AreLinesStopped over_files old new held out out') → AreLeftByLines (Some left) image held
    lines_left held out out' (Ok status) (lines, read, it) stopped = (lines, all_are_first held lines read, answered_left out out' (requests_of lines) status it)
    lines_left held out out' (Err stop) it (lines, read, inl (which, (status, done))) = (lines, read, answered_left out out' (requests_of lines) status done)
    lines_left held out out' (Err stop) it (lines, read, inr at_last) = (lines, read, left_by_stop _ at_last.answers stop at_last.asked)

    pub input_left : (dry_run lines : Bool) (held out out' : ChannelBytes) (result : Result Status Stop) → IfOk result (IsInputAnswered over_files old new held out out' dry_run lines) →
        IfErr result (IsInputStopped over_files old new held out out' dry_run lines) → (dry_run ≡ true → (s : State) → IsDurablyAt over_files old s → IsDurablyAt over_files new s) →
        (dry_run ≡ true → IsUnclosed left) → AreLeftByDo (Some left) image dry_run lines held
    input_left false false held out out' result answered stopped kept unclosed = request_left held out out' result answered stopped
    input_left false true held out out' result answered stopped kept unclosed = lines_left held out out' result answered stopped
    input_left true lines held out out' result answered stopped kept unclosed = (left_as_found (kept refl), unclosed refl)

    pub import_left : (number : ℕ) (held out out' err err' : ChannelBytes) (result : Result Status Stop) →
        IfOk result (λ status. IsImported over_files old new number held out out' err err' status) →
        IfErr result (λ stop. IsImportStopped over_files old new number held out out' err err' stop) → AreLeftByImport (Some left) image number held
    import_left number held out out' err err' (Ok status) it stopped = elim it.done [
      | inl none ↦ inl (same_left none.1)
      | inr done ↦
          let added = done.2 in
          let asked = import number done.0 in
          inr (it.text, done.0, it.read, done.1, left_after asked (clean_before_all over_files old new asked added.left) (λ s at. all_reached over_files new s asked (added.left s at)))
    ]
    import_left number held out out' err err' (Err stop) it (inl none) = inl (same_left none.unchanged)
    import_left number held out out' err err' (Err stop) it (inr some) = inr (some.0, some.1, some.2, some.3, left_by_stop _ some.4.answers stop some.4.asked)

    -- a book that was called in turn
    pub session : old.failed ≡ false → IsAfterCalls over_files old new → IsSession (Some left) image old new
    session fresh after = record {
      fresh = fresh;
      calls = after.0;
      called = after.1;
      leaves = λ clean.
          let is_clean = disk clean in
          let found = means (life.clean_before over_files after.0 old new after.1 is_clean) in
          let doubt = life.reaches over_files after.0 old new found.it fresh found.keeps after.1 in
          (found.it, found.finds, found.keeps, leaves_either new _ _ doubt is_clean left (crash clean));
    }

-- ---- Where no book was taken up

module _ {D : Type 0} {g : Ghosts D} (image : Image) (left : Option (FilesLeft D g)) (none : left ≡ None) where
  pub none_left : (asked : List Asked) → AreLeftAfter left image asked
  none_left asked = rw none tt

  no_lines_left : (held : ChannelBytes) → AreLeftByLines left image held
  no_lines_left held = ([], none_read held, none_left _)

  pub none_let_go : AreLetGo left image
  none_let_go = (none_left [], rw none tt)

  pub no_input_left : (dry_run lines : Bool) (held : ChannelBytes) → AreLeftByDo left image dry_run lines held
  no_input_left false false held = inl (none_left [])
  no_input_left false true held = no_lines_left held
  no_input_left true lines held = none_let_go

  pub no_session : HaveSession left image
  no_session = rw none tt

  pub refused_as : (fault : LoadFault) (theirs refused : Option (FilesLeft D g)) (done : Result Status Stop) → refused ≡ theirs → done ≡ Err (Load fault) →
      IfSome theirs (λ it. IsCleanLeft it → IsFaultOf image fault) → IsRefusedAs left image refused done
  refused_as fault None refused done same is cause = rw same tt
  refused_as fault (Some it) refused done same is cause = rw same (fault, none, is, cause)
