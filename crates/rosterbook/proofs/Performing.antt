-- What is performed by the book that files hold is performed, and how the program ends after what was done.
use Rattle.std.proofs.Common.{◌≡◌, ◌≢◌, ◌⊎◌, inl, inr, ℕ, ◌∙◌, ap, sym, subst, refl, true, false, Bool, Option, Some, None, Result, Ok, Err, IfOk, IfErr, IsErr, IfSome}
use Rattle.std.specs.Io.KnownBytes.{Appends}
use Rattle.sqlite_disk.specs.declared.Disk.{Ghosts}
use Rattle.sqlite_wal.specs.Recovery.{Image}
use Rattle.book.specs.declared.file.FilesLeft.{FilesLeft}
use Rattle.console.specs.declared.actions.Action.{Action}
use Rattle.console.specs.declared.actions.Action.TheVariants.{Duty, Init, Do, Import, Report, Serve}
use Rattle.http_exchange.specs.Exchange.{ChannelBytes}
use Rattle.rosterbook.specs.ByFiles.{HaveSession, IsPerformedByFiles, IsRefusedAs, IsRefusedByFiles, IsServedByFiles, IsServeStoppedByFiles, PerformsByFiles}
use Rattle.rosterbook.specs.Program.{Gives, IsPerformed, PerformsAction, ProgramOutput, exit_status, memory_answer}
use Rattle.rosterbook.specs.StopText.{stop_text}
use Rattle.rosterbook.specs.Streams.{refused_line}
use Rattle.rosterbook.specs.declared.status.Status.{Status}
use Rattle.rosterbook.specs.declared.status.Status.TheVariants.{Failed}
use Rattle.rosterbook.specs.declared.stop.Stop.{Stop}

module _ {D : Type 0} {g : Ghosts D} (image : Image) (left : Option (FilesLeft D g)) (status : Status) (held out out' err err' : ChannelBytes) where
  performs : (action : Action) → PerformsByFiles image left action status held out out' err err' → PerformsAction action status held out out' err err'
  performs (Duty zone report times) it = it
  performs (Init file zone) it = it.0
  performs (Do file false false) it = ((it.input, it.answer, it.told), it.silent)
  performs (Do file true false) it = ((it.input, it.answer, it.told), it.silent)
  performs (Do file false true) it = ((it.lines, it.answers, it.read, it.told), it.silent)
  performs (Do file true true) it = ((it.lines, it.answers, it.read, it.told), it.silent)
  performs (Import file number) it = record {
    text = it.text;
    read = it.read;
    told = elim it.told [
      | inl none ↦ inl none.0
      | inr done ↦ inr (done.0, done.1, done.2, done.3, done.4)
    ];
  }
  performs (Report file subject form) it = it.some
  performs (Serve file port connections) it =
      let done = it.3 in
      record { outcomes = done.served.0; ends = done.ends; each = done.served.1; listens = done.listens; lines = done.served.2.lines refl }

module _ {D : Type 0} {g : Ghosts D} (image : Image) (left : Option (FilesLeft D g)) (action : Action) (code : ℕ) (held out out' err err' : ChannelBytes) where
  pub performed : IsPerformedByFiles image left action code held out out' err err' → IsPerformed action code held out out' err err'
  performed it = (it.0, it.1, performs image left it.0 held out out' err err' action it.2)

-- ---- How the program ends

-- what was done is what the program ends with, if not by 3
pub finished : {E : Type 0} (contents : E → ChannelBytes) (P : ChannelBytes → Status → Type 0) (done : Result Status Stop) (code : ℕ) (mid new : E) →
    IfOk done (λ status. (code ≡ exit_status status) × (new ≡ mid)) → (IsErr done → code ≡ exit_status Failed) →
    IfOk done (λ status. status ≢ Failed → P (contents mid) status) → code ≢ exit_status Failed →
    (status : Status) × (code ≡ exit_status status) × P (contents new) status
finished {E} contents P (Ok status) code mid new ends failed it other =
    (status, ends.0, subst (λ (e : E). P (contents e) status) (sym ends.1) (it (λ is. other (ends.0 ∙ ap exit_status is))))
finished contents P (Err stop) code mid new ends failed it other = absurd (other (failed refl))

-- an answer, or that there was no memory for one
pub not_for_memory : {E : Type 0} (answer : ProgramOutput) (done : Result Status E) (out out' err err' : ChannelBytes) →
    IfOk done (λ status. Gives answer status out out' err err' ⊎ Gives memory_answer status out out' err err') →
    IfOk done (λ status. status ≢ Failed → Gives answer status out out' err err')
not_for_memory answer (Ok status) out out' err err' (inl it) = λ other. it
not_for_memory answer (Ok status) out out' err err' (inr it) = λ other. absurd (other it.ends)
not_for_memory answer (Err stop) out out' err err' it = tt

-- or that no book was made
pub not_unmade : (answer : ProgramOutput) (Made : Status → Type 0) (done : Result Status Stop) (out out' err err' : ChannelBytes) (Silent : Type 0) →
    IfOk done (λ status. Gives answer status out out' err err' ⊎ ((status ≡ Failed) × Silent)) → IfOk done Made →
    IfOk done (λ status. status ≢ Failed → Gives answer status out out' err err' × Made status)
not_unmade answer Made (Ok status) out out' err err' Silent (inl it) made = λ other. (it, made)
not_unmade answer Made (Ok status) out out' err err' Silent (inr it) made = λ other. absurd (other it.0)
not_unmade answer Made (Err stop) out out' err err' Silent it made = tt

pub passed_on : {E : Type 0} (P : Status → Type 0) (answered : Result Status E) (done : Result Status Stop) → IfOk done (λ status. answered ≡ Ok status) → IfOk answered P → IfOk done P
passed_on P answered (Ok status) is it = rw is at it
passed_on P answered (Err stop) is it = tt

module _ {D : Type 0} {g : Ghosts D} (image : Image) (left left' : Option (FilesLeft D g)) (same_left : left' ≡ left) where
  pub performed_so : {E : Type 0} (contents : E → ChannelBytes) (action : Action) (held out out' err : ChannelBytes) (done : Result Status Stop) (code : ℕ) (mid new : E) →
      IfOk done (λ status. (code ≡ exit_status status) × (new ≡ mid)) → (IsErr done → code ≡ exit_status Failed) →
      IfOk done (λ status. status ≢ Failed → PerformsByFiles image left action status held out out' err (contents mid)) → code ≢ exit_status Failed →
      IsPerformedByFiles image left' action code held out out' err (contents new)
  performed_so contents action held out out' err done code mid new ends failed it other =
      rw same_left (finished contents (λ err' status. PerformsByFiles image left action status held out out' err err') done code mid new ends failed it other)

  -- a refusal to take up a book is what the program ends with
  pub refused_finished : {O E : Type 0} (on_out : O → ChannelBytes) (on_err : E → ChannelBytes) (refused refused' : Option (FilesLeft D g)) (done : Result Status Stop) (code : ℕ) (told : Bool)
      (out out' : O) (err mid : E) (err' : ChannelBytes) → refused' ≡ refused → IsRefusedAs left image refused done → IfSome refused (λ _. (out' ≡ out) × (mid ≡ err)) →
      (IsErr done → code ≡ exit_status Failed) → IfErr done (λ stop. told ≡ true → Appends (on_err mid) err' (refused_line (stop_text stop))) →
      IfSome refused' (IsRefusedByFiles image left' code told (on_out out) (on_out out') (on_err err) err')
  refused_finished on_out on_err None refused' done code told out out' err mid err' same why silent failed line = rw same tt
  refused_finished on_out on_err (Some it) refused' done code told out out' err mid err' same why silent failed line =
      let stopped = rw why.2 at line in
      rw same (record {
        fault = why.0;
        ends = failed (rw why.2 refl);
        untaken = same_left ∙ why.1;
        silent = ap on_out silent.0;
        complains = λ is. rw silent.1 at (stopped is);
        cause = why.3;
      })

module _ {D : Type 0} {g : Ghosts D} (image : Image) (left : Option (FilesLeft D g)) where
  -- where files were opened and no book was taken up, what holds where none is left
  pub silent_as : (refused : Option (FilesLeft D g)) (done : Result Status Stop) (Silent : Type 0) → IsRefusedAs left image refused done → (left ≡ None → Silent) → IfSome refused (λ _. Silent)
  silent_as None done Silent why silent = tt
  silent_as (Some it) done Silent why silent = silent why.1

  -- a book that served has a session
  pub had_session : (done : Result Status Stop) (port count : ℕ) (out out' err err' : ChannelBytes) →
      IfOk done (IsServedByFiles left image port count out out' err err') → IfErr done (IsServeStoppedByFiles left image port count out out' err err') → HaveSession left image
  had_session done port count out out' err err' served stopped = go left done served stopped where
    go : (l : Option (FilesLeft D g)) (done : Result Status Stop) →
        IfOk done (IsServedByFiles l image port count out out' err err') → IfErr done (IsServeStoppedByFiles l image port count out out' err err') → HaveSession l image
    go None done served stopped = tt
    go (Some it) (Ok status) served stopped = (served.0, served.1, served.2)
    go (Some it) (Err stop) served stopped = (stopped.0, stopped.1, stopped.2)
