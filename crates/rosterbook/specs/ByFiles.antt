-- What the program answers by the book that files hold, and what it leaves of them.
use Rattle.std.specs.Prelude.{◌≡◌, ◌⊎◌, ⊤, ℕ, ◌+◌, true, false, Bool, List, [], ◌++◌, take}
use Rattle.std.specs.Prelude.{Option, None, IfSome, IsSomeAnd, Result, Err, string_bytes}
use Rattle.std.specs.Io.KnownBytes.{Appends}
use Rattle.sqlite_disk.specs.declared.Disk.{Ghosts}
use Rattle.sqlite_store.specs.declared.store.FileStore.{FileStore}
use Rattle.sqlite_wal.specs.Recovery.{Image}
use Rattle.sqlite.specs.Files.{over_files}
use Rattle.duty.specs.Plans.{Plan}
use Rattle.roster.specs.Folds.{Asked, Fold, Replies, ReplyOrRefusal, import}
use Rattle.roster.specs.State.{State, empty}
use Rattle.codec.specs.Requests.{read_request}
use Rattle.codec.specs.Schedule.{IsSchedule}
use Rattle.request.specs.Subjects.{subject_bytes}
use Rattle.request.specs.declared.form.Form.{Form}
use Rattle.request.specs.declared.subject.Subject.{Subject}
use Rattle.entries.specs.Faults.{load_text}
use Rattle.entries.specs.declared.fault.LoadFault.{LoadFault}
use Rattle.book.specs.Calls.{AreCalls, Call}
use Rattle.book.specs.Found.{FindsBook, HasFreeNames, IsCleanLeft, IsFaultOf, IsUnclosed, LeavesBook, LeavesEither}
use Rattle.book.specs.Kept.{IsDurablyAt, Kept}
use Rattle.book.specs.Lives.{acknowledged, in_doubt}
use Rattle.book.specs.declared.file.FilesLeft.{FilesLeft}
use Rattle.console.specs.declared.actions.Action.{Action}
use Rattle.console.specs.declared.actions.Action.TheVariants.{Init, Do, Import, Report, Serve}
use Rattle.asking.specs.Requests.{ReadRequest}
use Rattle.http_exchange.specs.Exchange.{ChannelBytes}
use Rattle.rosterbook.specs.Asking.{Answers, AreTold, IsNoSchedule, IsRequestReadAndTold}
use Rattle.rosterbook.specs.Asking.{left_by_check, left_by_request}
use Rattle.asking.specs.Lines.{asked_by_request}
use Rattle.rosterbook.specs.InLines.{AreRequestsTold, ReadsFirstLines, ReadsLines}
use Rattle.asking.specs.Lines.{answers_in, commands_in, requests_of}
use Rattle.rosterbook.specs.Program.{PerformsAction, exit_status}
use Rattle.rosterbook.specs.Serving.{IsServeDone, IsServeStopped}
use Rattle.rosterbook.specs.Showing.{IsToldOf}
use Rattle.rosterbook.specs.Streams.{ReadsInput, refused_line}
use Rattle.rosterbook.specs.declared.status.Status.{Status}
use Rattle.rosterbook.specs.declared.status.Status.TheVariants.{Done, Failed}
use Rattle.rosterbook.specs.declared.stop.Stop.{Stop}
use Rattle.rosterbook.specs.declared.stop.Stop.TheVariants.{Load, Network}

-- ---- By which book

-- What an answer says of the state in which it was given, and the state after that answer.
abbrev pub Account : Type 1
Account = (State → Type 0) → (State → State) → Type 0

module _ {D : Type 0} {g : Ghosts D} where
  -- Files with these contents had no name of a book's tables taken, and are left with an empty book
  -- of this zone, as long as the disk returns what was written.
  abbrev pub IsLeftEmpty : Image → List ℕ → FilesLeft D g → Type 0
  IsLeftEmpty image zone it = IsCleanLeft it → HasFreeNames image × LeavesBook it (empty zone)

module _ {D : Type 0} {g : Ghosts D} (left : Option (FilesLeft D g)) where
  -- An answer was given by the book that files with these contents held, and `left` is left of the
  -- files. As long as the disk returns what was written, a sound book is found in the files, and
  -- the answer is true of its state. The files are then left with a book in the state after it.
  abbrev pub IsByFiles : Image → Account
  IsByFiles image Says after = IsSomeAnd left (λ it. IsCleanLeft it →
      (s : State) × FindsBook image s × Says s × LeavesBook it (after s))

  -- files are left, with an empty book of this zone
  abbrev pub AreLeftEmpty : Image → List ℕ → Type 0
  AreLeftEmpty image zone = IsSomeAnd left (IsLeftEmpty image zone)

-- ---- What is left, whatever the status

module _ {D : Type 0} {g : Ghosts D} (left : Option (FilesLeft D g)) (image : Image) where
  -- If a book was taken up from files with these contents, `left` is left of the files. As long as
  -- the disk returns what was written, a sound book is found in the files, and they are left with
  -- the state after the first of these commands, however many. Of the last command it may be open
  -- whether it is done.
  abbrev pub AreLeftAfter : List Asked → Type 0
  AreLeftAfter asked = IfSome left (λ it. IsCleanLeft it →
      (s : State) × FindsBook image s
      × ((n : ℕ) × LeavesEither it (Fold s (take n asked)) (Fold s (take (n + 1) asked))))

  -- the files are left with the state that they held
  abbrev pub AreLeftAsFound : Type 0
  AreLeftAsFound = AreLeftAfter []

  -- The files are left with the state that they held, and they were let go of as they are. (To
  -- close them would copy their log into the database.)
  abbrev pub AreLetGo : Type 0
  AreLetGo = AreLeftAsFound × IfSome left IsUnclosed

  -- the files are left with the state that they held, or with the state after the command of a
  -- request that a reader has
  abbrev pub AreLeftByRequest : ChannelBytes → Type 0
  AreLeftByRequest held = AreLeftAsFound ⊎ ((input : List ℕ) × ReadsInput held input
      × AreLeftAfter (asked_by_request (read_request input)))

  -- the files are left with the state that they held, or with the state after the first pairings of
  -- a schedule that a reader has, as parts of this number
  abbrev pub AreLeftByImport : ℕ → ChannelBytes → Type 0
  AreLeftByImport number held = AreLeftAsFound
      ⊎ ((text : List ℕ) × (plans : List Plan) × ReadsInput held text × IsSchedule text plans
      × AreLeftAfter (import number plans))

  -- the files are left with the state after the commands of the first lines that a reader has
  abbrev pub AreLeftByLines : ChannelBytes → Type 0
  AreLeftByLines held = (lines : List (List ℕ)) × ReadsFirstLines held lines
      × AreLeftAfter (commands_in (requests_of lines))

  -- what `do` leaves of the files, by whether nothing is kept, and by whether there is a command on
  -- each line
  abbrev pub AreLeftByDo : (dry_run lines : Bool) → ChannelBytes → Type 0
  AreLeftByDo false false held = AreLeftByRequest held
  AreLeftByDo false true held = AreLeftByLines held
  AreLeftByDo true lines held = AreLetGo

  -- A book was taken up, nothing but a list of calls was done to it, and it was closed. As long as
  -- the disk returns what was written, the book is the one that the files held, and they are left
  -- with all that the calls acknowledged. Of what was in work when the store failed it is open
  -- whether it is done.
  pub record IsSession (opened last : Kept (FileStore D g)) : Type 0 where
    pub fresh : opened.failed ≡ false
    pub calls : List Call
    pub called : AreCalls over_files opened calls last
    pub leaves : IsSomeAnd left (λ it. IsCleanLeft it →
        (s : State) × FindsBook image s × IsDurablyAt over_files opened s
        × LeavesEither it (Fold s (acknowledged calls))
        (Fold s (acknowledged calls ++ in_doubt calls)))

  -- if a book was taken up from the files, it had a session
  abbrev pub HaveSession : Type 0
  HaveSession = IfSome left (λ _.
      (opened : Kept (FileStore D g)) × (last : Kept (FileStore D g)) × IsSession opened last)

  -- `serve` printed the port, and a book of the files served all connections
  abbrev pub IsServedByFiles : ℕ → ℕ → ChannelBytes → ChannelBytes → ChannelBytes → ChannelBytes →
      Status → Type 0
  IsServedByFiles port count out out' err err' status =
      (opened : Kept (FileStore D g)) × (last : Kept (FileStore D g)) × IsSession opened last
      × IsServeDone over_files port count opened last out out' err err'
      status

  -- if a book was taken up from the files: the port wasn't bound, and nothing was done; or serving
  -- stopped for this reason
  abbrev pub IsServeStoppedByFiles : ℕ → ℕ → ChannelBytes → ChannelBytes → ChannelBytes →
      ChannelBytes → Stop → Type 0
  IsServeStoppedByFiles port count out out' err err' stop = IfSome left (λ _.
      (opened : Kept (FileStore D g)) × (last : Kept (FileStore D g)) × IsSession opened last
      × (((stop ≡ Network) × (last ≡ opened) × (out' ≡ out) × (err' ≡ err))
      ⊎ IsServeStopped over_files port count opened last out out' err err'
      stop))

  -- If files were opened and no book was taken up from them, `refused` is left of the files, and a
  -- fault stopped the program. As long as the disk returns what was written, the fault is the
  -- refusal of what is found in the files.
  abbrev pub IsRefusedAs : Option (FilesLeft D g) → Result Status Stop → Type 0
  IsRefusedAs refused done = IfSome refused (λ it.
      (fault : LoadFault) × (left ≡ None) × (done ≡ Err (Load fault))
      × (IsCleanLeft it → IsFaultOf image fault))

-- ---- What is answered

module _ (By : Account) where
  -- A request was read, and its answer printed. `By` gives the state whose answer it is, and the
  -- state after the request.
  pub record IsDoneBy (left_by : State → ReadRequest → State)
      (held out out' err err' : ChannelBytes) (status : Status) : Type 0 where
    pub input : List ℕ
    pub answer : ReplyOrRefusal
    pub told : IsRequestReadAndTold held out out' status input answer
    pub silent : err' ≡ err
    pub by : By (λ s. Answers s (read_request input) answer)
        (λ s. left_by s (read_request input))

  -- lines were read, and for each request it was printed how the state would answer it alone;
  -- nothing is done
  pub record AreLinesCheckedBy (held out out' err err' : ChannelBytes) (status : Status)
      : Type 0 where
    pub lines : List (List ℕ)
    pub answers : List ReplyOrRefusal
    pub read : ReadsLines held lines
    pub told : AreRequestsTold (requests_of lines) answers status out out'
    pub silent : err' ≡ err
    pub by : By (λ s. answers ≡ answers_in s (commands_in (requests_of lines))) (λ s. s)

  -- lines were read, the state's answers to their requests were printed, and the commands of the
  -- requests are done
  pub record AreLinesDoneBy (held out out' err err' : ChannelBytes) (status : Status) : Type 0 where
    pub lines : List (List ℕ)
    pub answers : List ReplyOrRefusal
    pub read : ReadsLines held lines
    pub told : AreRequestsTold (requests_of lines) answers status out out'
    pub silent : err' ≡ err
    pub by : By (λ s. answers ≡ Replies s (commands_in (requests_of lines)))
        (λ s. Fold s (commands_in (requests_of lines)))

  -- what `do` answers, by whether nothing is kept, and by whether there is a command on each line
  abbrev pub IsDoneAs : (dry_run lines : Bool) → ChannelBytes → ChannelBytes → ChannelBytes →
      ChannelBytes → ChannelBytes → Status → Type 0
  IsDoneAs false false held out out' err err' status =
      IsDoneBy left_by_request held out out' err err' status
  IsDoneAs true false held out out' err err' status =
      IsDoneBy left_by_check held out out' err err' status
  IsDoneAs false true held out out' err err' status = AreLinesDoneBy held out out' err err' status
  IsDoneAs true true held out out' err err' status = AreLinesCheckedBy held out out' err err' status

  -- The text is no schedule, and nothing is done. Or the state's answers to its pairings, as parts
  -- of this number, were printed, and the pairings are added.
  pub record IsImportedBy (number : ℕ) (held out out' err err' : ChannelBytes)
      (status : Status) : Type 0 where
    pub text : List ℕ
    pub read : ReadsInput held text
    pub told : (IsNoSchedule text status out out' err err' × By (λ s. ⊤) (λ s. s))
        ⊎ ((plans : List Plan) × (answers : List ReplyOrRefusal) × IsSchedule text plans
        × AreTold plans answers status out out' × (err' ≡ err)
        × By (λ s. answers ≡ Replies s (import number plans))
        (λ s. Fold s (import number plans)))

  -- the state's report on this subject was printed in this form, and nothing is done
  pub record IsShownBy (subject : Subject (List ℕ) (List ℕ)) (form : Form)
      (out out' err err' : ChannelBytes) (status : Status) : Type 0 where
    pub some : (s : State) × IsToldOf s subject form status out out' err err'
    pub by : By (λ s. IsToldOf s subject form status out out' err err') (λ s. s)

-- ---- The program

module _ {D : Type 0} {g : Ghosts D} (image : Image) (left : Option (FilesLeft D g)) where
  -- the action was answered whole, by what a reader has and by the book that the files held
  abbrev pub PerformsByFiles : Action → Status → ChannelBytes → ChannelBytes → ChannelBytes →
      ChannelBytes → ChannelBytes → Type 0
  PerformsByFiles (Init file zone) status held out out' err err' =
      PerformsAction (Init file zone) status held out out' err err'
      × (status ≡ Done → AreLeftEmpty left image (string_bytes zone))
  PerformsByFiles (Do file dry_run lines) status held out out' err err' =
      IsDoneAs (IsByFiles left image) dry_run lines held out out' err err' status
  PerformsByFiles (Import file number) status held out out' err err' =
      IsImportedBy (IsByFiles left image) number held out out' err err' status
  PerformsByFiles (Report file subject form) status held out out' err err' =
      IsShownBy (IsByFiles left image) (subject_bytes subject) form out out' err err' status
  PerformsByFiles (Serve file port connections) status held out out' err err' =
      IsServedByFiles left image port connections out out' err err' status
  PerformsByFiles action status held out out' err err' =
      PerformsAction action status held out out' err err'

  -- the action was answered whole, by what a reader has and by the book that the files held, and
  -- the program ended with this exit status
  abbrev pub IsPerformedByFiles : Action → ℕ → ChannelBytes → ChannelBytes → ChannelBytes →
      ChannelBytes → ChannelBytes → Type 0
  IsPerformedByFiles action code held out out' err err' =
      (status : Status) × (code ≡ exit_status status)
      × PerformsByFiles action status held out out' err err'

  -- what the action leaves of files from which a book was taken up, by what a reader has
  abbrev pub LeavesFiles : Action → ChannelBytes → Type 0
  LeavesFiles (Init file zone) held = IfSome left (IsLeftEmpty image (string_bytes zone))
  LeavesFiles (Do file dry_run lines) held = AreLeftByDo left image dry_run lines held
  LeavesFiles (Import file number) held = AreLeftByImport left image number held
  LeavesFiles (Serve file port connections) held = HaveSession left image
  LeavesFiles action held = AreLetGo left image

  -- what the action did to a book that was taken up from files is a session; `init` takes up none
  abbrev pub IsSessionOf : Action → Type 0
  IsSessionOf (Init file zone) = ⊤
  IsSessionOf action = HaveSession left image

  -- No book was taken up from files that were opened, of which `it` is left. Nothing is printed but
  -- the line of the refusal. As long as the disk returns what was written, the refusal is that of
  -- what is found in the files.
  pub record IsRefusedByFiles (code : ℕ) (told : Bool) (out out' err err' : ChannelBytes)
      (it : FilesLeft D g) : Type 0 where
    pub fault : LoadFault
    pub ends : code ≡ exit_status Failed
    pub untaken : left ≡ None
    pub silent : out' ≡ out
    pub complains : told ≡ true → Appends err err' (refused_line (load_text fault))
    pub cause : IsCleanLeft it → IsFaultOf image fault
