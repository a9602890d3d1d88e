-- What becomes of a schedule: its pairings are added in turn, and each answer is heard.
use Rattle.std.specs.Prelude.{◌≡◌, ◌⊎◌, ⊤, ℕ, ◌+◌, List, [], ◌∷◌, length, take, slice_get}
use Rattle.std.specs.Prelude.{Some, Result, Ok, Err}
use Rattle.sqlite_trees.specs.declared.store.Store.{Ghosts}
use Rattle.duty.specs.Plans.{Plan}
use Rattle.stored_json.specs.declared.fault.CodecFault.TheVariants.{BadCsv}
use Rattle.codec.specs.Schedule.{IsAtFault, IsSchedule}
use Rattle.roster.specs.Folds.{Asked, ReplyOrRefusal, import}
use Rattle.book.specs.Answered.{IsAnswered}
use Rattle.book.specs.Kept.{Kept, result_of}
use Rattle.book.specs.declared.answer.Answer.{Answer}
use Rattle.asking.specs.Requests.{AreAnswered}
use Rattle.asking.specs.declared.answers.AskFault.TheVariants.{Book, Memory}
use Rattle.asking.specs.declared.schedules.NotAllAsked.{NotAllAsked}
use Rattle.asking.specs.declared.schedules.NotAllAsked.TheVariants.{Unread, Ask, Unheard}

-- what a listener says of itself before and after it heard the answer to this part, or failed at it
abbrev pub Hearing : Type 0 → Type 0 → Type 1
Hearing L F = L → L → ℕ → ReplyOrRefusal → Result ⊤ F → Type 0

-- a listener heard these answers in turn, the first as that to this part
abbrev pub HasHeard : {L F : Type 0} → Hearing L F → L → ℕ → List Answer → L → Type 0
HasHeard hears old part [] new = new ≡ old
HasHeard {L} hears old part (answer ∷ answers) new =
    (next : L) × hears old next part (result_of answer) (Ok tt)
    × HasHeard hears next (part + 1) answers new

-- why a schedule isn't asked: a record of it is at fault, or there was no memory to read it
abbrev pub IsUnread : {F : Type 0} → List ℕ → Result ⊤ (NotAllAsked F) → Type 0
IsUnread text result =
    ((line : ℕ) × IsAtFault text line × (result ≡ Err (Unread (BadCsv line))))
    ⊎ (result ≡ Err (Ask Memory))

module _ {S L F : Type 0} (g : Ghosts S) (hears : Hearing L F) where
  -- How asking parts ended, where `now` and `heard` were the book and the listener after these
  -- answers, and `new` and `listener` are so at the end. There were no more parts; or the book met
  -- a fault at the next part; or the listener failed at the answer to the next part.
  abbrev pub EndsAfter : List Asked → List Answer → Kept S × L → Kept S × L →
      Result ⊤ (NotAllAsked F) → Type 0
  EndsAfter parts answers (now, heard) (new, listener) (Ok _) =
      (length answers ≡ length parts) × (new ≡ now) × (listener ≡ heard)
  EndsAfter parts answers (now, heard) (new, listener) (Err (Ask (Book fault))) =
      (part : Asked) × (slice_get parts (length answers) ≡ Some part)
      × IsAnswered g now new part (Err fault) × (listener ≡ heard)
  EndsAfter parts answers (now, heard) (new, listener) (Err (Unheard fault)) =
      (part : Asked) × (slice_get parts (length answers) ≡ Some part)
      × (answer : Answer) × IsAnswered g now new part (Ok answer)
      × hears heard listener (length answers + 1) (result_of answer) (Err fault)
  EndsAfter parts answers (now, heard) (new, listener) (Err (Ask Memory)) = ⊥
  EndsAfter parts answers (now, heard) (new, listener) (Err (Unread fault)) = ⊥

  -- a book was asked these parts in turn and a listener heard each answer, up to the end
  pub record ArePartsAsked (old new : Kept S) (listener listener' : L) (parts : List Asked)
      (result : Result ⊤ (NotAllAsked F)) : Type 0 where
    pub answers : List Answer
    pub now : Kept S
    pub heard : L
    pub answered : AreAnswered (IsAnswered g) old (take (length answers) parts) answers now
    pub all_heard : HasHeard hears listener 1 answers heard
    pub ends : EndsAfter parts answers (now, heard) (new, listener') result

  -- a text was no schedule, or there was no memory to read it, and nothing was asked; or it was a
  -- schedule, and its pairings were added under the parts of a number
  abbrev pub IsScheduleAsked : Kept S → Kept S → L → L → ℕ → List ℕ →
      Result ⊤ (NotAllAsked F) → Type 0
  IsScheduleAsked old new listener listener' number text result =
      (IsUnread text result × (new ≡ old) × (listener' ≡ listener))
      ⊎ ((plans : List Plan) × IsSchedule text plans
      × ArePartsAsked old new listener listener' (import number plans) result)
