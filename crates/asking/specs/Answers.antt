-- What the answer to a request is: its kind, and its text in JSON.
use Rattle.std.specs.Prelude.{◌≡◌, ℕ, List, [], ◌∷◌, ◌++◌, codes, string_bytes, String, Result, Ok}
use Rattle.std.specs.Prelude.{Err, flat_map}
use Rattle.std.specs.Global.{Global}
use Rattle.values.specs.declared.memory_fault.MemoryFault.{MemoryFault}
use Rattle.command.specs.declared.refusal.Refusal.{Refusal}
use Rattle.command.specs.declared.refusal.Refusal.TheVariants.{SegmentCount}
use Rattle.roster.specs.Folds.{ReplyOrRefusal}
use Rattle.stored_json.specs.ReplyText.{reply_text}
use Rattle.stored_json.specs.declared.fault.CodecFault.{CodecFault}
use Rattle.codec.specs.RefusalText.{fault_reply, refusal_json_text}
use Rattle.state_rows.specs.declared.fault.StoreFault.{StoreFault}
use Rattle.book.specs.Kept.{result_of}
use Rattle.book.specs.declared.answer.Answer.{Answer}
use Rattle.asking.specs.declared.answers.AnswerKind.{AnswerKind}
use Rattle.asking.specs.declared.answers.AnswerKind.TheVariants.{Accepted, Refused, Unfit}
use Rattle.asking.specs.declared.answers.AskFault.{AskFault}
use Rattle.asking.specs.declared.answers.AskFault.TheVariants.{Book, Memory}
use Rattle.asking.specs.declared.answers.JsonAnswer.{JsonAnswer}

-- the text of an answer of the book in JSON
abbrev pub answer_json : ReplyOrRefusal → List ℕ
answer_json (Ok reply) = reply_text reply
answer_json (Err refusal) = refusal_json_text refusal

-- texts in turn, with a comma between
abbrev pub with_commas : List (List ℕ) → List ℕ
with_commas [] = []
with_commas (first ∷ others) = first ++ flat_map (λ text. codes "," ++ text) others

-- the kind of a refusal of the book: 19 comes whatever the book holds, and each other refusal
-- conflicts with what the book holds
abbrev pub refusal_kind : Refusal → AnswerKind
refusal_kind (SegmentCount period) = Unfit
refusal_kind refusal = Refused

-- the kind of an answer of the book
abbrev pub answer_kind : ReplyOrRefusal → AnswerKind
answer_kind (Ok reply) = Accepted
answer_kind (Err refusal) = refusal_kind refusal

-- an answer of this kind with this text is given, or there is no memory for the text
abbrev pub IsOrMemory : AnswerKind → List ℕ → Result JsonAnswer AskFault → Type 0
IsOrMemory kind text (Ok answer) = (answer.kind ≡ kind) × (string_bytes answer.text ≡ text)
IsOrMemory kind text (Err fault) = fault ≡ Memory

-- an answer of the book is reported, or a fault that the book met
abbrev pub Reports : Result Answer StoreFault → Result JsonAnswer AskFault → Type 0
Reports (Ok answer) result =
    IsOrMemory (answer_kind (result_of answer)) (answer_json (result_of answer)) result
Reports (Err fault) result = result ≡ Err (Book fault)

-- why a request isn't read is reported
abbrev pub ReportsUnread : CodecFault → Result JsonAnswer AskFault → Type 0
ReportsUnread fault result = IsOrMemory Unfit (fault_reply fault) result

-- an answer of this kind has the text; if there is no text, it is out of memory
abbrev pub IsInJson : AnswerKind → Result (String Global) MemoryFault → Result JsonAnswer AskFault
    → Type 0
IsInJson kind (Ok text) result = result ≡ Ok (record { kind = kind; text = text })
IsInJson kind (Err fault) result = result ≡ Err Memory
