-- Final responses.
use Rattle.std.specs.Prelude.{◌≡◌, ◌⊎◌, ℕ, Bool, List, ◌++◌, Option, Result, Ok, Err, MatchResult}
use Rattle.std.specs.Io.KnownBytes.{Appends}
use Rattle.http_message.specs.Refusals.{status}
use Rattle.http_message.specs.Response.{response, fault_response, no_memory, no_store}
use Rattle.http_message.specs.declared.refusals.RequestFault.{RequestFault}
use Rattle.http_exchange.specs.Handler.{StatusText, answer}
use Rattle.http_exchange.specs.declared.handler.Response.{Response}
use Rattle.http_exchange.specs.declared.handler.HandlerFault.{HandlerFault}
use Rattle.http_exchange.specs.declared.handler.HandlerFault.TheVariants.{Store, Memory}
use Rattle.http_exchange.specs.declared.sending.ChannelFault.{ChannelFault}
use Rattle.http_exchange.specs.declared.sending.ChannelFault.TheVariants.{Writer}

-- a final response: its status and its bytes, to `HEAD` without a body
pub record Final : Type 0 where
  pub status : ℕ
  pub bytes : List ℕ

-- the final response to a refused request
abbrev pub of_fault : RequestFault → Bool → Final
of_fault fault is_head = record { status = status fault; bytes = fault_response fault is_head }

-- the final response when the program is out of memory (91)
abbrev pub of_no_memory : Bool → Final
of_no_memory is_head = record { status = 503; bytes = no_memory is_head }

-- the final response when the store failed (90)
abbrev pub of_no_store : Bool → Final
of_no_store is_head = record { status = 503; bytes = no_store is_head }

-- the final response to the outcome of a handler: its answer, or its fault
abbrev pub of_answer : Result StatusText HandlerFault → Bool → Final
of_answer (Ok a) is_head =
    record { status = a.status; bytes = response a.status a.media_type a.advice a.text is_head }
of_answer (Err Store) is_head = of_no_store is_head
of_answer (Err Memory) is_head = of_no_memory is_head

-- the final response of a handler's answer, as the program holds it
abbrev pub of_response : Response → Bool → Final
of_response r is_head = of_answer (Ok (answer r)) is_head

-- These front bytes and then this final response were written, under its status.
abbrev pub IsSent : List ℕ → Option (List ℕ) → Option (List ℕ) → ℕ → Final → Type 0
IsSent front out out' code final = (code ≡ final.status) × Appends out out' (front ++ final.bytes)

-- This final response was written after the front bytes, or the response for out of memory was
-- written in its place.
abbrev pub IsFinalTold : List ℕ → Option (List ℕ) → Option (List ℕ) → ℕ → Final → Bool → Type 0
IsFinalTold front out out' code final is_head =
    IsSent front out out' code final ⊎ IsSent front out out' code (of_no_memory is_head)

-- The handler's answer was written, or the response for out of memory in its place. A handler's
-- fault, of the store or of memory, needs no memory to report: its response was written.
abbrev pub IsAnswerTold : List ℕ → Option (List ℕ) → Option (List ℕ) → ℕ →
    Result StatusText HandlerFault → Bool → Type 0
IsAnswerTold front out out' code (Ok a) is_head =
    IsFinalTold front out out' code (of_answer (Ok a) is_head) is_head
IsAnswerTold front out out' code (Err fault) is_head =
    IsSent front out out' code (of_answer (Err fault) is_head)

-- The result is a status for which `IsDone` holds, or the fault of the writer.
abbrev pub OrFails : Result ℕ ChannelFault → (ℕ → Type 0) → Type 0
OrFails result IsDone = MatchResult result (λ code. IsDone code) (λ fault. fault ≡ Writer)
