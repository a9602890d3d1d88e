-- What is received of a request whose head was read, before a handler is asked.
use Rattle.std.specs.Prelude.{◌≡◌, ⊤, List, ℕ, Some, None, Result, Ok, Err}
use Rattle.std.specs.Io.KnownBytes.{Appends}
use Rattle.request.specs.Subjects.{subject_copied}
use Rattle.http_message.specs.Plan.{Planned}
use Rattle.http_exchange.specs.Exchange.{ChannelBytes, Responds, BreaksOff, asks, interim, unread}
use Rattle.http_exchange.specs.Handler.{HandlerRequest, StatusText, submit, show, show_count}
use Rattle.http_exchange.specs.Handler.{show_desk}
use Rattle.http_exchange.specs.declared.handler.HandlerFault.{HandlerFault}
use Rattle.http_exchange.specs.declared.receiving.Received.{Received}
use Rattle.http_exchange.specs.declared.receiving.Received.TheVariants.{Body, Report, Desk, Count}
use Rattle.http_exchange.specs.declared.receiving.Received.TheVariants.{Answered}
use Rattle.http_exchange.specs.declared.sending.ChannelFault.{ChannelFault}

-- a handler that answers nothing: what holds of a request with this handler holds of a request that
-- asks nothing
abbrev pub IsNeverAsked : ⊤ → ⊤ → HandlerRequest → Result StatusText HandlerFault → Type 0
IsNeverAsked old new asked answer = ⊥

-- What the plan asks for stood after the head and was read, and the interim response was written.
pub record IsAskedFor (p : Planned) (rest : List ℕ) (left out out' : ChannelBytes)
    (asked : HandlerRequest) : Type 0 where
  pub whole : asks p.step rest ≡ Ok asked
  pub left_is : left ≡ Some (unread p.step rest)
  pub interim_is : Appends out out' (interim p.step)

-- If the rest after a head is known, what the plan asks for was read from that rest.
abbrev pub AsksFor : Planned → ChannelBytes → ChannelBytes → ChannelBytes → ChannelBytes →
    HandlerRequest → Type 0
AsksFor p None left out out' asked = ⊤
AsksFor p (Some rest) left out out' asked = IsAskedFor p rest left out out' asked

-- What was received of a request: something to ask of the handler, or the response to a request
-- that asks nothing.
abbrev pub IsReceived : Planned → ChannelBytes → ChannelBytes → ChannelBytes → ChannelBytes →
    Received → Type 0
IsReceived p had left out out' (Body to body) = AsksFor p had left out out' (submit to body.items)
IsReceived p had left out out' (Report what form) =
    AsksFor p had left out out' (show (subject_copied what) form)
IsReceived p had left out out' Desk = AsksFor p had left out out' show_desk
IsReceived p had left out out' Count = AsksFor p had left out out' show_count
IsReceived p had left out out' (Answered code) =
    Responds IsNeverAsked p had left out out' tt tt code

-- A request was received, or the channel failed and nothing is asked.
abbrev pub IsReceivedOrFails : Planned → ChannelBytes → ChannelBytes → ChannelBytes → ChannelBytes →
    Result Received ChannelFault → Type 0
IsReceivedOrFails p had left out out' (Ok it) = IsReceived p had left out out' it
IsReceivedOrFails p had left out out' (Err fault) =
    BreaksOff IsNeverAsked p had out out' tt tt fault
