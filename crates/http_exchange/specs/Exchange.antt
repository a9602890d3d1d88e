-- One exchange: what an input asks for, what is written, and what is left unread.
use Rattle.std.specs.Prelude.{◌≡◌, ◌<◌, ◌⊎◌, ⊤, ℕ, Bool, false, List, [], length, drop, take}
use Rattle.std.specs.Prelude.{nat_lt, Option, Some, None, Result, Ok, Err, if◌then◌else◌}
use Rattle.std.specs.Io.KnownBytes.{Appends}
use Rattle.httparse.specs.Grammar.{RequestHead}
use Rattle.http_message.specs.Heading.{heading}
use Rattle.http_message.specs.Plan as planning
use Rattle.http_message.specs.Plan.{Planned, Step, plan_for_head, refuse, receive}
use Rattle.http_message.specs.Reading.{HasHead, HasNoHead}
use Rattle.http_message.specs.Response.{continue_bytes}
use Rattle.http_message.specs.declared.plan.ExpectedBody.{ExpectedBody}
use Rattle.http_message.specs.declared.refusals.RequestFault.{RequestFault}
use Rattle.http_message.specs.declared.refusals.RequestFault.TheVariants.{NoHead, CutBody}
use Rattle.http_exchange.specs.Final.{IsAnswerTold, IsSent, IsFinalTold, of_fault, of_no_memory}
use Rattle.http_exchange.specs.Handler.{HandlerRequest, StatusText, submit, show, show_count}
use Rattle.http_exchange.specs.Handler.{show_desk}
use Rattle.http_exchange.specs.declared.handler.HandlerFault.{HandlerFault}
use Rattle.http_exchange.specs.declared.sending.ChannelFault.{ChannelFault}
use Rattle.http_exchange.specs.declared.sending.ChannelFault.TheVariants.{Reader, Writer}
use Rattle.http_exchange.specs.declared.exchanges.Served.{Served}
use Rattle.http_exchange.specs.declared.exchanges.Served.TheVariants.{Answered, Nothing}

-- ---- what a step makes of the bytes that stand after the head

-- what a step asks of the handler, by the bytes after the head, or why the request is refused: a
-- body that is cut asks nothing
abbrev pub asks : Step → List ℕ → Result HandlerRequest RequestFault
asks (refuse fault) rest = Err fault
asks (planning.show what form) rest = Ok (show what form)
asks planning.show_desk rest = Ok show_desk
asks planning.show_count rest = Ok show_count
asks (receive expected) rest =
    if nat_lt (length rest) expected.length then Err CutBody
    else Ok (submit expected.to (take expected.length rest))

-- what a step leaves unread of the bytes after the head: a body that isn't announced, or is not
-- wanted, isn't read
abbrev pub unread : Step → List ℕ → List ℕ
unread (refuse fault) rest = rest
unread (planning.show what form) rest = rest
unread planning.show_desk rest = rest
unread planning.show_count rest = rest
unread (receive expected) rest = drop expected.length rest

-- what is written before a body is read: that a client that waits may go on
abbrev pub interim_bytes : Bool → List ℕ
interim_bytes waits = if waits then continue_bytes else []

-- what a step writes before the body is read
abbrev pub interim : Step → List ℕ
interim (refuse fault) = []
interim (planning.show what form) = []
interim planning.show_desk = []
interim planning.show_count = []
interim (receive expected) = interim_bytes expected.continues

-- a plan to receive this body
abbrev pub receiving : ExpectedBody → Bool → Planned
receiving expected is_head = record { is_head = is_head; step = receive expected }

-- ---- what an exchange makes of a request

-- the bytes of a reader or a writer, if they are known
abbrev pub ChannelBytes : Type 0
ChannelBytes = Option (List ℕ)

-- Where the reader failed, nothing was written before the head was whole, and afterwards only what
-- is written before a body is read.
abbrev pub IsInterimAtMost : ChannelBytes → ChannelBytes → ChannelBytes → Type 0
IsInterimAtMost None out out' = (waits : Bool) × Appends out out' (interim_bytes waits)
IsInterimAtMost (Some input) out out' =
    Appends out out' []
    ⊎ ((h : RequestHead) × (rest : List ℕ) × HasHead input h rest
    × Appends out out' (interim (plan_for_head (heading h)).step))

module _ {K : Type 0}
    (handles : K → K → HandlerRequest → Result StatusText HandlerFault → Type 0) where
  -- The handler was asked this request, and gave an answer; `old` was kept before, and `new` is
  -- kept after.
  abbrev pub WasAsked : HandlerRequest → K → K → Type 0
  WasAsked asked old new = (answer : Result StatusText HandlerFault) × handles old new asked answer

  -- The handler was asked nothing, and what is kept is as it was, or the handler was asked one
  -- request.
  abbrev pub AsksHandlerOnce : K → K → Type 0
  AsksHandlerOnce old new = (new ≡ old) ⊎ ((asked : HandlerRequest) × WasAsked asked old new)

  -- What a request asks for was asked, and the answer is written after the interim response; or the
  -- request is refused, and its refusal is written.
  abbrev pub IsSettled : Result HandlerRequest RequestFault → List ℕ → Bool →
      ChannelBytes → ChannelBytes → K → K → ℕ → Type 0
  IsSettled (Err fault) front is_head out out' old new code =
      (new ≡ old) × IsFinalTold front out out' code (of_fault fault is_head) is_head
  IsSettled (Ok asked) front is_head out out' old new code =
      (answer : Result StatusText HandlerFault) × handles old new asked answer
      × IsAnswerTold front out out' code answer is_head

  -- The plan was carried out on the bytes after a head: what is left, what was asked, and what was
  -- written.
  pub record IsResponded (p : Planned) (rest : List ℕ) (left out out' : ChannelBytes) (old new : K)
      (code : ℕ) : Type 0 where
    pub left_is : left ≡ Some (unread p.step rest)
    pub settled : IsSettled (asks p.step rest) (interim p.step) p.is_head out out' old new code

  -- The program was out of memory before anything more was read, written or asked; the response is
  -- 503.
  pub record IsShort (rest : List ℕ) (is_head : Bool) (left out out' : ChannelBytes) (old new : K)
      (code : ℕ) : Type 0 where
    pub left_is : left ≡ Some rest
    pub unasked : new ≡ old
    pub sent : IsSent [] out out' code (of_no_memory is_head)

  -- If the rest after a head is known, the plan was carried out on that rest, or the program was
  -- out of memory.
  abbrev pub Responds : Planned → ChannelBytes → ChannelBytes → ChannelBytes → ChannelBytes →
      K → K → ℕ → Type 0
  Responds p None left out out' old new code = ⊤
  Responds p (Some rest) left out out' old new code =
      IsResponded p rest left out out' old new code
      ⊎ IsShort rest p.is_head left out out' old new code

  -- An input without a byte is served nothing. An input without a whole head is refused. For any
  -- other input the plan of its head is followed. If the program is out of memory for a head, one
  -- byte was read.
  abbrev pub IsExchangeServedOf : List ℕ → ChannelBytes → ChannelBytes → ChannelBytes →
      K → K → Served → Type 0
  IsExchangeServedOf input left out out' old new Nothing = (input ≡ []) × (out' ≡ out) × (new ≡ old)
  IsExchangeServedOf input left out out' old new (Answered code) =
      (0 < length input) × (
      (HasNoHead input × IsSettled (Err NoHead) [] false out out' old new code)
      ⊎ (((h : RequestHead) × (rest : List ℕ) × HasHead input h rest
      × Responds (plan_for_head (heading h)) (Some rest) left out out' old new code)
      ⊎ IsShort (drop 1 input) false left out out' old new code)
      )

  -- If the reader's input is known, an exchange served that input.
  abbrev pub IsExchangeServed : ChannelBytes → ChannelBytes → ChannelBytes → ChannelBytes →
      K → K → Served → Type 0
  IsExchangeServed None left out out' old new it = ⊤
  IsExchangeServed (Some input) left out out' old new it =
      IsExchangeServedOf input left out out' old new it

  -- ---- a channel that failed

  -- The handler was asked nothing, or what the request asks for, if it asks for anything.
  abbrev pub MayHaveAsked : Result HandlerRequest RequestFault → K → K → Type 0
  MayHaveAsked (Err fault) old new = new ≡ old
  MayHaveAsked (Ok asked) old new = (new ≡ old) ⊎ WasAsked asked old new

  -- After a head, the channel failed. If the reader failed, nothing was asked, and only the interim
  -- response to a client that waits was written. If the writer failed, at most what the request
  -- asks for was asked.
  abbrev pub BreaksOff : Planned → ChannelBytes → ChannelBytes → ChannelBytes →
      K → K → ChannelFault → Type 0
  BreaksOff p had out out' old new Reader = (new ≡ old) × Appends out out' (interim p.step)
  BreaksOff p None out out' old new Writer = ⊤
  BreaksOff p (Some rest) out out' old new Writer = MayHaveAsked (asks p.step rest) old new

  -- From the head on, the channel failed. If the reader failed, nothing was asked, and at most the
  -- interim response was written. If the writer failed, at most what the request asks for was
  -- asked.
  abbrev pub IsExchangeBrokenOff : ChannelBytes → ChannelBytes → ChannelBytes →
      K → K → ChannelFault → Type 0
  IsExchangeBrokenOff had out out' old new Reader = (new ≡ old) × IsInterimAtMost had out out'
  IsExchangeBrokenOff None out out' old new Writer = ⊤
  IsExchangeBrokenOff (Some input) out out' old new Writer =
      (new ≡ old)
      ⊎ ((h : RequestHead) × (rest : List ℕ) × HasHead input h rest
      × MayHaveAsked (asks (plan_for_head (heading h)).step rest) old new)
