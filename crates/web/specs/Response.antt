-- The response to an input in a state of the book: what is written, the commands whose state is
-- left, and what is left unread.
use Rattle.std.specs.Prelude.{◌≡◌, ◌⊎◌, ◌<◌, ℕ, Bool, false, List, [], ◌++◌, length, Option, Some}
use Rattle.std.specs.Prelude.{None, Result, Ok, Err}
use Rattle.httparse.specs.Grammar.{RequestHead}
use Rattle.roster.specs.State.{State}
use Rattle.http_message.specs.Heading.{heading}
use Rattle.http_message.specs.Plan.{Planned, plan_for_head}
use Rattle.http_message.specs.Reading.{HasHead, HasNoHead}
use Rattle.http_message.specs.declared.refusals.RequestFault.{RequestFault}
use Rattle.http_message.specs.declared.refusals.RequestFault.TheVariants.{NoHead}
use Rattle.http_exchange.specs.Exchange as exchange
use Rattle.http_exchange.specs.Exchange.{asks}
use Rattle.http_exchange.specs.Final.{Final, of_answer, of_fault}
use Rattle.http_exchange.specs.Handler.{StatusText, HandlerRequest}
use Rattle.web.specs.Acts.{Asks, Commands, IsAnswer}

-- A response: what is written before a body is read, and in the end; the commands that are done;
-- and what is left unread, if that is said.
pub record WholeResponse : Type 0 where
  pub interim : List ℕ
  pub final : Final
  pub commands : Commands
  pub unread : Option (List ℕ)

-- all bytes that are written for a response
abbrev pub bytes : WholeResponse → List ℕ
bytes r = r.interim ++ r.final.bytes

-- the response where there is no whole head; it doesn't say what is left unread
abbrev pub no_head : WholeResponse
no_head = record { interim = []; final = of_fault NoHead false; commands = []; unread = None }

module _ (s : State) where
  -- the final response: a request that asks nothing is refused, and any other gets the book's
  -- answer
  abbrev pub IsFinal : Result HandlerRequest RequestFault → Bool → Commands → Final → Type 0
  IsFinal (Err fault) is_head commands final = (commands ≡ []) × (final ≡ of_fault fault is_head)
  IsFinal (Ok asked) is_head commands final =
      Asks asked commands
      × ((answer : StatusText) × IsAnswer s asked answer × (final ≡ of_answer (Ok answer) is_head))

  -- the response to a head with this plan, after which these bytes stand
  pub record IsResponseTo (p : Planned) (rest : List ℕ) (r : WholeResponse) : Type 0 where
    pub interim_is : r.interim ≡ exchange.interim p.step
    pub final_is : IsFinal (asks p.step rest) p.is_head r.commands r.final
    pub unread_is : r.unread ≡ Some (exchange.unread p.step rest)

  -- the response to an input
  abbrev pub IsResponse : List ℕ → WholeResponse → Type 0
  IsResponse input r =
      (0 < length input) × (
      (HasNoHead input × (r ≡ no_head))
      ⊎ ((h : RequestHead) × (rest : List ℕ) × HasHead input h rest
      × IsResponseTo (plan_for_head (heading h)) rest r)
      )
