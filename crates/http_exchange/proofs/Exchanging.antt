-- What an exchange did, from what its parts did.
use Rattle.std.proofs.Common.{◌≡◌, ◌≤◌, ◌<◌, ◌∙◌, ap, inl, inr, ℕ, Bool, true, false, List, [], length, take, nat_lt, refl, sym, subst, arith, Some, None, Result, Ok, Err, IfOk}
use Rattle.std.proofs.lemmas.Bool.Decides.{nat_tests}
use Rattle.std.specs.Io.KnownBytes.{Appends}
use Rattle.std.proofs.KnownBytes.{Appends-nil, Appends-trans}
use Rattle.http_message.proofs.HeadLemmas.{has_byte}
use Rattle.http_message.specs.Heading.{Heading}
use Rattle.http_message.specs.Plan as planning
use Rattle.http_message.specs.Plan.{Planned, Step, plan_for_head, refuse, receive}
use Rattle.http_message.specs.Reading as reading
use Rattle.http_message.specs.declared.plan.ExpectedBody.{ExpectedBody}
use Rattle.http_message.specs.declared.reading.ReadFault.TheVariants.{Memory}
use Rattle.http_message.specs.declared.refusals.RequestFault.{RequestFault}
use Rattle.http_message.specs.declared.refusals.RequestFault.TheVariants.{NoHead, CutBody}
use Rattle.http_exchange.specs.Body.{IsWholeAt, IsCutAt}
use Rattle.http_exchange.specs.Final.{Final, IsAnswerTold, IsSent, IsFinalTold, OrFails, of_answer, of_fault, of_no_memory}
use Rattle.http_exchange.specs.Handler.{HandlerRequest, StatusText, submit}
use Rattle.http_exchange.specs.declared.handler.HandlerFault.{HandlerFault}
use Rattle.http_exchange.specs.declared.sending.ChannelFault.{ChannelFault}
use Rattle.http_exchange.specs.declared.sending.ChannelFault.TheVariants.{Reader, Writer}
use Rattle.http_exchange.specs.declared.exchanges.Served.TheVariants.{Answered, Nothing}
use Rattle.http_exchange.specs.Exchange.{ChannelBytes, asks, interim, interim_bytes, receiving, IsSettled, Responds, IsExchangeServed, MayHaveAsked, BreaksOff, IsExchangeBrokenOff}
use Rattle.http_exchange.specs.Receiving.{AsksFor, IsNeverAsked}

-- what was written after other bytes
told_after : (front : List ℕ) (out mid out' : ChannelBytes) (code : ℕ) (final : Final) (is_head : Bool) → Appends out mid front → IsFinalTold [] mid out' code final is_head → IsFinalTold front out out' code final is_head
told_after front out mid out' code final is_head first (inl sent) = inl (sent.0, Appends-trans out mid out' front final.bytes first sent.1)
told_after front out mid out' code final is_head first (inr sent) = inr (sent.0, Appends-trans out mid out' front (of_no_memory is_head).bytes first sent.1)

answer_told_after : (front : List ℕ) (out mid out' : ChannelBytes) (code : ℕ) (answer : Result StatusText HandlerFault) (is_head : Bool) → Appends out mid front → IsAnswerTold [] mid out' code answer is_head → IsAnswerTold front out out' code answer is_head
answer_told_after front out mid out' code (Ok a) is_head first told = told_after front out mid out' code (of_answer (Ok a) is_head) is_head first told
answer_told_after front out mid out' code (Err fault) is_head first sent = (sent.0, Appends-trans out mid out' front (of_answer (Err fault) is_head).bytes first sent.1)

module _ {K : Type 0} (handles : K → K → HandlerRequest → Result StatusText HandlerFault → Type 0) where
  may_stay : (a : Result HandlerRequest RequestFault) (old : K) → MayHaveAsked handles a old old
  may_stay (Ok asked) old = inl refl
  may_stay (Err fault) old = refl

  pub unasked_broken : (p : Planned) (had out out' : ChannelBytes) (old : K) (fault : ChannelFault) → fault ≡ Writer → BreaksOff handles p had out out' old old fault
  unasked_broken p had out out' old Reader is = absurd cc
  unasked_broken p None out out' old Writer is = tt
  unasked_broken p (Some rest) out out' old Writer is = may_stay (asks p.step rest) old

  -- ---- a request that asks nothing

  nothing_settled : (a : Result HandlerRequest RequestFault) (front : List ℕ) (is_head : Bool) (out out' : ChannelBytes) (old : K) (code : ℕ)
      → IsSettled IsNeverAsked a front is_head out out' tt tt code → IsSettled handles a front is_head out out' old old code
  nothing_settled (Err fault) front is_head out out' old code is = (refl, is.1)
  nothing_settled (Ok asked) front is_head out out' old code is = absurd is.1

  pub nothing_responds : (p : Planned) (had left out out' : ChannelBytes) (old : K) (code : ℕ)
      → Responds IsNeverAsked p had left out out' tt tt code → Responds handles p had left out out' old old code
  nothing_responds p None left out out' old code is = tt
  nothing_responds p (Some rest) left out out' old code (inl is) =
      inl (record { left_is = is.left_is; settled = nothing_settled (asks p.step rest) (interim p.step) p.is_head out out' old code is.settled })
  nothing_responds p (Some rest) left out out' old code (inr is) = inr (record { left_is = is.left_is; unasked = refl; sent = is.sent })

  pub nothing_broken : (p : Planned) (had out out' : ChannelBytes) (old : K) (fault : ChannelFault)
      → BreaksOff IsNeverAsked p had out out' tt tt fault → BreaksOff handles p had out out' old old fault
  nothing_broken p had out out' old Reader is = (refl, is.1)
  nothing_broken p None out out' old Writer is = tt
  nothing_broken p (Some rest) out out' old Writer is = may_stay (asks p.step rest) old

  -- ---- what is asked, and answered

  pub answered : (p : Planned) (had left out mid out' : ChannelBytes) (old new : K) (asked : HandlerRequest) (answer : Result StatusText HandlerFault) (code : ℕ)
      → AsksFor p had left out mid asked → handles old new asked answer → IsAnswerTold [] mid out' code answer p.is_head
      → Responds handles p had left out out' old new code
  answered p None left out mid out' old new asked answer code is handled told = tt
  answered p (Some rest) left out mid out' old new asked answer code is handled told =
      let after = answer_told_after (interim p.step) out mid out' code answer p.is_head is.interim_is told in
      inl (record {
        left_is = is.left_is;
        settled = subst (λ a. IsSettled handles a (interim p.step) p.is_head out out' old new code) (sym is.whole) (answer, handled, after);
      })

  pub answer_unwritten : (p : Planned) (had left out mid out' : ChannelBytes) (old new : K) (asked : HandlerRequest) (answer : Result StatusText HandlerFault) (fault : ChannelFault)
      → AsksFor p had left out mid asked → handles old new asked answer → fault ≡ Writer
      → BreaksOff handles p had out out' old new fault
  answer_unwritten p had left out mid out' old new asked answer Reader is handled never = absurd cc
  answer_unwritten p None left out mid out' old new asked answer Writer is handled never = tt
  answer_unwritten p (Some rest) left out mid out' old new asked answer Writer is handled never =
      subst (λ a. MayHaveAsked handles a old new) (sym is.whole) (inr (answer, handled))

  -- ---- a head

  pub refused : (fault : RequestFault) (is_head : Bool) (had out out' : ChannelBytes) (old : K) (r : Result ℕ ChannelFault)
      → OrFails r (λ code. IsFinalTold [] out out' code (of_fault fault is_head) is_head)
      → IfOk r (λ code. Responds handles (record { is_head = is_head; step = refuse fault }) had had out out' old old code)
  refused fault is_head had out out' old (Err e) told = tt
  refused fault is_head None out out' old (Ok code) told = tt
  refused fault is_head (Some rest) out out' old (Ok code) told = inl (record { left_is = refl; settled = (refl, told) })

  pub short : (p : Planned) (had out out' : ChannelBytes) (old : K) (r : Result ℕ ChannelFault)
      → OrFails r (λ code. IsSent [] out out' code (of_no_memory p.is_head))
      → IfOk r (λ code. Responds handles p had had out out' old old code)
  short p had out out' old (Err e) sent = tt
  short p None out out' old (Ok code) sent = tt
  short p (Some rest) out out' old (Ok code) sent = inr (record { left_is = refl; unasked = refl; sent = sent })

  -- ---- a body

  module _ (expected : ExpectedBody) (is_head : Bool) where
    whole_asks : (rest : List ℕ) → expected.length ≤ length rest → asks (receive expected) rest ≡ Ok (submit expected.to (take expected.length rest))
    whole_asks rest long = let e : nat_lt (length rest) expected.length ≡ false = grind (arith, nat_tests) in rw e refl

    cut_asks : (rest : List ℕ) → length rest < expected.length → asks (receive expected) rest ≡ Err CutBody
    cut_asks rest few = let e : nat_lt (length rest) expected.length ≡ true = grind (arith, nat_tests) in rw e refl

    pub taken : (had left out out' : ChannelBytes) (body : List ℕ)
        → Appends out out' (interim_bytes expected.continues) → IsWholeAt expected.length had left body
        → AsksFor (receiving expected is_head) had left out out' (submit expected.to body)
    taken None left out out' body first whole = tt
    taken (Some rest) left out out' body first whole = record {
      whole = whole_asks rest whole.0 ∙ ap (λ body. Ok (submit expected.to body)) (sym whole.1);
      left_is = whole.2;
      interim_is = first;
    }

    -- the reader failed in the body, after the interim response
    pub body_unread : (had out out' : ChannelBytes) (old : K) → Appends out out' (interim_bytes expected.continues) → BreaksOff handles (receiving expected is_head) had out out' old old Reader
    body_unread had out out' old first = (refl, first)

    pub cut : (had left out mid out' : ChannelBytes) (old : K) (r : Result ℕ ChannelFault)
        → Appends out mid (interim_bytes expected.continues) → IsCutAt expected.length had left → OrFails r (λ code. IsFinalTold [] mid out' code (of_fault CutBody is_head) is_head)
        → IfOk r (λ code. Responds handles (receiving expected is_head) had left out out' old old code)
    cut had left out mid out' old (Err e) first short told = tt
    cut None left out mid out' old (Ok code) first short told = tt
    cut (Some rest) left out mid out' old (Ok code) first short told =
        let front = interim_bytes expected.continues in
        inl (record {
          left_is = short.1;
          settled = subst (λ a. IsSettled handles a front is_head out out' old old code) (sym (cut_asks rest short.0)) (refl, told_after front out mid out' code (of_fault CutBody is_head) is_head first told);
        })

  -- ---- an input

  pub nothing : (had left out : ChannelBytes) (old : K) → reading.IsReadEmpty had → IsExchangeServed handles had left out out old old Nothing
  nothing None left out old is = tt
  nothing (Some input) left out old is = (is, refl, refl)

  pub no_head : (had left out out' : ChannelBytes) (old : K) (code : ℕ) → reading.HasNoWholeHead had → IsFinalTold [] out out' code (of_fault NoHead false) false
      → IsExchangeServed handles had left out out' old old (Answered code)
  no_head None left out out' old code none told = tt
  no_head (Some input) left out out' old code none told = (none.0, inl (none.1, (refl, told)))

  -- what was read of the input, and what was answered to it
  pub served : (had mid left out out' : ChannelBytes) (old new : K) (head : Heading) (code : ℕ) → reading.IsReadWhole had mid head → Responds handles (plan_for_head head) mid left out out' old new code
      → IsExchangeServed handles had left out out' old new (Answered code)
  served None mid left out out' old new head code is answers = tt
  served (Some input) mid left out out' old new head code (h, rest, has, is, there) answers =
      let after = subst (λ m. Responds handles (plan_for_head head) m left out out' old new code) there answers in
      (has_byte input h rest has.reads, inr (inl (h, rest, has, subst (λ head. Responds handles (plan_for_head head) (Some rest) left out out' old new code) is after)))

  -- what is written before the body is read
  interim_is : (step : Step) → (waits : Bool) × (interim step ≡ interim_bytes waits)
  interim_is (refuse fault) = (false, refl)
  interim_is (planning.show what form) = (false, refl)
  interim_is planning.show_desk = (false, refl)
  interim_is planning.show_count = (false, refl)
  interim_is (receive expected) = (expected.continues, refl)

  pub broken_off : (had mid out out' : ChannelBytes) (old new : K) (head : Heading) (fault : ChannelFault) → reading.IsReadWhole had mid head
      → BreaksOff handles (plan_for_head head) mid out out' old new fault → IsExchangeBrokenOff handles had out out' old new fault
  broken_off None mid out out' old new head Reader is breaks =
      let it = interim_is (plan_for_head head).step in
      (breaks.0, (it.0, subst (Appends out out') it.1 breaks.1))
  broken_off (Some input) mid out out' old new head Reader (h, rest, has, is, there) breaks =
      (breaks.0, inr (h, rest, has, subst (λ head. Appends out out' (interim (plan_for_head head).step)) is breaks.1))
  broken_off None mid out out' old new head Writer is breaks = tt
  broken_off (Some input) mid out out' old new head Writer (h, rest, has, is, there) breaks =
      let after = subst (λ m. BreaksOff handles (plan_for_head head) m out out' old new Writer) there breaks in
      inr (h, rest, has, subst (λ head. MayHaveAsked handles (asks (plan_for_head head).step rest) old new) is after)

  pub without_memory : (had left out out' : ChannelBytes) (old : K) (code : ℕ) → reading.IsHeadUnread Memory had left → IsSent [] out out' code (of_no_memory false)
      → IsExchangeServed handles had left out out' old old (Answered code)
  without_memory None left out out' old code is sent = tt
  without_memory (Some input) left out out' old code is sent = (is.0, inr (inr (record { left_is = is.1; unasked = refl; sent = sent })))

  pub unasked_off : (had out out' : ChannelBytes) (old : K) (fault : ChannelFault) → fault ≡ Writer → IsExchangeBrokenOff handles had out out' old old fault
  unasked_off had out out' old Reader is = absurd cc
  unasked_off None out out' old Writer is = tt
  unasked_off (Some input) out out' old Writer is = inl refl

  -- the reader failed in the head
  pub head_unread : (had out : ChannelBytes) (old : K) → IsExchangeBrokenOff handles had out out old old Reader
  head_unread None out old = (refl, (false, Appends-nil out))
  head_unread (Some input) out old = (refl, inl (Appends-nil out))
