-- Requests that were answered in turn, and more of them.
use Rattle.std.proofs.Common.{◌≡◌, ◌≤◌, ℕ, zero, suc, ◌+◌, Bool, false, List, refl, sym, ap, subst, inl, inr, Result, Ok, Err, arith}
use Rattle.http_exchange.specs.Exchange.{ChannelBytes}
use Rattle.http_exchange.specs.declared.exchanges.Served.{Served}
use Rattle.http_exchange.specs.declared.sending.ChannelFault.{ChannelFault}
use Rattle.waiting.specs.Answered.{AnswersOver, InTurn}
use Rattle.waiting.specs.Dialogue.{Converses, IsGivenUp, IsNextSaid, IsOnItsWay, StaysOrEnds, requests_left}
use Rattle.waiting.specs.declared.dialogue.Dialogue.{Dialogue}
use Rattle.waiting.specs.declared.dialogue.Stage.{Stage}
use Rattle.waiting.specs.declared.dialogue.Stage.TheVariants.{Receiving, Sending, Ending, Over, Failed}

module _ {K : Type 0} (answers : K → K → List ℕ → List ℕ → Result Served ChannelFault → Type 0) (fails : K → Bool) where
  -- nothing was answered, and not more may be asked
  pub none_answered : (before after : ℕ) (kept : K) → after ≤ before → AnswersOver answers fails before after kept kept
  none_answered before after kept few = (0, refl, omega (arith, few))

  pub in_turn_more : (n m : ℕ) (old now new : K) → InTurn answers fails n old now → InTurn answers fails m now new → InTurn answers fails (n + m) old new
  in_turn_more zero m old now new same more =
      let sum : 0 + m ≡ m = omega arith in
      subst (λ k. InTurn answers fails k old new) (sym sum) (subst (λ k. InTurn answers fails m k new) same more)
  in_turn_more (suc n) m old now new (fine, next, first, rest) more =
      let sum : suc n + m ≡ suc (n + m) = omega arith in
      subst (λ k. InTurn answers fails k old new) (sym sum) (fine, next, first, in_turn_more n m next now new rest more)

  -- some were answered, and then some more
  pub answered_more : (before mid after : ℕ) (old now new : K) → AnswersOver answers fails before mid old now → AnswersOver answers fails mid after now new → AnswersOver answers fails before after old new
  answered_more before mid after old now new (n, first, few) (m, more, fewer) = (n + m, in_turn_more n m old now new first more, omega (arith, few, fewer))

  -- what hasn't failed hadn't before
  pub had_not_failed : (n : ℕ) (old new : K) → InTurn answers fails n old new → fails new ≡ false → fails old ≡ false
  had_not_failed zero old new same fine = subst (λ k. fails k ≡ false) same fine
  had_not_failed (suc n) old new (fine, next, first, rest) now = fine

-- ---- Over one connection

served_asks_none : (served : Served) (stage : Stage) → IsOnItsWay served stage → requests_left stage ≡ 0
served_asks_none served stage (inl it) = ap requests_left it
served_asks_none served stage (inr (inl it)) = ap requests_left it
served_asks_none served stage (inr (inr it)) = ap requests_left it

given_up_asks_none : (it : Dialogue) (out out' : ChannelBytes) → IsGivenUp it out out' → requests_left it.stage ≡ 0
given_up_asks_none it out out' (inl failed) = ap requests_left failed
given_up_asks_none it out out' (inr up) = ap requests_left up.0

stays_asks_few : (old : Stage) (new : Dialogue) → StaysOrEnds old new → requests_left new.stage ≤ requests_left old
stays_asks_few Receiving new (inl it) = rw it search arith
stays_asks_few Receiving new (inr it) = rw it search arith
stays_asks_few (Sending served) new it = rw (served_asks_none served new.stage it.0) search arith
stays_asks_few (Ending served) new (inl it) = rw it search arith
stays_asks_few (Ending served) new (inr it) = rw it search arith
stays_asks_few (Over served) new (inl it) = rw it search arith
stays_asks_few (Over served) new (inr it) = rw it search arith
stays_asks_few Failed new (inl it) = rw it search arith
stays_asks_few Failed new (inr it) = rw it search arith

next_asks_none : (result : Result Served ChannelFault) (response : List ℕ) (said : _) (new : Dialogue) (out out' : ChannelBytes) → IsNextSaid result response said new out out' → requests_left new.stage ≡ 0
next_asks_none (Ok served) response said new out out' (inl it) = served_asks_none served new.stage it.stage
next_asks_none (Ok served) response said new out out' (inr it) = given_up_asks_none new out out' it
next_asks_none (Err fault) response said new out out' it = given_up_asks_none new out out' it

module _ {K : Type 0} (answers : K → K → List ℕ → List ℕ → Result Served ChannelFault → Type 0) (fails : K → Bool) where
  pub goes_on_answers : (had left out out' : ChannelBytes) (was is : Dialogue) (old new : K) → (was.stage ≡ Receiving → fails old ≡ false) → Converses answers had left out out' was is old new →
      AnswersOver answers fails (requests_left was.stage) (requests_left is.stage) old new
  goes_on_answers had left out out' was is old new fine (inl it) = (
    0,
    it.same,
    elim it.next [
      | inl said ↦ omega (arith, stays_asks_few was.stage is said.stage)
      | inr up ↦ omega (arith, given_up_asks_none is out out' up)
    ],
  )
  goes_on_answers had left out out' was is old new fine (inr it) =
      let one : requests_left was.stage ≡ 1 = ap requests_left it.waited in
      let none : requests_left is.stage ≡ 0 = next_asks_none it.answered.result it.answered.response was.response is out out' it.answered.next in
      (1, (fine it.waited, new, (it.request, it.answered.response, it.answered.result, it.answered.answered), refl), omega (arith, one, none))
