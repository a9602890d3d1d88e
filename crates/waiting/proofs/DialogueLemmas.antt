-- What was said over a connection, and more of it.
use Rattle.std.proofs.Common.{◌≡◌, ℕ, List, sym, ◌∙◌, subst, inl, inr, Result, Ok, Err}
use Rattle.http_exchange.specs.Exchange.{ChannelBytes}
use Rattle.http_exchange.specs.declared.exchanges.Served.{Served}
use Rattle.http_exchange.specs.declared.sending.ChannelFault.{ChannelFault}
use Rattle.waiting.specs.Dialogue.{Converses, IsGivenUp, IsHandedOn, IsNextSaid, IsSentOn, IsOnItsWay, StaysOrEnds}
use Rattle.waiting.specs.declared.dialogue.Dialogue.{Dialogue}
use Rattle.waiting.specs.declared.dialogue.Stage.{Stage}
use Rattle.waiting.specs.declared.dialogue.Stage.TheVariants.{Receiving, Sending, Ending, Failed}
use Rattle.waiting.specs.declared.outgoing.Outgoing.{Outgoing}
use Rattle.waiting.proofs.HandLemmas.{handed_more}

-- a response that was set is handed on
sent_on : (said : Outgoing) (mid new : Dialogue) (response : List ℕ) (served : Served) (out out' out'' : ChannelBytes) → IsSentOn said mid response served out out' → IsHandedOn mid new served out' out'' →
    IsSentOn said new response served out out''
sent_on said mid new response served out out' out'' first more = record {
  set = rw more.same first.set;
  sent = handed_more new.response.bytes.items said.gone mid.response.gone new.response.gone out out' out'' (rw more.same first.sent) more.sent;
  gone = more.gone;
  stage = more.stage;
}

same_served : (served other : Served) → Sending served ≡ Sending other → served ≡ other
same_served served other is = cc

-- it isn't sending whose connection is given up, or that waits for a request
given_up_sends_nothing : (it : Dialogue) (served : Served) (out out' : ChannelBytes) → it.stage ≡ Sending served → IsGivenUp it out out' → ⊥
given_up_sends_nothing it served out out' is (inl failed) = let never : Sending served ≡ Failed = sym is ∙ failed in absurd (cc)
given_up_sends_nothing it served out out' is (inr (ends, gone, told)) = let never : Sending served ≡ Ending _ = sym is ∙ ends in absurd (cc)

which_served : (other served : Served) (stage : Stage) → IsOnItsWay other stage → stage ≡ Sending served → other ≡ served
which_served other served stage (inl it) is = same_served other served (sym it ∙ is)
which_served other served stage (inr (inl it)) is = let never : Ending other ≡ Sending served = sym it ∙ is in absurd (cc)
which_served other served stage (inr (inr it)) is = let never : Failed ≡ Sending served = sym it ∙ is in absurd (cc)

served_waits_for_none : (served : Served) (stage : Stage) → IsOnItsWay served stage → stage ≡ Receiving → ⊥
served_waits_for_none served stage (inl it) is = let never : Sending served ≡ Receiving = sym it ∙ is in absurd (cc)
served_waits_for_none served stage (inr (inl it)) is = let never : Ending served ≡ Receiving = sym it ∙ is in absurd (cc)
served_waits_for_none served stage (inr (inr it)) is = let never : Failed ≡ Receiving = sym it ∙ is in absurd (cc)

next_sent : (result : Result Served ChannelFault) (response : List ℕ) (said : Outgoing) (mid new : Dialogue) (served : Served) (out out' out'' : ChannelBytes) → IsNextSaid result response said mid out out' → mid.stage ≡ Sending served →
    IsHandedOn mid new served out' out'' → IsNextSaid result response said new out out''
next_sent (Ok other) response said mid new served out out' out'' (inl sent) is more =
    inl (sent_on said mid new response other out out' out'' sent (subst (λ s. IsHandedOn mid new s out' out'') (sym (which_served other served mid.stage sent.stage is)) more))
next_sent (Ok other) response said mid new served out out' out'' (inr up) is more = absurd (given_up_sends_nothing mid served out out' is up)
next_sent (Err fault) response said mid new served out out' out'' up is more = absurd (given_up_sends_nothing mid served out out' is up)

waiting_sends_nothing : (mid : Dialogue) (served : Served) → StaysOrEnds Receiving mid → mid.stage ≡ Sending served → ⊥
waiting_sends_nothing mid served (inl it) is = let never : Receiving ≡ Sending served = sym it ∙ is in absurd (cc)
waiting_sends_nothing mid served (inr it) is = let never : Failed ≡ Sending served = sym it ∙ is in absurd (cc)

module _ {K : Type 0} (answers : K → K → List ℕ → List ℕ → Result Served ChannelFault → Type 0) (had left out out' : ChannelBytes) (old new : Dialogue) (kept kept' : K) (served : Served) where
  -- what waited for its request and sends now was asked, and its response is sent on
  pub then_sent : (mid : Dialogue) (mid_out : ChannelBytes) → old.stage ≡ Receiving → Converses answers had left out mid_out old mid kept kept' → mid.stage ≡ Sending served → IsHandedOn mid new served mid_out out' →
      Converses answers had left out out' old new kept kept'
  then_sent mid mid_out waited (inl unasked) is more = elim unasked.next [
    | inl said ↦ absurd (waiting_sends_nothing mid served (subst (λ s. StaysOrEnds s mid) waited said.stage) is)
    | inr up ↦ absurd (given_up_sends_nothing mid served out mid_out is up)
  ]
  then_sent mid mid_out waited (inr asked) is more = inr (record {
    waited = asked.waited;
    request = asked.request;
    read = asked.read;
    whole = asked.whole;
    answered = record {
      response = asked.answered.response;
      result = asked.answered.result;
      answered = asked.answered.answered;
      next = next_sent asked.answered.result asked.answered.response old.response mid new served out mid_out out' asked.answered.next is more;
    };
  })

  -- what sends sends on, and asks nothing
  pub only_sent : old.stage ≡ Sending served → IsHandedOn old new served out out' → kept' ≡ kept → Converses answers had left out out' old new kept kept'
  only_sent is more same = inl (record {
    same = same;
    read = λ waits. absurd (served_waits_for_none served new.stage more.stage waits);
    told = inl more.same;
    next = inl (record { said = inl more.same; sent = more.sent; stage = subst (λ s. StaysOrEnds s new) (sym is) (more.stage, more.gone) });
  })
