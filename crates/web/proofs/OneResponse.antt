-- An input has one response in a state.
use Rattle.std.proofs.Common.{◌≡◌, ◌∙◌, ap, sym, subst, refl, inl, inr, ℕ, Bool, List, Option, Result, Ok, Err}
use Rattle.httparse.proofs.GrammarLemmas.{request_unique}
use Rattle.codec.proofs.OneReading.{has_no_fault, has_one_fault, is_of_one_list}
use Rattle.stored_json.specs.declared.fault.CodecFault.TheVariants.{BadCsv}
use Rattle.asking.proofs.CountTexts.{one_count_text}
use Rattle.asking.proofs.ShownAs.{one_shown_as}
use Rattle.roster.specs.Folds.{Replies, import}
use Rattle.roster.specs.State.{State}
use Rattle.http_message.specs.Heading.{heading}
use Rattle.http_message.specs.Plan.{Planned, plan_for_head}
use Rattle.http_message.specs.declared.plan.Submission.TheVariants.{Command, Check, Import, Lines, LineChecks}
use Rattle.http_message.specs.declared.refusals.RequestFault.{RequestFault}
use Rattle.http_exchange.specs.Exchange.{asks}
use Rattle.http_exchange.specs.Final.{Final, of_answer}
use Rattle.http_exchange.specs.Handler as http
use Rattle.http_exchange.specs.Handler.{StatusText, submit}
use Rattle.web.specs.Acts.{Asks, Commands, IsAnswer}
use Rattle.web.specs.Answers.{count_answer, fault_answer, parts_answer, report_answer}
use Rattle.web.specs.Laws.{HasOneResponse}
use Rattle.web.specs.Response.{IsFinal, IsResponseTo, WholeResponse}

-- ---- the commands that are asked

one_import : (number : ℕ) (body : List ℕ) (a b : Commands) → Asks (submit (Import number) body) a → Asks (submit (Import number) body) b → a ≡ b
one_import number body a b (inl (plans, is, are)) (inl (plans', is', are')) = are ∙ ap (import number) (is_of_one_list body plans plans' is is') ∙ sym are'
one_import number body a b (inl (plans, is, are)) (inr (line, at_fault, none)) = absurd (has_no_fault body plans line is at_fault)
one_import number body a b (inr (line, at_fault, none)) (inl (plans, is, are)) = absurd (has_no_fault body plans line is at_fault)
one_import number body a b (inr (line, at_fault, none)) (inr (line', at_fault', none')) = none ∙ sym none'

one_list : (asked : http.HandlerRequest) (a b : Commands) → Asks asked a → Asks asked b → a ≡ b
one_list (submit Command body) a b is is' = is ∙ sym is'
one_list (submit Check body) a b is is' = is ∙ sym is'
one_list (submit Lines body) a b is is' = is ∙ sym is'
one_list (submit LineChecks body) a b is is' = is ∙ sym is'
one_list (submit (Import number) body) a b is is' = one_import number body a b is is'
one_list (http.show what form) a b is is' = is ∙ sym is'
one_list http.show_desk a b is is' = is ∙ sym is'
one_list http.show_count a b is is' = is ∙ sym is'

-- ---- the answer

module _ (s : State) where
  one_schedule_answer : (number : ℕ) (body : List ℕ) (a b : StatusText) → IsAnswer s (submit (Import number) body) a → IsAnswer s (submit (Import number) body) b → a ≡ b
  one_schedule_answer number body a b (inl (plans, is, are)) (inl (plans', is', are')) =
      are ∙ ap (λ p. parts_answer (Replies s (import number p))) (is_of_one_list body plans plans' is is') ∙ sym are'
  one_schedule_answer number body a b (inl (plans, is, are)) (inr (line, at_fault, told)) = absurd (has_no_fault body plans line is at_fault)
  one_schedule_answer number body a b (inr (line, at_fault, told)) (inl (plans, is, are)) = absurd (has_no_fault body plans line is at_fault)
  one_schedule_answer number body a b (inr (line, at_fault, told)) (inr (line', at_fault', told')) =
      told ∙ ap (λ n. fault_answer (BadCsv n)) (has_one_fault body line line' at_fault at_fault') ∙ sym told'

  one_answer : (asked : http.HandlerRequest) (a b : StatusText) → IsAnswer s asked a → IsAnswer s asked b → a ≡ b
  one_answer (submit Command body) a b is is' = is ∙ sym is'
  one_answer (submit Check body) a b is is' = is ∙ sym is'
  one_answer (submit Lines body) a b is is' = is ∙ sym is'
  one_answer (submit LineChecks body) a b is is' = is ∙ sym is'
  one_answer (submit (Import number) body) a b is is' = one_schedule_answer number body a b is is'
  one_answer (http.show what form) a b (shown, is, told) (shown', is', told') =
      told ∙ ap (report_answer form) (one_shown_as form s what shown shown' is is') ∙ sym told'
  one_answer http.show_desk a b is is' = is ∙ sym is'
  one_answer http.show_count a b (text, is, told) (text', is', told') = told ∙ ap count_answer (one_count_text s text text' is is') ∙ sym told'

  -- ---- the response

  one_final : (asked : Result http.HandlerRequest RequestFault) (is_head : Bool) (a b : Commands) (f f' : Final) → IsFinal s asked is_head a f → IsFinal s asked is_head b f' → (a ≡ b) × (f ≡ f')
  one_final (Err fault) is_head a b f f' (none, is) (none', is') = (none ∙ sym none', is ∙ sym is')
  one_final (Ok asked) is_head a b f f' (listed, (answer, told, is)) (listed', (answer', told', is')) =
      (one_list asked a b listed listed', is ∙ ap (λ t. of_answer (Ok t) is_head) (one_answer asked answer answer' told told') ∙ sym is')

  abbrev made : List ℕ → Final → Commands → Option (List ℕ) → WholeResponse
  made interim final commands unread = record { interim = interim; final = final; commands = commands; unread = unread }

  same_response : (r other : WholeResponse) → r.interim ≡ other.interim → r.final ≡ other.final → r.commands ≡ other.commands → r.unread ≡ other.unread → r ≡ other
  same_response r other a b c d =
      ap (λ i. made i r.final r.commands r.unread) a
      ∙ ap (λ f. made other.interim f r.commands r.unread) b
      ∙ ap (λ l. made other.interim other.final l r.unread) c
      ∙ ap (λ u. made other.interim other.final other.commands u) d

  one_response_to : (p : Planned) (rest : List ℕ) (r other : WholeResponse) → IsResponseTo s p rest r → IsResponseTo s p rest other → r ≡ other
  one_response_to p rest r other is is' =
      let final = one_final (asks p.step rest) p.is_head r.commands other.commands r.final other.final is.final_is is'.final_is in
      same_response r other (is.interim_is ∙ sym is'.interim_is) final.1 final.0 (is.unread_is ∙ sym is'.unread_is)

pub one_response : HasOneResponse
one_response s input r other (some, inl (none, is)) (some', inl (none', is')) = is ∙ sym is'
one_response s input r other (some, inl (none, is)) (some', inr (h, rest, head, is')) = absurd (none h rest head)
one_response s input r other (some, inr (h, rest, head, is)) (some', inl (none, is')) = absurd (none h rest head)
one_response s input r other (some, inr (h, rest, head, is)) (some', inr (h', rest', head', is')) =
    let same = request_unique input h h' rest rest' head.reads head'.reads in
    one_response_to s (plan_for_head (heading h')) rest' r other (subst (λ k. IsResponseTo s (plan_for_head (heading k)) rest' r) same.0 (subst (λ t. IsResponseTo s (plan_for_head (heading h)) t r) same.1 is)) is'
