-- When the bytes that have come are enough.
use Rattle.std.proofs.Common.{◌≡◌, ◌≤◌, inl, inr, ℕ, true, false, List, ◌++◌, length, nat_lt, refl, sym, ap, ◌∙◌, arith, length-append}
use Rattle.std.proofs.lemmas.Bool.Decides.{nat_tests}
use Rattle.std.proofs.lemmas.List.{take-append-le}
use Rattle.httparse.specs.Grammar.{print_request}
use Rattle.http_message.specs.Extents.{body_length}
use Rattle.http_message.specs.Heading.{heading}
use Rattle.http_message.specs.Plan.{Step, plan_for_head, refuse, receive, show, show_count, show_desk}
use Rattle.http_message.specs.declared.extents.Extent.TheVariants.{Known}
use Rattle.http_message.specs.declared.extents.Settled.{Settled}
use Rattle.waiting.specs.Whole.{AsksTheSame, HasWaitingHead, IsKnown, IsWhole}

-- a body that has come whole asks the same, whatever follows
asks_the_same : (step : Step) (rest : List ℕ) → body_length step ≤ length rest → AsksTheSame step rest
asks_the_same (refuse fault) rest enough more = refl
asks_the_same (show what form) rest enough more = refl
asks_the_same show_desk rest enough more = refl
asks_the_same show_count rest enough more = refl
asks_the_same (receive expected) rest enough more =
    let here : nat_lt (length rest) expected.length ≡ false = grind (arith, nat_tests) in
    let there : nat_lt (length (rest ++ more)) expected.length ≡ false = grind (arith, nat_tests, length-append rest more) in
    rw (here, there, take-append-le expected.length rest more enough) refl

pub enough_is_whole : (bytes : List ℕ) (it : Settled) → IsKnown bytes (Known it) → it.length ≤ length bytes → IsWhole bytes
enough_is_whole bytes it (inl never) enough = inl never.0
enough_is_whole bytes it (inr (h, rest, has, extent)) enough =
    let long : body_length (plan_for_head (heading h)).step ≤ length rest = omega (arith, enough, extent.0, ap length has.reads.1, length-append (print_request h) rest) in
    inr (h, rest, has, asks_the_same (plan_for_head (heading h)).step rest long)

pub waiting_head : (bytes : List ℕ) (it : Settled) → IsKnown bytes (Known it) → it.waits ≡ true → HasWaitingHead bytes
waiting_head bytes it (inl never) so = absurd (cc)
waiting_head bytes it (inr (h, rest, has, extent)) so = (h, rest, has, sym extent.1 ∙ so)
