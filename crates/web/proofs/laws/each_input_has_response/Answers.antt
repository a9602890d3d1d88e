use Rattle.std.proofs.Common.{inl, inr, refl}
use Rattle.http_message.proofs.EachHead.{has_head_or_none}
use Rattle.http_message.specs.Heading.{heading}
use Rattle.http_message.specs.Plan.{plan_for_head}
use Rattle.web.proofs.EachResponse.{each_response_to}
use Rattle.web.proofs.laws.each_input_has_response.Goals as goal
use Rattle.web.specs.Response.{no_head}

pub returns : goal.returns
returns c = λ s input sound some. elim (has_head_or_none input) [
  | inr none ↦ (no_head, (some, inl (none, refl)))
  | inl (h, rest, has) ↦
      let response = each_response_to s sound (plan_for_head (heading h)) rest in
      (response.0, (some, inr (h, rest, has, response.1)))
]
