use Rattle.std.proofs.Common.{◌≡◌, Bool, true, false, not, bytes_eq, codes, IfOk, ap, refl, sym, ◌∙◌, subst}
use Rattle.http_message.specs.Extents.{IsExtentOf}
use Rattle.http_message.specs.Heading.{shown_head}
use Rattle.http_message.specs.Plan as plans
use Rattle.http_message.specs.declared.extents.Extent.TheVariants.{Known}
use Rattle.http_message.proofs.ExtentLemmas.{only_posts_have_bodies}
use Rattle.http_message.proofs.extents.extent_of_head.Goals as goal

pub returns : goal.returns
returns c =
    let head_is : c.new-head.result ≡ shown_head c.args.front.now c.args.fields c.args.spans =
    subst (λ b. c.new-head.result ≡ shown_head b c.args.fields c.args.spans) c.in_ok-bytes.ensures.items c.new-head.ensures in
    let step_is : plans.step c.in-Ok.plan.action ≡ (plans.plan_for_head (shown_head c.args.front.now c.args.fields c.args.spans)).step =
    ap (λ p. p.step) (c.in-Ok.ensures ∙ ap plans.plan_for_head head_is) in
    subst (λ s. IfOk c.extent_of_action.result (λ it. IsExtentOf c.args.spans.len s it)) step_is c.extent_of_action.ensures

is_not : (b : Bool) → not b ≡ true → b ≡ false
is_not true it = absurd (cc)
is_not false it = refl

-- (of another method no body is received)
pub returns-then-ne : goal.returns-then-ne
returns-then-ne c =
    let head_is : c.new-head.result ≡ shown_head c.args.front.now c.args.fields c.args.spans =
    subst (λ b. c.new-head.result ≡ shown_head b c.args.fields c.args.spans) c.in_ok-bytes.ensures.items c.new-head.ensures in
    let differs : not (bytes_eq c.new-head.result.method (codes "POST")) ≡ true =
    ap (λ m. not (bytes_eq m (codes "POST"))) (sym c.method.ensures) ∙ ap (λ p. not (bytes_eq c.method.result.now p)) (sym c.as_slice.ensures) ∙ sym c.ne.ensures ∙ c.if-ne.true in
    subst (λ h. IsExtentOf c.args.spans.len (plans.plan_for_head h).step (Known (record { length = c.args.spans.len; waits = false }))) head_is
    (only_posts_have_bodies c.new-head.result c.args.spans.len (is_not (bytes_eq c.new-head.result.method (codes "POST")) differs))
