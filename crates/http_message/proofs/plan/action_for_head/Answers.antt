use Rattle.std.proofs.Common.{◌≡◌, ◌≤◌, ◌∙◌, ap, sym, subst, arith, IfOk, codes, length, nat_lt, false, ℕ, List}
use Rattle.std.proofs.lemmas.Bool.Decides.{nat_tests}
use Rattle.std.proofs.lemmas.Result.{IfOk-weaker}
use Rattle.http_message.specs.Fields.{values}
use Rattle.http_message.specs.Heading.{Heading}
use Rattle.http_message.specs.Plan as spec
use Rattle.http_message.specs.Target.{path_of}
use Rattle.http_message.proofs.plan.action_for_head.Goals as goal

after_checks : (h : Heading) (path : List ℕ) (n : ℕ) → spec.lacks_host h ≡ false → spec.is_foreign h ≡ false → n ≡ length (values (codes "transfer-encoding") h.fields) → n ≤ 0 → path ≡ path_of h.target
    → spec.at_path h path ≡ spec.step_after_checks h
after_checks h path n hosted own is none at =
    let uncoded : nat_lt 0 (length (values (codes "transfer-encoding") h.fields)) ≡ false = grind (arith, nat_tests) in
    rw (hosted, own, uncoded) (ap (spec.at_path h) at)

pub returns : goal.returns
returns c =
    let h = c.args.head.now in
    let is = after_checks h c.path_of.result.now c.count.result (sym c.lacks_host.ensures ∙ c.if-lacks_host.false) (sym c.is_foreign.ensures ∙ c.if-is_foreign.false) c.count.ensures c.if-count-gt0.false
    (c.path_of.ensures ∙ ap path_of c.target.ensures) in
    IfOk-weaker c.action_for_path.result _ _ (λ it step. step ∙ is) c.action_for_path.ensures
