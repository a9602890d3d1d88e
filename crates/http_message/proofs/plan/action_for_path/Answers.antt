use Rattle.std.proofs.Common.{◌≡◌, true, false, Bool, ℕ, List, refl, sym, ap, ◌∙◌}
use Rattle.std.specs.Str.{is_utf8, IsUtf8}
use Rattle.std.proofs.lemmas.Str.{IsUtf8-from_is_utf8, is_utf8-from_IsUtf8}
use Rattle.request.specs.declared.form.Form.{Form}
use Rattle.http_message.specs.Heading.{Heading}
use Rattle.http_message.specs.Plan as spec
use Rattle.http_message.specs.declared.refusals.RequestFault.TheVariants.{NoResource}
use Rattle.http_message.specs.Routes.{place_of_path}
use Rattle.http_message.specs.Target.{form_of, without_json}
use Rattle.http_message.proofs.plan.action_for_path.Goals as goal

no_text : (h : Heading) (path : _) → ¬ (IsUtf8 path) → spec.refuse NoResource ≡ spec.at_path h path
no_text h path none = by (is_utf8 path) refl
  where
    by : (v : Bool) → is_utf8 path ≡ v → spec.refuse NoResource ≡ spec.at_path h path
    by true e = absurd (none (IsUtf8-from_is_utf8 path e))
    by false e = rw e refl

text : (h : Heading) (path rest : List ℕ) (form : Form) → IsUtf8 path → form ≡ form_of path → rest ≡ without_json path
    → spec.at_path h path ≡ spec.step_of_place h (place_of_path rest) form
text h path rest form utf8 asked cut = rw (is_utf8-from_IsUtf8 path utf8, asked, cut) refl

pub returns-in_default : goal.returns-in_default
returns-in_default c = no_text c.args.head.now c.args.path.now c.in_default.ensures.cases.0

pub returns : goal.returns
returns c =
    let cases = c.in-Ok.ensures.cases in
    let asked = c.form_of-form in
    let is = text c.args.head.now c.args.path.now asked.result.1.now asked.result.0 cases.1 (rw cases.0 at asked.ensures.form) (rw cases.0 at asked.ensures.rest) in
    let found = rw c.in-Some.is at c.in_ok-resource.ensures in
    c.action_for_route.ensures ∙ ap (λ place. spec.step_of_place c.args.head.now place asked.result.0) found ∙ sym is
