use Rattle.std.proofs.Common.{◌≡◌, ◌≤◌, ◌∙◌, length, ap, arith, inr, subst, IfOk, Ok, sym}
use Rattle.serde_json.specs.View.{view}
use Rattle.stored_json.specs.CommandJson.{read_object}
use Rattle.codec.proofs.BodyLemmas.{body_of_text, body_of_no_text}
use Rattle.codec.proofs.requests.body_object.Goals as goal

pub returns-in-Ok-clause-object : goal.returns-in-Ok-clause-object
returns-in-Ok-clause-object c =
    let short : length c.args.body.now ≤ 1_048_576 = omega arith in
    let same = ap read_object c.in-Ok.ensures.cases.0 ∙ sym (body_of_text c.args.body.now short c.in-Ok.ensures.cases.1) in
    subst (λ read. IfOk c.object.result (λ object. read ≡ Ok (view object))) same c.object.ensures.object

pub returns-in-Err-clause-refused : goal.returns-in-Err-clause-refused
returns-in-Err-clause-refused c =
    let short : length c.args.body.now ≤ 1_048_576 = omega arith in
    inr (body_of_no_text c.args.body.now short c.in-Err.ensures.cases.0)
