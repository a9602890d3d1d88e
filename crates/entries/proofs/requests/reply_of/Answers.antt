use Rattle.std.proofs.Common.{◌∙◌, ap, List, rules, tests}
use Rattle.command.specs.declared.exceedance.Exceedance.{Exceedance}
use Rattle.stored_json.specs.ReplyText.{reply_text}
use Rattle.entries.proofs.KeptTexts.{not_reply, told_otherwise, without_exceedance}
use Rattle.entries.proofs.requests.reply_of.Goals as goal

pub returns-then-eq : goal.returns-then-eq
returns-then-eq c = (
  ap (λ (es : List Exceedance). reply_text (record { exceedances = es })) (search rules) ∙ without_exceedance c.args.text.now (search (rules, tests)),
  search rules,
)

pub returns-in-Err : goal.returns-in-Err
returns-in-Err c = not_reply c.args.text.now c.in-Err.field-0 (search rules)

pub returns-then-ne : goal.returns-then-ne
returns-then-ne c = told_otherwise c.args.text.now c.in-Ok.reply (search rules) (search (rules, tests))
