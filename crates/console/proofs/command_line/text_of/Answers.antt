use Rattle.std.proofs.Common.{◌∙◌, ap, sym, Some}
use Rattle.std.proofs.lemmas.Result.{IfOk-weaker}
use Rattle.console.proofs.command_line.text_of.Goals as goal

pub returns : goal.returns
returns c = IfOk-weaker c.from_str.result _ _ (λ s copied. c.str_of.ensures ∙ ap Some (sym copied)) c.from_str.ensures.ok
