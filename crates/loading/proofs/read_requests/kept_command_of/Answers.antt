use Rattle.std.proofs.Common.{rules, sym, ◌∙◌}
use Rattle.loading.proofs.ReadRequests.{not_kept_in}
use Rattle.loading.proofs.read_requests.kept_command_of.Goals as goal

pub returns-else-can_keep : goal.returns-else-can_keep
returns-else-can_keep c =
    not_kept_in c.args.edition c.args.text.now c.in-Some.command (search rules) (search rules)
    (λ can. absurd (let f = sym c.if-can_keep.false ∙ c.can_keep.ensures.1 can in cc))
