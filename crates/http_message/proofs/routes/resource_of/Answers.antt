use Rattle.std.proofs.Common.{sym, ◌∙◌}
use Rattle.http_message.proofs.TakenLemmas.{routed_by}
use Rattle.http_message.proofs.routes.resource_of.Goals as goal

pub returns-in_default-at : goal.returns-in_default-at
returns-in_default-at c =
    sym (routed_by c.in-Ok.router c.args.path.now _ c.in-Ok.ensures c.in_default-at.ensures.missing c.type_inv.path c.utf8.path)

pub returns : goal.returns
returns c =
    let agrees = routed_by c.in-Ok.router c.args.path.now _ c.in-Ok.ensures c.in-Ok-at.ensures.found c.type_inv.path c.utf8.path in
    let named = rw c.in-Ok-at.ensures.path at c.resource_at.ensures in
    named agrees.0 ∙ agrees.1
