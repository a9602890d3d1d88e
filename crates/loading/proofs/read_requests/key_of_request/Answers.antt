use Rattle.std.proofs.Common.{rules}
use Rattle.loading.proofs.ReadRequests.{tells}
use Rattle.loading.proofs.read_requests.key_of_request.Goals as goal

pub returns : goal.returns
returns c = tells c.args.edition c.args.row.now c.in-Some.key c.in-Some-3._command c.in-Some-2._reply (search rules) (search rules) (search rules)
