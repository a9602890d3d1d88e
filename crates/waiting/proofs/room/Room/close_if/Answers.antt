use Rattle.std.proofs.Common.{sum_by, ap, arith}
use Rattle.waiting.specs.Rooms.{requests_over}
use Rattle.waiting.proofs.RoomLemmas.{kept_few}
use Rattle.waiting.proofs.room.Room.close_if.Goals as goal

pub returns-then-has_failed-clause-requests : goal.returns-then-has_failed-clause-requests
returns-then-has_failed-clause-requests c =
    let kept = c.retain.ensures.filtered in
    let few = kept_few kept.0 c.args.self.now.connections.items in
    let now = ap (sum_by requests_over) kept.4 in
    omega (arith, few, now)
