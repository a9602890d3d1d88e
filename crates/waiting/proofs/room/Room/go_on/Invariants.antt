use Rattle.std.proofs.Common.{◌≡◌, length, sum_by}
use Rattle.waiting.specs.Answered.{AnswersOver}
use Rattle.waiting.specs.Rooms.{requests_over}
use Rattle.waiting.proofs.room.Room.go_on.Given as goal

abbrev pub invariant-loop-connection : goal.invariant-loop-connection
invariant-loop-connection g l = record {
  answered : AnswersOver g.A.Answerer.answers g.A.Answerer.fails (sum_by requests_over l.fn.self.connections.items) (sum_by requests_over l.connection-items) l.fn.kept l.kept;
  count : length l.connection-items ≡ length l.fn.self.connections.items;
}
