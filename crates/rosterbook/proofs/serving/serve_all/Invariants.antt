use Rattle.std.proofs.Common.{◌≤◌}
use Rattle.rosterbook.proofs.ServedInTurn.{IsServedSoFar}
use Rattle.rosterbook.proofs.serving.serve_all.Given as goal

abbrev pub invariant-loop-connection : goal.invariant-loop-connection
invariant-loop-connection g l = record {
  within : l._connection ≤ l.fn.connections;
  so_far : IsServedSoFar g.S.Store l.fn.connections l._connection l.room l.fn.book l.book (g.E.Write.contents l.fn.err) (g.E.Write.contents l.err) l.told;
}
