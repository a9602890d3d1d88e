use Rattle.std.proofs.Common.{◌≡◌, arith}
use Rattle.rosterbook.proofs.ServedInTurn.{all_over, cut_short, one_served, served_before}
use Rattle.rosterbook.proofs.serving.serve_all.Goals as goal

pub loop-connection-init : goal.loop-connection-init
loop-connection-init g c = record {
  within = omega arith;
  so_far = served_before g.S.Store c.args.connections c.args.room.now c.args.book.now (g.E.Write.contents c.args.err.now) c.requires.requests c.requires.connections;
}

-- (no connection is left, so that the store has failed)
pub returns-in_default : goal.returns-in_default
returns-in_default g c =
    cut_short g.S.Store c.args.connections c.loop-connection._connection c.loop-connection.room c.serve_one.new.room c.args.book.now c.loop-connection.book c.serve_one.new.book _ _
    c.loop-connection.told c.loop-connection.invariant.so_far c.loop-connection-test.true c.in_default.ensures

pub loop-connection-preserved : goal.loop-connection-preserved
loop-connection-preserved g c = record {
  within = omega (arith, c.loop-connection-test.true);
  so_far = one_served g.S.Store c.args.connections c.loop-connection._connection c.loop-connection.room c.serve_one.new.room c.args.book.now c.loop-connection.book c.serve_one.new.book
      c.in-Some.outcome _ _ _ c.loop-connection.told c.tell_outcome-told.result c.loop-connection.invariant.so_far c.in-Some.ensures c.tell_outcome-told.ensures.line
      c.tell_outcome-told.ensures.served;
}

-- (as many are over as were to be served)
pub returns : goal.returns
returns g c =
    let all : c.loop-connection._connection ≡ c.args.connections = omega (arith, c.loop-connection-test.false, c.loop-connection.invariant.within) in
    all_over g.S.Store c.args.connections c.loop-connection._connection c.loop-connection.room c.args.book.now c.loop-connection.book _ _ c.loop-connection.told c.has_failed.result
    c.loop-connection.invariant.so_far all c.has_failed.ensures
