use Rattle.sqlite.specs.Held.{state}
use Rattle.tables.proofs.Transactions.{rollback_ran, rollback_faults, rollback_left, rollback_ends}
use Rattle.tables.proofs.transaction.rollback.Goals as goal

pub returns-clause-gave : goal.returns-clause-gave
returns-clause-gave g c clean = rollback_ran (state g.S.Store c.args.conn.now) (state g.S.Store c.run.new.conn) c.run.result (c.run.ensures.runs clean) clean

pub returns-clause-crash : goal.returns-clause-crash
returns-clause-crash g c = rollback_left (state g.S.Store c.args.conn.now) (state g.S.Store c.run.new.conn) c.run.ensures.survives

pub returns-clause-ended : goal.returns-clause-ended
returns-clause-ended g c clean = rollback_ends (state g.S.Store c.args.conn.now) (state g.S.Store c.run.new.conn) c.run.result (c.run.ensures.runs clean)

pub returns-clause-fault : goal.returns-clause-fault
returns-clause-fault g c = rollback_faults (state g.S.Store c.args.conn.now) (state g.S.Store c.run.new.conn) c.run.result c.run.ensures.runs
