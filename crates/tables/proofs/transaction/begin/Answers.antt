use Rattle.sqlite.specs.Held.{state}
use Rattle.tables.proofs.Transactions.{begin_ran, begin_faults, begin_left}
use Rattle.tables.proofs.transaction.begin.Goals as goal

pub returns-clause-gave : goal.returns-clause-gave
returns-clause-gave g c clean = begin_ran (state g.S.Store c.args.conn.now) (state g.S.Store c.run.new.conn) c.run.result (c.run.ensures.runs clean) clean

pub returns-clause-crash : goal.returns-clause-crash
returns-clause-crash g c = begin_left (state g.S.Store c.args.conn.now) (state g.S.Store c.run.new.conn) c.run.ensures.survives

pub returns-clause-fault : goal.returns-clause-fault
returns-clause-fault g c = begin_faults (state g.S.Store c.args.conn.now) (state g.S.Store c.run.new.conn) c.run.result c.run.ensures.runs
