use Rattle.sqlite.specs.Held.{state}
use Rattle.tables.proofs.Transactions.{commit_ran, commit_faults, commit_left}
use Rattle.tables.proofs.transaction.commit.Goals as goal

pub returns-clause-gave : goal.returns-clause-gave
returns-clause-gave g c clean = commit_ran (state g.S.Store c.args.conn.now) (state g.S.Store c.run.new.conn) c.run.result (c.run.ensures.runs clean) clean

pub returns-clause-crash : goal.returns-clause-crash
returns-clause-crash g c = commit_left (state g.S.Store c.args.conn.now) (state g.S.Store c.run.new.conn) c.run.ensures.survives

pub returns-clause-fault : goal.returns-clause-fault
returns-clause-fault g c = commit_faults (state g.S.Store c.args.conn.now) (state g.S.Store c.run.new.conn) c.run.result c.run.ensures.runs
