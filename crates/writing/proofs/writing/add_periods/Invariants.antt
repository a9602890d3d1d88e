use Rattle.std.proofs.Common.{None}
use Rattle.sqlite.specs.Held.{state}
use Rattle.tables.specs.Rows.{Inserts}
use Rattle.writing.specs.Calls.{WroteSome}
use Rattle.state_rows.specs.Rows.{table, period, row_of_period}
use Rattle.writing.proofs.writing.add_periods.Given as goal

abbrev pub invariant-loop-place : goal.invariant-loop-place
invariant-loop-place g l =
    WroteSome (λ place fdp. Inserts (table period) (row_of_period l.id place fdp None)) l.place l.periods (state g.S.Store l.fn.conn) (state g.S.Store l.conn)
