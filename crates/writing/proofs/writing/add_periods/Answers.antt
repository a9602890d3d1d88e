use Rattle.std.proofs.Common.{rules, None}
use Rattle.std.proofs.lemmas.Option.{gets}
use Rattle.sqlite.specs.Held.{state}
use Rattle.tables.specs.Rows.{Inserts}
use Rattle.state_rows.specs.Rows.{table, period, row_of_period}
use Rattle.writing.proofs.Chaining.{each_turn}
use Rattle.writing.proofs.writing.add_periods.Goals as goal

pub loop-place-preserved : goal.loop-place-preserved
loop-place-preserved g c =
    let G = g.S.Store in
    each_turn (λ place fdp. Inserts (table period) (row_of_period c.args.id.now place fdp None)) c.loop-place.place c.args.periods.now c.index-periods-place.result
    (state G c.args.conn.now) (state G c.loop-place.conn) (state G c.add_period.new.conn) tt tt (search (rules, gets)) c.loop-place.invariant c.in_ok-add_period.ensures
