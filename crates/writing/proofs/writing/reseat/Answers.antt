use Rattle.std.proofs.Common.{rules}
use Rattle.std.proofs.lemmas.Option.{gets}
use Rattle.sqlite.specs.Held.{state}
use Rattle.writing.specs.Writing.{Reseats}
use Rattle.writing.proofs.Chaining.{each_turn}
use Rattle.writing.proofs.writing.reseat.Goals as goal

pub loop-change-preserved : goal.loop-change-preserved
loop-change-preserved g c =
    let G = g.S.Store in
    each_turn (λ _ change. Reseats change) c.loop-change.change-index c.args.changes.now c.change-item.result
    (state G c.args.conn.now) (state G c.loop-change.conn) (state G c.reseat_one.new.conn) tt tt (search (rules, gets)) c.loop-change.invariant c.in_ok-reseat_one.ensures
