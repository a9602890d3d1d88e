use Rattle.std.proofs.Common.{rules}
use Rattle.std.proofs.lemmas.Option.{gets}
use Rattle.sqlite.specs.Held.{state}
use Rattle.writing.specs.Writing.{AddsSegmentsOf}
use Rattle.writing.proofs.Chaining.{each_turn}
use Rattle.writing.proofs.writing.add_segments.Goals as goal

pub loop-place-preserved : goal.loop-place-preserved
loop-place-preserved g c =
    let G = g.S.Store in
    each_turn (λ place fdp. AddsSegmentsOf c.args.id.now place fdp.segments) c.loop-place.place c.args.periods.now c.index-periods-place.result
    (state G c.args.conn.now) (state G c.loop-place.conn) (state G c.add_segments_of.new.conn) tt tt (search (rules, gets)) c.loop-place.invariant (rw c.as_slice.ensures at c.in_ok-add_segments_of.ensures)
