use Rattle.std.proofs.Common.{rules}
use Rattle.std.proofs.lemmas.Option.{gets}
use Rattle.sqlite.specs.Held.{state}
use Rattle.writing.specs.Writing.{AddsOutsideSegment}
use Rattle.writing.proofs.Chaining.{each_turn}
use Rattle.writing.proofs.writing.add_outside_segments.Goals as goal

pub loop-at-preserved : goal.loop-at-preserved
loop-at-preserved g c =
    let G = g.S.Store in
    each_turn (AddsOutsideSegment c.args.id.now) c.loop-at.at c.args.legs.now c.index-legs-at.result
    (state G c.args.conn.now) (state G c.loop-at.conn) (state G c.add_outside_segment.new.conn) tt tt (search (rules, gets)) c.loop-at.invariant c.in_ok-add_outside_segment.ensures
