use Rattle.writing.specs.Writing.{AddsOutsideSegment}
use Rattle.sqlite.specs.Held.{state}
use Rattle.writing.specs.Calls.{WroteSome}
use Rattle.writing.proofs.writing.add_outside_segments.Given as goal

abbrev pub invariant-loop-at : goal.invariant-loop-at
invariant-loop-at g l =
    WroteSome (AddsOutsideSegment l.id) l.at l.legs (state g.S.Store l.fn.conn) (state g.S.Store l.conn)
