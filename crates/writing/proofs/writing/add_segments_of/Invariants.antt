use Rattle.writing.specs.Writing.{AddsSegmentOf}
use Rattle.sqlite.specs.Held.{state}
use Rattle.writing.specs.Calls.{WroteSome}
use Rattle.writing.proofs.writing.add_segments_of.Given as goal

abbrev pub invariant-loop-at : goal.invariant-loop-at
invariant-loop-at g l =
    WroteSome (AddsSegmentOf l.id l.place) l.at l.legs (state g.S.Store l.fn.conn) (state g.S.Store l.conn)
