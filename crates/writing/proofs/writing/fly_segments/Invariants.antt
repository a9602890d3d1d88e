use Rattle.writing.specs.Writing.{FliesSegment}
use Rattle.sqlite.specs.Held.{state}
use Rattle.writing.specs.Calls.{WroteSome}
use Rattle.writing.proofs.writing.fly_segments.Given as goal

abbrev pub invariant-loop-at : goal.invariant-loop-at
invariant-loop-at g l =
    WroteSome (FliesSegment l.id l.number) l.at l.legs (state g.S.Store l.fn.conn) (state g.S.Store l.conn)
