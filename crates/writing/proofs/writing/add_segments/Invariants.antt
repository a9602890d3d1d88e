use Rattle.writing.specs.Writing.{AddsSegmentsOf}
use Rattle.sqlite.specs.Held.{state}
use Rattle.writing.specs.Calls.{WroteSome}
use Rattle.writing.proofs.writing.add_segments.Given as goal

abbrev pub invariant-loop-place : goal.invariant-loop-place
invariant-loop-place g l =
    WroteSome (λ place fdp. AddsSegmentsOf l.id place fdp.segments) l.place l.periods (state g.S.Store l.fn.conn) (state g.S.Store l.conn)
