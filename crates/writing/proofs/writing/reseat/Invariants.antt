use Rattle.writing.specs.Writing.{Reseats}
use Rattle.sqlite.specs.Held.{state}
use Rattle.writing.specs.Calls.{WroteSome}
use Rattle.writing.proofs.writing.reseat.Given as goal

abbrev pub invariant-loop-change : goal.invariant-loop-change
invariant-loop-change g l =
    WroteSome (λ _ change. Reseats change) l.change-index l.changes (state g.S.Store l.fn.conn) (state g.S.Store l.conn)
