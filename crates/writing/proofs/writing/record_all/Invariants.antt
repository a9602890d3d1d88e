use Rattle.writing.specs.Writing.{Records}
use Rattle.sqlite.specs.Held.{state}
use Rattle.writing.specs.Calls.{WroteSome}
use Rattle.writing.proofs.writing.record_all.Given as goal

abbrev pub invariant-loop-broken : goal.invariant-loop-broken
invariant-loop-broken g l =
    WroteSome (λ _ e. Records l.key l.named e) l.broken-index l.exceedances (state g.S.Store l.fn.conn) (state g.S.Store l.conn)
