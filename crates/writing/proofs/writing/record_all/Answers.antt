use Rattle.std.proofs.Common.{rules}
use Rattle.std.proofs.lemmas.Option.{gets}
use Rattle.sqlite.specs.Held.{state}
use Rattle.writing.specs.Writing.{Records}
use Rattle.writing.proofs.Chaining.{each_turn}
use Rattle.writing.proofs.writing.record_all.Goals as goal

pub loop-broken-preserved : goal.loop-broken-preserved
loop-broken-preserved g c =
    let G = g.S.Store in
    each_turn (λ _ e. Records c.args.key c.args.named.now e) c.loop-broken.broken-index c.args.exceedances.now c.broken-item.result
    (state G c.args.conn.now) (state G c.loop-broken.conn) (state G c.record_one.new.conn) tt tt (search (rules, gets)) c.loop-broken.invariant c.in_ok-record_one.ensures
