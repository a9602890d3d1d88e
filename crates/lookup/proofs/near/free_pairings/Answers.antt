-- Each turn of the loop reads one pairing more.
use Rattle.std.proofs.Common.{arith}
use Rattle.std.proofs.lemmas.Result.{err_from_is_err_and}
use Rattle.sqlite.specs.Held.{state}
use Rattle.lookup.proofs.NearPairings.{all_read, no_room, one_fails, one_more}
use Rattle.lookup.proofs.ReadLemmas.{over_on}
use Rattle.lookup.proofs.near.free_pairings.Goals as goal

pub known_or_read-requires-clause-over : goal.known_or_read-requires-clause-over
known_or_read-requires-clause-over g c = over_on (state g.S.Store c.args.conn.now) (state g.S.Store c.loop-id.conn) c.loop-id.invariant.stays c.requires.over

pub returns-in_err-free : goal.returns-in_err-free
returns-in_err-free g c =
    let p = err_from_is_err_and c.from_residual.result c.from_residual.ensures.1 in
    rw (p.1, p.2)
    (one_fails (λ found. found.items) c.args.known.now c.args.ids.now c.args.records.now c.loop-id.id-index c.id-item.result (omega arith) c.id-item.is (state g.S.Store c.args.conn.now) (state g.S.Store c.loop-id.conn)
    (state g.S.Store c.known_or_read.new.conn) c.loop-id.found c.loop-id.invariant _ c.in_err-free.field-0.0 (rw (c.records_of-periods.ensures, c.as_str.ensures) at c.in_err-free.ensures))

pub returns-in_err-add_pairing : goal.returns-in_err-add_pairing
returns-in_err-add_pairing g c =
    let p = err_from_is_err_and c.from_residual-in_err-add_pairing.result c.from_residual-in_err-add_pairing.ensures.1 in
    rw p.1
    (no_room (λ found. found.items) c.args.known.now c.args.ids.now c.args.records.now c.loop-id.id-index c.id-item.result (omega arith) c.id-item.is (state g.S.Store c.args.conn.now) (state g.S.Store c.loop-id.conn)
    (state g.S.Store c.known_or_read.new.conn) c.loop-id.found c.loop-id.invariant _ c.in_ok-free.free p.0 (rw (c.records_of-periods.ensures, c.as_str.ensures) at c.in_ok-free.ensures) p.2)

pub loop-id-preserved : goal.loop-id-preserved
loop-id-preserved g c =
    one_more (λ found. found.items) c.args.known.now c.args.ids.now c.args.records.now c.loop-id.id-index c.id-item.result (omega arith) c.id-item.is (state g.S.Store c.args.conn.now) (state g.S.Store c.loop-id.conn)
    (state g.S.Store c.known_or_read.new.conn) c.loop-id.found c.loop-id.invariant c.in_ok-free.free _ (rw (c.records_of-periods.ensures, c.as_str.ensures) at c.in_ok-free.ensures) c.in_ok-add_pairing.ensures

pub returns : goal.returns
returns g c = all_read (λ found. found.items) c.args.known.now c.args.ids.now c.args.records.now c.loop-id.id-index _ _ c.loop-id.found (omega arith) c.loop-id.invariant
