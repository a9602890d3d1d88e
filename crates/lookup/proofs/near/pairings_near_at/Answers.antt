-- What is found is what the member holds and is near.
use Rattle.std.proofs.lemmas.List.Filters.{dedup_is}
use Rattle.std.proofs.lemmas.Result.{err_from_is_err_and}
use Rattle.sqlite.specs.Held.{state}
use Rattle.lookup.proofs.NearPairings.{near_read, none_near}
use Rattle.lookup.proofs.ReadLemmas.{over_on}
use Rattle.lookup.proofs.near.pairings_near_at.Goals as goal

pub returns-in_err-ids : goal.returns-in_err-ids
returns-in_err-ids g c =
    let p = err_from_is_err_and c.from_residual-in_err-ids.result c.from_residual-in_err-ids.ensures.1 in
    rw (p.1, p.2)
    (none_near (λ found. found.items) c.args.known.now c.args.who.now c.args.spans.now c.in_ok-held_rows.field-0.items c.in_order-records.result.items (state g.S.Store c.args.conn.now) (state g.S.Store c.held_rows.new.conn)
    c.held_rows.ensures.stays (λ clean. rw c.as_str.ensures at (c.in_ok-held_rows.ensures.told clean)) c.in_order-records.ensures.same c.in_err-ids.field-0.0 (rw c.deref.ensures.value at c.in_err-ids.ensures.untold))

pub free_pairings-requires-clause-over : goal.free_pairings-requires-clause-over
free_pairings-requires-clause-over g c = over_on (state g.S.Store c.args.conn.now) (state g.S.Store c.held_rows.new.conn) c.held_rows.ensures.stays c.requires.over

pub returns : goal.returns
returns g c =
    near_read (λ found. found.items) c.args.known.now c.args.who.now c.args.spans.now c.in_ok-held_rows.field-0.items c.in_order-records.result.items (state g.S.Store c.args.conn.now) (state g.S.Store c.held_rows.new.conn)
    c.held_rows.ensures.stays (λ clean. rw c.as_str.ensures at (c.in_ok-held_rows.ensures.told clean)) c.in_order-records.ensures.same _ _ (dedup_is _ _ _ c.dedup.ensures.filtered)
    (rw c.deref.ensures.value at c.in_ok-ids.ensures.told) (state g.S.Store c.free_pairings.new.conn) c.free_pairings.result
    (rw (c.deref-2.ensures.value, c.deref-3.ensures.value) at c.free_pairings.ensures)
