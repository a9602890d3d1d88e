-- The pairing that the records give is the state's, with its seats free.
use Rattle.sqlite.specs.Held.{state}
use Rattle.lookup.proofs.NearPairings.{free_told, free_untold}
use Rattle.lookup.proofs.Unread.{why_unread}
use Rattle.lookup.proofs.near.free_pairing.Goals as goal

pub returns-in-Ok : goal.returns-in-Ok
returns-in-Ok g c =
    free_told c.args.id.now c.args.periods.now c.in_ok-segments.segments.items (state g.S.Store c.args.conn.now) (state g.S.Store c.segment_rows.new.conn) c.segment_rows.ensures.stays
    (λ clean. rw c.as_str.ensures at (c.in_ok-segments.ensures.told clean)) c.in-Ok.free (rw c.deref.ensures.value at c.in-Ok.ensures.told) c.in-Ok.ensures.free.0 c.in-Ok.ensures.free.1

pub returns : goal.returns
returns g c =
    free_untold c.args.id.now c.args.periods.now c.in_ok-segments.segments.items (state g.S.Store c.args.conn.now) (state g.S.Store c.segment_rows.new.conn) c.segment_rows.ensures.stays
    (λ clean. rw c.as_str.ensures at (c.in_ok-segments.ensures.told clean)) c.as_store_fault.result
    (rw c.deref.ensures.value at (why_unread _ _ _ c.in-Err.fault c.as_store_fault.result c.as_store_fault.ensures c.in-Err.ensures.untold))
