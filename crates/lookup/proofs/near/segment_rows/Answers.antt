-- A read of segments that fails has a cause.
use Rattle.std.proofs.Common.{◌≡◌, rules, IsTrue}
use Rattle.std.proofs.lemmas.Result.{err_from_is_err_and}
use Rattle.sqlite.specs.Held.{state}
use Rattle.sqlite.specs.State.{HasCleanDisk}
use Rattle.state_rows.specs.Rows.{segment}
use Rattle.lookup.proofs.ReadLemmas.{not_read}
use Rattle.lookup.proofs.near.segment_rows.Goals as goal

pub returns-in_err-segments_of : goal.returns-in_err-segments_of
returns-in_err-segments_of g c =
    let old = state g.S.Store c.args.conn.now in
    let settled : HasCleanDisk old → IsTrue old.is_open → old.now ≡ old.committed = search rules in
    let p = err_from_is_err_and c.from_residual.result c.from_residual.ensures.1 in
    rw p.1
    (not_read segment _ _ old (state g.S.Store c.segments_of.new.conn) c.segments_of.ensures.crash c.requires.outside settled c.in_err-segments_of.field-0.0 p.0 c.in_err-segments_of.ensures.read p.2)
