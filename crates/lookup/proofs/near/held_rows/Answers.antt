use Rattle.std.proofs.Common.{◌≡◌, rules, IsTrue}
use Rattle.sqlite.specs.Held.{state}
use Rattle.sqlite.specs.State.{HasCleanDisk}
use Rattle.lookup.proofs.NearReads.{not_read}
use Rattle.lookup.proofs.near.held_rows.Goals as goal

pub returns-in-Err : goal.returns-in-Err
returns-in-Err g c =
    let old = state g.S.Store c.args.conn.now in
    let settled : HasCleanDisk old → IsTrue old.is_open → old.now ≡ old.committed = search rules in
    not_read _ _ old (state g.S.Store c.periods_held_by.new.conn) c.periods_held_by.ensures.crash c.requires.outside settled c.in-Err.fault c.from.result c.in-Err.ensures.read c.from.ensures
