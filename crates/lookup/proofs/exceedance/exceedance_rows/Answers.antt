use Rattle.std.proofs.Common.{◌≡◌, rules, IsTrue}
use Rattle.sqlite.specs.Held.{state}
use Rattle.sqlite.specs.State.{HasCleanDisk}
use Rattle.lookup.proofs.RecordedLemmas.{not_ordered}
use Rattle.lookup.proofs.exceedance.exceedance_rows.Goals as goal

pub returns-in-Err : goal.returns-in-Err
returns-in-Err g c =
    let old = state g.S.Store c.args.conn.now in
    let settled : HasCleanDisk old → IsTrue old.is_open → old.now ≡ old.committed = search rules in
    not_ordered _ old (state g.S.Store c.exceedances.new.conn) c.exceedances.ensures.crash c.requires settled c.in-Err.fault c.from.result c.in-Err.ensures.read c.from.ensures
