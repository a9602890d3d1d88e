use Rattle.std.proofs.Common.{◌≡◌, rules, IsTrue}
use Rattle.sqlite.specs.Held.{state}
use Rattle.sqlite.specs.State.{HasCleanDisk}
use Rattle.lookup.proofs.CountLemmas.{not_counted}
use Rattle.lookup.proofs.count.request_tally.Goals as goal

pub returns-in-Err : goal.returns-in-Err
returns-in-Err g c =
    let old = state g.S.Store c.args.conn.now in
    let settled : HasCleanDisk old → IsTrue old.is_open → old.now ≡ old.committed = search rules in
    not_counted old (state g.S.Store c.tally_requests.new.conn) c.tally_requests.ensures.crash c.requires.outside settled c.in-Err.fault c.from.result c.in-Err.ensures.read c.from.ensures
