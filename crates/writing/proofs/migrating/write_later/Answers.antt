use Rattle.std.proofs.Common.{arith}
use Rattle.sqlite.specs.Held.{state}
use Rattle.sqlite.specs.State.{HasCleanDisk}
use Rattle.state_rows.specs.Requests.{with_requests}
use Rattle.writing.proofs.Chaining.{still_inside, then_call}
use Rattle.writing.proofs.Migrated.{made_fit}
use Rattle.writing.proofs.migrating.write_later.Goals as goal

pub fill_later-requires : goal.fill_later-requires
fill_later-requires g c =
    let old = state g.S.Store c.args.conn.now in
    let mid = state g.S.Store c.make_later.new.conn in
    let made = c.in_ok-make_later.ensures in
    record {
      inside = still_inside old mid tt made;
      opened = λ clean. (made.done clean).1.is_open;
      fit = λ clean. made_fit (with_requests c.requires.found.0 c.args.roster.now) old.now mid.now (c.requires.found.1 (let d : HasCleanDisk old = omega (arith, made.left.clean) in d)) (made.done clean).0;
    }

pub returns : goal.returns
returns g c =
    let G = g.S.Store in
    then_call (state G c.args.conn.now) (state G c.make_later.new.conn) (state G c.fill_later.new.conn) tt c.fill_later.result
    c.in_ok-make_later.ensures c.fill_later.ensures.changed
