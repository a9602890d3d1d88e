use Rattle.sqlite.specs.Held.{state}
use Rattle.tables.specs.Records.{ground_row, IsGroundRow}
use Rattle.tables.proofs.LoadingLemmas.{loaded_by}
use Rattle.tables.proofs.GroundTexts.{load_grounds}
use Rattle.tables.proofs.ground.load_grounds.Goals as goal

pub load-requires : goal.load-requires
load-requires g c clean = (load_grounds (state g.S.Store c.args.conn.now) (c.requires clean)).plain

pub returns-clause-loaded : goal.returns-clause-loaded
returns-clause-loaded g c =
    let given = c.load.ensures in
    loaded_by _ _ c.requires (load_grounds (state g.S.Store c.args.conn.now)) given.crash ground_row IsGroundRow (λ all. all.items) c.load.result given.found given.same given.stops given.damaged
