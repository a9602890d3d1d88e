use Rattle.sqlite.specs.Held.{state}
use Rattle.tables.specs.Records.{crew_row, IsCrewRow}
use Rattle.tables.proofs.LoadingLemmas.{loaded_by}
use Rattle.tables.proofs.CrewTexts.{load_crew}
use Rattle.tables.proofs.crew.load_crew.Goals as goal

pub load-requires : goal.load-requires
load-requires g c clean = (load_crew (state g.S.Store c.args.conn.now) (c.requires clean)).plain

pub returns-clause-loaded : goal.returns-clause-loaded
returns-clause-loaded g c =
    let given = c.load.ensures in
    loaded_by _ _ c.requires (load_crew (state g.S.Store c.args.conn.now)) given.crash crew_row IsCrewRow (λ all. all.items) c.load.result given.found given.same given.stops given.damaged
