use Rattle.sqlite.specs.Held.{state}
use Rattle.tables.specs.Records.{exceedance_row, IsExceedanceRow}
use Rattle.tables.proofs.LoadingLemmas.{loaded_by}
use Rattle.tables.proofs.ExceedanceTexts.{load_exceedances}
use Rattle.tables.proofs.exceedance.load_exceedances.Goals as goal

pub load-requires : goal.load-requires
load-requires g c clean = (load_exceedances (state g.S.Store c.args.conn.now) (c.requires clean)).plain

pub returns-clause-loaded : goal.returns-clause-loaded
returns-clause-loaded g c =
    let given = c.load.ensures in
    loaded_by _ _ c.requires (load_exceedances (state g.S.Store c.args.conn.now)) given.crash exceedance_row IsExceedanceRow (λ all. all.items) c.load.result given.found given.same given.stops given.damaged
