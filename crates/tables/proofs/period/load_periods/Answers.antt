use Rattle.sqlite.specs.Held.{state}
use Rattle.tables.specs.Records.{period_row, IsPeriodRow}
use Rattle.tables.proofs.LoadingLemmas.{loaded_by}
use Rattle.tables.proofs.PeriodTexts.{load_periods}
use Rattle.tables.proofs.period.load_periods.Goals as goal

pub load-requires : goal.load-requires
load-requires g c clean = (load_periods (state g.S.Store c.args.conn.now) (c.requires clean)).plain

pub returns-clause-loaded : goal.returns-clause-loaded
returns-clause-loaded g c =
    let given = c.load.ensures in
    loaded_by _ _ c.requires (load_periods (state g.S.Store c.args.conn.now)) given.crash period_row IsPeriodRow (λ all. all.items) c.load.result given.found given.same given.stops given.damaged
