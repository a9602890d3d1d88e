use Rattle.std.proofs.Common.{◌∷◌, map, ap, ap₂, refl}
use Rattle.sqlite.specs.Values.{bound_value}
use Rattle.sqlite.specs.Held.{state}
use Rattle.tables.specs.Records.{period_row, IsPeriodRow}
use Rattle.tables.specs.Schema.{period_table, seat_table, IsTable}
use Rattle.tables.proofs.HeldReads.{held_bare, held_read_by, held_reader}
use Rattle.tables.proofs.period.periods_held_by.Goals as goal

pub read_all-requires : goal.read_all-requires
read_all-requires g c clean = held_bare (state g.S.Store c.args.conn.now).now.schema

pub returns-clause-read : goal.returns-clause-read
returns-clause-read g c =
    let given = c.read_all.ensures in
    let old = state g.S.Store c.args.conn.now in
    held_read_by c.args.crew.now {B = IsTable seat_table old.now.schema × IsTable period_table old.now.schema} old (state g.S.Store c.read_all.new.conn) (λ clean opened. (c.requires.seats clean opened, c.requires.periods clean opened)) (λ there. held_reader c.args.crew.now old there.0 there.1) given.crash
    (ap₂ ◌∷◌ (ap bound_value c.params-to_sql.ensures) refl) IsPeriodRow (λ all. map period_row all.items) c.read_all.result given.shown given.same given.stops given.damaged
