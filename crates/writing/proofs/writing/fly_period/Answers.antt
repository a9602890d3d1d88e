use Rattle.std.proofs.Common.{[], ◌∷◌, pos}
use Rattle.sqlite_value.specs.declared.value.Value.TheVariants.{Int, Text}
use Rattle.sqlite.specs.Held.{state}
use Rattle.tables.specs.Records.{with_period_times}
use Rattle.tables.specs.Rows.{begins_with}
use Rattle.state_rows.specs.Rows.{period}
use Rattle.writing.proofs.Chaining.{wrote_ok}
use Rattle.writing.proofs.Tables.{updates_keep}
use Rattle.writing.proofs.writing.fly_period.Goals as goal

pub returns : goal.returns
returns g c =
    let given = rw (c.as_str.ensures, c.from-number.ensures, c.period.ensures.period, c.number-report.ensures.value, c.report.ensures, c.number-release.ensures.value, c.release.ensures) at c.in_ok-update_period.ensures in
    wrote_ok (state g.S.Store c.args.conn.now) (state g.S.Store c.update_period.new.conn) tt (updates_keep period (begins_with (Text c.args.id.now ∷ Int (pos c.args.actual.now.period) ∷ [])) (with_period_times c.args.actual.now.report c.args.actual.now.release)) c.requires given.ran given.crash
