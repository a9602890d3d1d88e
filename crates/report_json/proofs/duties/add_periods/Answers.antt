use Rattle.std.proofs.Common.{◌+◌, ◌++◌, ◌∙◌, ap, map}
use Rattle.std.specs.List.{enumerate_from}
use Rattle.serde_json.specs.View.{view}
use Rattle.report_json.specs.RosterJson.{period_duty_json}
use Rattle.report_json.proofs.Rows.{one_more}
use Rattle.report_json.proofs.duties.add_periods.Goals as goal

pub loop-index-preserved : goal.loop-index-preserved
loop-index-preserved c =
    one_more (period_duty_json c.args.id.now) c.loop-index.duties.items c.push.new.self.items c.in_ok-period_value.field-0
    (map view c.args.duties.now.items ++ map (period_duty_json c.args.id.now) (enumerate_from 1 c.deref-period-items.result.now))
    c.deref-period-items.result.now c.loop-index.index c.period-item.result c.loop-index-test.true
    (c.in_ok-period_value.ensures ∙ ap (λ p. period_duty_json c.args.id.now (c.loop-index.index + 1, p)) c.period-item.is)
    c.in_ok-push.ensures.items c.loop-index.invariant
