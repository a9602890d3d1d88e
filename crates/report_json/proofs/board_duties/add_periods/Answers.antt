use Rattle.std.proofs.Common.{◌≡◌, ◌∙◌, sym, ap, ℕ, ◌+◌, [], ◌∷◌, ◌++◌, get_or, map}
use Rattle.std.specs.List.{enumerate_from, filter}
use Rattle.serde_json.specs.View.{view}
use Rattle.report.specs.Board.{period_meets}
use Rattle.report.specs.declared.periods.PeriodInForce.{PeriodInForce}
use Rattle.report_json.specs.BoardJson.{board_period_json}
use Rattle.report_json.proofs.Rows.{one_more_failed, one_more_passed}
use Rattle.report_json.proofs.board_duties.add_periods.Goals as goal
use Rattle.report_json.proofs.board_duties.add_periods.Goals.{then-meets+in_ok-board_period+in_ok-push, else-meets}

pub loop-index-preserved : goal.loop-index-preserved
loop-index-preserved c =
    let object = board_period_json c.args.exceeded.now c.args.id.now in
    let test = λ (row : ℕ × PeriodInForce). period_meets c.args.days row.1 in
    let periods = c.deref-period-items.result.now in
    let index = c.loop-index.index in
    let period = c.period-item.result in
    let before = c.loop-index.duties.items in
    let all = map view c.args.duties.now.items ++ map object (filter test (enumerate_from 1 periods)) in
    let met : period_meets c.args.days (get_or periods index period) ≡ c.meets.result =
    ap (period_meets c.args.days) (sym c.period-item.is) ∙ sym c.meets.ensures in
    elim c.if-meets.branch [
      | then-meets+in_ok-board_period+in_ok-push w ↦
          let added : c.if-meets.duties.items ≡ before ++ w.in_ok-board_period.field-0 ∷ [] = rw w.duties-is w.in_ok-push.ensures.items in
          one_more_passed object test before c.if-meets.duties.items w.in_ok-board_period.field-0 all periods index period c.loop-index-test.true
          (met ∙ w.if-meets.true)
          (w.in_ok-board_period.ensures ∙ ap (λ p. object (index + 1, p)) c.period-item.is)
          added c.loop-index.invariant
      | else-meets w ↦
          rw w.duties-is
          (one_more_failed object test before all periods index period c.loop-index-test.true (met ∙ w.if-meets.false) c.loop-index.invariant)
    ]
