use Rattle.std.proofs.Common.{rules}
use Rattle.http_message.specs.Plan.{plan_for_head}
use Rattle.http_exchange.proofs.Exchanging.{served, broken_off, nothing_responds, nothing_broken, answered, answer_unwritten}
use Rattle.http_exchange.proofs.exchanges.exchange.Goals as goal
use Rattle.http_exchange.proofs.exchanges.exchange.Goals.{in-Body, in-Count, in-Desk, in-Report}

pub returns-in_err-to-clause-failed : goal.returns-in_err-to-clause-failed
returns-in_err-to-clause-failed g c =
    let handles = g.H.Handler.handles in
    let whole = rw c.in-Ok-Whole.field-0-is at c.in-Ok-Whole.ensures.read in
    let broken = nothing_broken handles (plan_for_head c.in-Ok-Whole.head) _ _ _ c.args.kept.now c.in_err-to.field-0.0 c.in_err-to.ensures in
    let off = broken_off handles _ _ _ _ _ _ c.in-Ok-Whole.head c.in_err-to.field-0.0 whole broken in
    search (rules, off)

pub returns-in-Answered-clause-served : goal.returns-in-Answered-clause-served
returns-in-Answered-clause-served g c =
    let handles = g.H.Handler.handles in
    let whole = rw c.in-Ok-Whole.field-0-is at c.in-Ok-Whole.ensures.read in
    let it = rw c.in-Answered.is at c.in_ok-to.ensures in
    served handles _ _ _ _ _ _ _ c.in-Ok-Whole.head _ whole (nothing_responds handles (plan_for_head c.in-Ok-Whole.head) _ _ _ _ c.args.kept.now c.in-Answered.status it)

pub returns-in_err-status-clause-failed : goal.returns-in_err-status-clause-failed
returns-in_err-status-clause-failed g c =
    let handles = g.H.Handler.handles in
    let plan = plan_for_head c.in-Ok-Whole.head in
    let whole = rw c.in-Ok-Whole.field-0-is at c.in-Ok-Whole.ensures.read in
    let off = broken_off handles (g.R.Read.remaining c.args.reader.now) _ (g.W.Write.contents c.args.writer.now) (g.W.Write.contents c.send_answer.new.writer) c.args.kept.now c.match-branch-4.kept c.in-Ok-Whole.head c.in_err-status.field-0.0 whole (elim c.match-branch-4.branch [
      | in-Body w ↦
          let asked = rw w.in-Body.is at c.in_ok-to.ensures in
          let did = rw w.deref.ensures.value at w.handle-answer.ensures in
          rw w.kept-is (answer_unwritten handles plan _ _ _ _ _ _ _ _ _ c.in_err-status.field-0.0 asked did c.in_err-status.ensures)
      | in-Report w ↦
          let asked = rw w.in-Report.is at c.in_ok-to.ensures in
          rw w.kept-is (answer_unwritten handles plan _ _ _ _ _ _ _ _ _ c.in_err-status.field-0.0 asked w.handle-answer-in-Report.ensures c.in_err-status.ensures)
      | in-Desk w ↦
          let asked = rw w.in-Desk.is at c.in_ok-to.ensures in
          rw w.kept-is (answer_unwritten handles plan _ _ _ _ _ _ _ _ _ c.in_err-status.field-0.0 asked w.handle-answer-in-Desk.ensures c.in_err-status.ensures)
      | in-Count w ↦
          let asked = rw w.in-Count.is at c.in_ok-to.ensures in
          rw w.kept-is (answer_unwritten handles plan _ _ _ _ _ _ _ _ _ c.in_err-status.field-0.0 asked w.handle-answer-in-Count.ensures c.in_err-status.ensures)
    ]) in
    search (rules, off)

pub returns-clause-served : goal.returns-clause-served
returns-clause-served g c =
    let handles = g.H.Handler.handles in
    let plan = plan_for_head c.in-Ok-Whole.head in
    let whole = rw c.in-Ok-Whole.field-0-is at c.in-Ok-Whole.ensures.read in
    served handles _ _ _ _ _ _ _ c.in-Ok-Whole.head _ whole (elim c.match-branch-4.branch [
      | in-Body w ↦
          let asked = rw w.in-Body.is at c.in_ok-to.ensures in
          let did = rw w.deref.ensures.value at w.handle-answer.ensures in
          let told = rw c.is_for_head.ensures at (rw w.answer-is at c.in_ok-status.ensures) in
          rw w.kept-is (answered handles plan _ _ _ _ _ _ _ _ _ c.in_ok-status.status asked did told)
      | in-Report w ↦
          let asked = rw w.in-Report.is at c.in_ok-to.ensures in
          let told = rw c.is_for_head.ensures at (rw w.answer-is at c.in_ok-status.ensures) in
          rw w.kept-is (answered handles plan _ _ _ _ _ _ _ _ _ c.in_ok-status.status asked w.handle-answer-in-Report.ensures told)
      | in-Desk w ↦
          let asked = rw w.in-Desk.is at c.in_ok-to.ensures in
          let told = rw c.is_for_head.ensures at (rw w.answer-is at c.in_ok-status.ensures) in
          rw w.kept-is (answered handles plan _ _ _ _ _ _ _ _ _ c.in_ok-status.status asked w.handle-answer-in-Desk.ensures told)
      | in-Count w ↦
          let asked = rw w.in-Count.is at c.in_ok-to.ensures in
          let told = rw c.is_for_head.ensures at (rw w.answer-is at c.in_ok-status.ensures) in
          rw w.kept-is (answered handles plan _ _ _ _ _ _ _ _ _ c.in_ok-status.status asked w.handle-answer-in-Count.ensures told)
    ])
