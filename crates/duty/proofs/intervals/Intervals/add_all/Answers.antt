use Rattle.std.proofs.Common.{arith}
use Rattle.duty.proofs.Rows.{row-added}
use Rattle.duty.proofs.intervals.Intervals.add_all.Goals as goal

pub loop-next-preserved : goal.loop-next-preserved
loop-next-preserved g c =
    let now = c.loop-next.invariant in
    let left = now.room in
    let grown = c.add_from-next.ensures.room in
    let some = c.add_from-next.ensures.some in
    record {
      room = omega arith;
      within = c.add_from-next.ensures.within;
      minutes = λ minute. row-added (g.S.Spans.spans c.args.spans.now) c.loop-next.self.spans c.add_from-next.new.self.spans
          c.args.self.now.spans c.loop-next.next c.add_from-next.result minute (omega arith)
          (c.add_from-next.ensures.minutes minute) (now.minutes minute);
    }
