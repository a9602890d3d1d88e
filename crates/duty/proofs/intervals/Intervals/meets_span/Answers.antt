use Rattle.std.proofs.Common.{◌∙◌, arith}
use Rattle.std.proofs.lemmas.Bool.{le-ltb}
use Rattle.duty.proofs.Overlapping.{meets-test, meets-none}
use Rattle.duty.proofs.intervals.Intervals.meets_span.Goals as goal

pub returns-then-from-to : goal.returns-then-from-to
returns-then-from-to c =
    let from = c.number-from.ensures.value in
    let to = c.number-to.ensures.value in
    meets-test c.meets.result c.args.span c.args.self.now.spans (omega arith) (rw (from, to) at c.meets.ensures)

pub returns-else-from-to : goal.returns-else-from-to
returns-else-from-to c = le-ltb _ _ (omega arith) ∙ meets-none c.args.span c.args.self.now.spans (omega arith)
