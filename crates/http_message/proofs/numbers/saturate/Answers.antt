use Rattle.std.proofs.Common.{arith}
use Rattle.http_message.proofs.NumberLemmas.{one_more}
use Rattle.http_message.proofs.numbers.saturate.Goals as goal

pub loop-digit-preserved : goal.loop-digit-preserved
loop-digit-preserved c =
    let more = one_more c.args.text.now c.loop-digit.digit-index c.requires c.loop-digit-test.true in
    let was = c.loop-digit.invariant in
    omega (arith, more.0, more.1, more.2, was, c.from.ensures, c.min-number.ensures)
