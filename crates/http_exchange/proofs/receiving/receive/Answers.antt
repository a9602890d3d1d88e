use Rattle.std.proofs.Common.{rules}
use Rattle.http_message.specs.Plan.{plan_for_head}
use Rattle.http_exchange.specs.Receiving.{IsNeverAsked}
use Rattle.http_exchange.proofs.Exchanging.{unasked_broken}
use Rattle.http_exchange.proofs.receiving.receive.Goals as goal

pub returns-in_err-send_no_memory : goal.returns-in_err-send_no_memory
returns-in_err-send_no_memory g c =
    let off = unasked_broken IsNeverAsked (plan_for_head c.args.head.now) (g.R.Read.remaining c.args.reader.now) (g.W.Write.contents c.args.writer.now) (g.W.Write.contents c.send_no_memory.new.writer) tt c.in_err-send_no_memory.field-0.0 c.in_err-send_no_memory.ensures in
    search (rules, off)
