use Rattle.std.proofs.Common.{refl}
use Rattle.waiting.proofs.DialogueLemmas.{only_sent, then_sent}
use Rattle.waiting.proofs.dialogue.Dialogue.go_on.Goals as goal

-- (its response is sent on)
pub returns-in-Sending : goal.returns-in-Sending
returns-in-Sending g c =
    only_sent g.A.Answerer.answers (g.R.Read.remaining c.args.reader.now) (g.R.Read.remaining c.args.reader.now) _ _ c.args.self.now c.send-in-Sending.new.self c.args.kept.now c.args.kept.now
    c.in-Sending.served c.in-Sending.is c.send-in-Sending.ensures refl

-- (its request was answered, and the response begins to go)
pub returns-in-Sending-stage : goal.returns-in-Sending-stage
returns-in-Sending-stage g c =
    then_sent g.A.Answerer.answers _ _ _ _ c.args.self.now c.send.new.self c.args.kept.now c.receive.new.kept c.in-Sending-stage.served c.receive.new.self (g.W.Write.contents c.receive.new.writer)
    c.in-Receiving.is c.receive.ensures c.in-Sending-stage.is c.send.ensures
