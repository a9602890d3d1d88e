use Rattle.std.proofs.Common.{◌≡◌, ◌-◌, length, take, drop, arith}
use Rattle.std.proofs.lemmas.List.{length-drop, take_all}
use Rattle.waiting.proofs.HandLemmas.{handed_once}
use Rattle.waiting.proofs.outgoing.Outgoing.write_once.Goals as goal

pub returns-in-Ok-clause-handed : goal.returns-in-Ok-clause-handed
returns-in-Ok-clause-handed g c =
    let bytes = c.args.self.now.bytes.items in
    let gone = c.args.self.now.gone in
    let rest : take (length bytes - gone) (drop gone bytes) ≡ drop gone bytes = take_all (length bytes - gone) (drop gone bytes) (omega (arith, length-drop gone bytes)) in
    handed_once bytes gone c.in-Ok.count (g.W.Write.contents c.args.writer.now) (g.W.Write.contents c.write.new.self)
    (rw (c.deref.ensures.value, rest) at c.in-Ok.ensures.bound) (rw (c.deref.ensures.value, rest) at c.in-Ok.ensures.bytes)
