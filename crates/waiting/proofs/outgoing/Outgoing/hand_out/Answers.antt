use Rattle.std.proofs.Common.{◌∙◌, subst}
use Rattle.waiting.specs.Handing.{HandsOut}
use Rattle.waiting.proofs.HandLemmas.{handed_more}
use Rattle.waiting.proofs.outgoing.Outgoing.hand_out.Goals as goal

pub returns-then-self-had-clause-handed : goal.returns-then-self-had-clause-handed
returns-then-self-had-clause-handed g c =
    handed_more c.args.self.now.bytes.items c.args.self.now.gone c.loop.self.gone c.write_once.new.self.gone _ (g.W.Write.contents c.loop.writer) _ c.loop.invariant.so_far
    (subst (λ t. HandsOut t c.loop.self.gone c.write_once.new.self.gone (g.W.Write.contents c.loop.writer) (g.W.Write.contents c.write_once.new.writer)) c.loop.invariant.same c.write_once.ensures.handed)

pub returns-in-Err-Failed-clause-handed : goal.returns-in-Err-Failed-clause-handed
returns-in-Err-Failed-clause-handed g c =
    handed_more c.args.self.now.bytes.items c.args.self.now.gone c.loop.self.gone c.write_once.new.self.gone _ (g.W.Write.contents c.loop.writer) _ c.loop.invariant.so_far
    (subst (λ t. HandsOut t c.loop.self.gone c.write_once.new.self.gone (g.W.Write.contents c.loop.writer) (g.W.Write.contents c.write_once.new.writer)) c.loop.invariant.same c.write_once.ensures.handed)

pub loop-preserved : goal.loop-preserved
loop-preserved g c = record {
  same = c.write_once.ensures.bytes ∙ c.loop.invariant.same;
  so_far = handed_more c.args.self.now.bytes.items c.args.self.now.gone c.loop.self.gone c.write_once.new.self.gone _ (g.W.Write.contents c.loop.writer) _ c.loop.invariant.so_far
      (subst (λ t. HandsOut t c.loop.self.gone c.write_once.new.self.gone (g.W.Write.contents c.loop.writer) (g.W.Write.contents c.write_once.new.writer)) c.loop.invariant.same c.write_once.ensures.handed);
}
