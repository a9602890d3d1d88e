use Rattle.std.proofs.Common.{◌∙◌, sym}
use Rattle.duty.specs.Minutes.{spans_of}
use Rattle.duty.proofs.Scans.{some_at, none_more}
use Rattle.duty.proofs.scan.any_span_of.Goals as goal

pub returns-then-passes : goal.returns-then-passes
returns-then-passes g c =
    sym (some_at (g.T.SpanTest.passes c.args.test.now)
    (spans_of c.args.kind c.args.duty.now) c.loop-index.index c.span_at.result c.span_at.ensures
    (sym c.passes.ensures ∙ c.if-passes.true))

pub loop-index-preserved : goal.loop-index-preserved
loop-index-preserved g c = record {
  end = c.loop-index.invariant.end;
  none = none_more (g.T.SpanTest.passes c.args.test.now)
      (spans_of c.args.kind c.args.duty.now) c.loop-index.index c.span_at.result c.span_at.ensures
      c.loop-index.invariant.none (sym c.passes.ensures ∙ c.if-passes.false);
}
