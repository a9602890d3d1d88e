use Rattle.std.proofs.Common.{◌∙◌, sym, refl, length, arith}
use Rattle.std.specs.List.{list_any}
use Rattle.std.proofs.lemmas.Option.{slice_get_read}
use Rattle.duty.specs.Minutes.{spans_of}
use Rattle.duty.proofs.Scans.{some_at, none_all, list_any-flat_map}
use Rattle.duty.proofs.scan.any_span.Goals as goal

pub returns-then-any_span_of : goal.returns-then-any_span_of
returns-then-any_span_of g c =
    let test = g.T.SpanTest.passes c.args.test.now in
    let spans = spans_of c.args.kind in
    let all = c.args.duties.now in
    let here = slice_get_read all (length all) c.loop-duty.duty-index c.duty-item.result refl
    (omega arith) c.duty-item.is in
    sym (list_any-flat_map test spans all ∙ some_at
    (λ d. list_any test (spans d)) all c.loop-duty.duty-index c.duty-item.result here
    (sym c.any_span_of.ensures ∙ c.if-any_span_of.true))

pub returns : goal.returns
returns g c =
    let test = g.T.SpanTest.passes c.args.test.now in
    let spans = spans_of c.args.kind in
    let all = c.args.duties.now in
    sym (list_any-flat_map test spans all ∙ none_all (λ d. list_any test (spans d)) all c.loop-duty.duty-index
    (omega arith) c.loop-duty.invariant)
