use Rattle.std.proofs.Common.{Bool, ◌∙◌, sym, refl, length, arith}
use Rattle.std.specs.List.{list_any}
use Rattle.std.proofs.lemmas.Option.{slice_get_read}
use Rattle.duty.specs.declared.span.Span.{Span}
use Rattle.duty.specs.Minutes.{spans_of}
use Rattle.duty.specs.declared.kind.Kind.TheVariants.{Flight}
use Rattle.duty.proofs.Scans.{some_at, none_all, list_any-flat_map}
use Rattle.limits.specs.Laws.Windows.{days_of}
use Rattle.limits.proofs.year_limit.any_flight.Goals as goal

pub returns-then-any_flight_of : goal.returns-then-any_flight_of
returns-then-any_flight_of g c =
    let test : Span → Bool = λ span. g.T.DaysTest.passes c.args.test.now (days_of span) in
    let all = c.args.duties.now in
    let here = slice_get_read all (length all) c.loop-duty.duty-index c.duty-item.result refl
    (omega arith) c.duty-item.is in
    sym (list_any-flat_map test (spans_of Flight) all ∙ some_at
    (λ d. list_any test (spans_of Flight d)) all c.loop-duty.duty-index c.duty-item.result here
    (sym c.any_flight_of.ensures ∙ c.if-any_flight_of.true))

pub returns : goal.returns
returns g c =
    let test : Span → Bool = λ span. g.T.DaysTest.passes c.args.test.now (days_of span) in
    let all = c.args.duties.now in
    sym (list_any-flat_map test (spans_of Flight) all ∙ none_all (λ d. list_any test (spans_of Flight d)) all
    c.loop-duty.duty-index (omega arith) c.loop-duty.invariant)
