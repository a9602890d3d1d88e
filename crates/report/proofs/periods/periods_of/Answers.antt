use Rattle.std.proofs.Common.{◌≡◌, ◌∙◌, sym, ap, subst, [], ◌++◌, map, inl, inr}
use Rattle.std.specs.List.{All, zip}
use Rattle.std.specs.Slice.Iter.{iter_rest}
use Rattle.std.proofs.lemmas.List.{append-nil}
use Rattle.std.proofs.lemmas.Slice.Zip.{either_empty_from_Zip}
use Rattle.duty.proofs.ListLemmas.{zip-empty}
use Rattle.report.specs.Periods.{period_of, pairing_periods}
use Rattle.report.proofs.FewSegments.{Few, few_in_force}
use Rattle.report.proofs.periods.periods_of.Goals as goal

pub returns : goal.returns
returns c =
    let periods = iter_rest c.loop-period.period-iterator.a in
    let actuals = iter_rest c.loop-period.period-iterator.b in
    let none : map period_of (zip periods actuals) ≡ [] =
    elim (either_empty_from_Zip c.loop-period.period-iterator c.next.new.self _ c.in-None.is c.next.ensures.steps) [
      | inl e ↦ ap (λ xs. map period_of (zip xs actuals)) e
      | inr e ↦ ap (λ ys. map period_of (zip periods ys)) e ∙ ap (map period_of) (zip-empty periods)
    ] in
    let all : c.loop-period.periods.items ≡ pairing_periods c.args.entry.now =
    sym (append-nil c.loop-period.periods.items) ∙ ap (λ ys. c.loop-period.periods.items ++ ys) (sym none)
    ∙ c.loop-period.invariant in
    record {
      periods = all;
      few = subst (All Few) (sym all) (few_in_force c.args.entry.now c.periods.ensures.sound);
    }
