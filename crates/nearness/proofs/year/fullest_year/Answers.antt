use Rattle.std.proofs.Common.{◌+◌, ◌*◌, ◌/◌, arith, inl, inr, sym, ◌∙◌}
use Rattle.std.specs.Prelude.{pos}
use Rattle.std.specs.List.{flat_map}
use Rattle.std.proofs.lemmas.Bool.{cases_eq, false≢true}
use Rattle.duty.specs.Minutes.{spans_of}
use Rattle.duty.specs.declared.kind.Kind.TheVariants.{Flight}
use Rattle.limits.specs.Laws.Parts.{part-minutes}
use Rattle.nearness.proofs.Rounds.{nothing_held}
use Rattle.nearness.proofs.Years.{AreYearsTried, is_fullest_year, no_minute, none_at_all}
use Rattle.nearness.proofs.year.fullest_year.Goals as goal

pub returns-in_default-clause-none : goal.returns-in_default-clause-none
returns-in_default-clause-none c = none_at_all (flat_map (spans_of Flight) c.args.new.now)
    (λ m member. false≢true (sym (sym (c.intervals.ensures (pos m)) ∙ c.in_default.ensures.none m) ∙ member))

pub loop-day-init : goal.loop-day-init
loop-day-init c = record {
  from = omega arith;
  within = (let r = c.number.ensures.in_range in omega arith);
  holds = nothing_held (flat_map (spans_of Flight) c.args.all.now) 525_600;
  met = λ more. absurd (omega arith);
  aligned = (0, omega arith);
  tried = λ d l h m. absurd (omega arith);
}

pub loop-day-preserved : goal.loop-day-preserved
loop-day-preserved c =
    let inv = c.loop-day.invariant in
    let tried = c.better-best.ensures in
    record {
      from = (let l = inv.from in omega arith);
      within = inv.within;
      holds = tried.holds;
      met = tried.met;
      aligned = elim tried.one [
        | inl same ↦ (inv.aligned.0, same ∙ inv.aligned.1)
        | inr here ↦ (c.loop-day.day + 1, here)
      ];
      tried = λ d l h. elim (cases_eq d c.loop-day.day) [
        | inl same ↦ rw same tried.tried
        | inr other ↦ (λ m. tried.kept ((d + 1) * 1_440) (inv.tried d l (omega arith) m))
      ];
    }

pub returns-then-best-eq0-clause-none : goal.returns-then-best-eq0-clause-none
returns-then-best-eq0-clause-none c =
    let all = flat_map (spans_of Flight) c.args.all.now in
    let new = flat_map (spans_of Flight) c.args.new.now in
    let inv = c.loop-day.invariant in
    let a = c.number-first.ensures.value in
    let b = c.number.ensures.value in
    let are : AreYearsTried all new c.loop-day.best c.number-first.result c.number.result (c.number-first.result / 1_440)
    (c.number.result / 1_440 + 365) = record {
      inside = λ m member. (let h = c.in-Some.ensures.some m (c.intervals.ensures (pos m) ∙ member) in
          (omega (arith, h.0), omega (arith, h.1)));
      first_is = omega arith;
      last_is = omega arith;
      tried = λ d l h. inv.tried d l (omega arith);
    } in
    no_minute all new c.loop-day.best c.number-first.result c.number.result (c.number-first.result / 1_440)
    (c.number.result / 1_440 + 365) are (part-minutes Flight c.args.new.now c.args.all.now c.requires) c.if-best-eq0.true

pub returns-clause-some : goal.returns-clause-some
returns-clause-some c =
    let all = flat_map (spans_of Flight) c.args.all.now in
    let new = flat_map (spans_of Flight) c.args.new.now in
    let inv = c.loop-day.invariant in
    let a = c.number-first.ensures.value in
    let b = c.number.ensures.value in
    let are : AreYearsTried all new c.loop-day.best c.number-first.result c.number.result (c.number-first.result / 1_440)
    (c.number.result / 1_440 + 365) = record {
      inside = λ m member. (let h = c.in-Some.ensures.some m (c.intervals.ensures (pos m) ∙ member) in
          (omega (arith, h.0), omega (arith, h.1)));
      first_is = omega arith;
      last_is = omega arith;
      tried = λ d l h. inv.tried d l (omega arith);
    } in
    rw (c.by_start.ensures.minutes, c.by_start.ensures.start) (is_fullest_year all new c.loop-day.best c.number-first.result
    c.number.result (c.number-first.result / 1_440) (c.number.result / 1_440 + 365) are inv.holds inv.met inv.aligned.0 inv.aligned.1
    (omega arith))
