use Rattle.std.proofs.Common.{rules, ◌≡◌, sym, ap, subst, ◌∙◌, ◌+◌, [], ◌∷◌, ◌++◌, Some, Err}
use Rattle.std.specs.FinMap as fin
use Rattle.std.specs.Option.{option_copied}
use Rattle.entries.specs.PlanRows.{period_name, IsReadPeriod, ArePeriodsRead, HasNoPeriods}
use Rattle.entries.specs.declared.fault.TableName.TheVariants as table_name
use Rattle.entries.specs.declared.plans.ReadPeriods.{ReadPeriods}
use Rattle.entries.proofs.PlanLemmas.{NoPeriod, no_period, passed_on, periods_more}
use Rattle.entries.proofs.plans.periods_of.Goals as goal

pub loop-place-preserved : goal.loop-place-preserved
loop-place-preserved c =
    let periods = c.args.rows.now.periods in
    let rows = c.args.rows.now.segments in
    let id = c.args.id.now in
    let place = c.loop-place.place in
    let row = c.in-Some.row.now in
    let period = c.in_ok-period.period in
    let actual = c.in_ok-period.actual in
    let inv = c.loop-place.invariant in
    let there : fin.get periods (period_name id (place + 1)) ≡ Some row = sym c.in_ok-row.ensures ∙ ap option_copied c.in-Some.is in
    let told : IsReadPeriod rows id (place + 1) row period actual =
    subst (λ p. IsReadPeriod rows id (place + 1) row p actual) c.in_ok-period.period-is
    (subst (λ a. IsReadPeriod rows id (place + 1) row c.in_ok-period.field-0.planned a) c.in_ok-period.actual-is c.in_ok-period.ensures) in
    let more : c.push.new.self.items ≡ c.loop-place.planned.items ++ period ∷ [] = search rules in
    let also : c.push-in-loop-place.new.self.items ≡ c.loop-place.actuals.items ++ actual ∷ [] = search rules in
    periods_more periods rows id c.loop-place.planned.items c.push.new.self.items c.loop-place.actuals.items c.push-in-loop-place.new.self.items period actual row place inv.0 inv.1 inv.2 there told more also

pub returns-in_err-period : goal.returns-in_err-period
returns-in_err-period c =
    let periods = c.args.rows.now.periods in
    let rows = c.args.rows.now.segments in
    let id = c.args.id.now in
    let place = c.loop-place.place in
    let row = c.in-Some.row.now in
    let there : fin.get periods (period_name id (place + 1)) ≡ Some row = sym c.in_ok-row.ensures ∙ ap option_copied c.in-Some.is in
    let fault = c.in_err-period.field-0.0 in
    let is : c.from_residual-in_err-period.result ≡ Err fault = search rules in
    passed_on (λ (found : ReadPeriods). ArePeriodsRead periods rows id found.planned.items found.actuals.items) table_name.Segment (NoPeriod rows id (place + 1) row) (HasNoPeriods periods rows id)
    c.from_residual-in_err-period.result fault is (no_period periods rows id place row there) c.in_err-period.ensures
