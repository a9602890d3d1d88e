use Rattle.std.proofs.Common.{rules, ◌≡◌, sym, subst, ◌∙◌, Err, Option}
use Rattle.duty.specs.Plans.{ActualTimes}
use Rattle.duty.specs.declared.fdp.Fdp.{Fdp}
use Rattle.entries.specs.PlanRows.{HasNoSegments, IsActualOf, IsReadPeriod}
use Rattle.entries.specs.declared.fault.TableName.TheVariants as table_name
use Rattle.entries.specs.declared.plans.ReadPeriod.{ReadPeriod}
use Rattle.entries.proofs.PlanLemmas.{NoPeriod, bad_segments, bad_actual, passed_on, period_told}
use Rattle.entries.proofs.plans.period_of.Goals as goal

pub returns-in_err-found : goal.returns-in_err-found
returns-in_err-found c =
    let rows = c.args.rows.now.segments in
    let id = c.args.id.now in
    let number = c.args.number in
    let it = c.args.row.now in
    let fault = c.in_err-found.field-0.0 in
    let is : c.from_residual-in_err-found.result ≡ Err fault = search rules in
    passed_on (λ (p : ReadPeriod). IsReadPeriod rows id number it p.planned p.actual) table_name.Segment (HasNoSegments rows id number) (NoPeriod rows id number it) c.from_residual-in_err-found.result fault is
    (bad_segments rows id number it) c.in_err-found.ensures

pub returns-in_err-actual : goal.returns-in_err-actual
returns-in_err-actual c =
    let rows = c.args.rows.now.segments in
    let id = c.args.id.now in
    let number = c.args.number in
    let it = c.args.row.now in
    let planned = c.in_ok-found.found.planned.items in
    let flown = c.in_ok-found.found.flown.items in
    let fault = c.in_err-actual.field-0.0 in
    let is : c.from_residual-in_err-actual.result ≡ Err fault = search rules in
    passed_on (λ (p : ReadPeriod). IsReadPeriod rows id number it p.planned p.actual) table_name.Segment ((a : Option ActualTimes) → IsActualOf number c.in_ok-times.times c.deref.result.now a → ⊥) (NoPeriod rows id number it)
    c.from_residual-in_err-actual.result fault is
    (λ none. bad_actual rows id number it planned flown c.in_ok-times.times c.requires.whole c.in_ok-found.ensures c.in_ok-times.ensures
    (λ a of. none a (subst (λ l. IsActualOf number c.in_ok-times.times l a) (sym c.deref.ensures.value) of)))
    c.in_err-actual.ensures

pub returns : goal.returns
returns c =
    let rows = c.args.rows.now.segments in
    let planned = c.in_ok-found.found.planned.items in
    let flown = c.in_ok-found.found.flown.items in
    let report = c.in_ok-report.ensures in
    let release = c.in_ok-release.ensures in
    let actual = subst (λ l. IsActualOf c.args.number c.in_ok-times.times l c.in_ok-actual.actual) c.deref.ensures.value c.in_ok-actual.ensures in
    let is : c.new-2.result ≡ record { planned_report = c.in_ok-report.report; report = c.in_ok-report.report; release = c.in_ok-release.release; segments = planned } =
    c.new-2.ensures ∙ (λ i. record { planned_report = c.in_ok-report.report; report = c.in_ok-report.report; release = c.in_ok-release.release; segments = c.new.ensures i }) in
    subst (λ (f : Fdp). IsReadPeriod rows c.args.id.now c.args.number c.args.row.now f c.in_ok-actual.actual) (sym is)
    (period_told rows c.args.id.now c.args.number planned flown c.args.row.now c.in_ok-times.times c.in_ok-actual.actual c.in_ok-report.report c.in_ok-release.release c.requires.whole
    c.in_ok-found.ensures actual c.in_ok-times.ensures report.0 report.1 release.0 release.1)
