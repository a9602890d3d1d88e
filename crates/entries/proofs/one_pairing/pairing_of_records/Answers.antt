use Rattle.std.proofs.Common.{◌≡◌, inl, inr, sym, subst, rules, ℕ, List, length, Result, Ok, Err, IfErr, IfOk}
use Rattle.std.specs.Prelude.{MatchResult}
use Rattle.roster.specs.declared.state.PairingEntry.{PairingEntry}
use Rattle.tables.specs.declared.period.PeriodRecord.{PeriodRecord}
use Rattle.tables.specs.declared.segment.SegmentRecord.{SegmentRecord}
use Rattle.entries.specs.Keyed.{ArePeriodsWanting, ArePeriodsWhole, Ids, PeriodsRead, SegmentsRead}
use Rattle.entries.specs.OnePairing.{IsToldBy, GiveNoPairing, RefusesPairing, only}
use Rattle.entries.specs.PlanRows.{Periods, Segments, IsPairingOfRows}
use Rattle.entries.specs.Faults.{Blames}
use Rattle.entries.specs.declared.fault.LoadFault.{LoadFault}
use Rattle.entries.specs.declared.fault.LoadFault.TheVariants.{NotABook, Damaged, Version, Fault}
use Rattle.entries.specs.declared.fault.TableName as name
use Rattle.entries.specs.declared.fault.TableName.TheVariants as table_name
use Rattle.entries.proofs.one_pairing.pairing_of_records.Goals as goal

told_by : {E : Type 0} (Bad : E → Type 0) (ids : Ids) (m : Periods) (n : Segments) (id : List ℕ) (periods : List PeriodRecord) (segments : List SegmentRecord) →
    PeriodsRead ids periods (length periods) m → SegmentsRead m segments (length segments) n →
    (result : Result PairingEntry E) → MatchResult result (IsPairingOfRows m n id) Bad → IfOk result (IsToldBy id periods segments)
told_by Bad ids m n id periods segments read also (Ok r) told =
    record { ids = ids; by_number = m; by_numbers = n; periods_read = read; segments_read = also; told = told }
told_by Bad ids m n id periods segments read also (Err fault) told = tt

module _ (id : List ℕ) (periods : List PeriodRecord) (segments : List SegmentRecord) (its : name.TableName) (Why : Type 0) (untold : Why → GiveNoPairing id periods segments) where
  blamed : (fault : LoadFault) → Blames its Why fault → RefusesPairing id periods segments fault
  blamed NotABook blame = absurd blame
  blamed Version blame = absurd blame
  blamed (Damaged other) blame = untold blame.1
  blamed (Fault fault) blame = tt

  passed_on : (result : Result PairingEntry LoadFault) (fault : LoadFault) → result ≡ Err fault → Blames its Why fault → IfErr result (RefusesPairing id periods segments)
  passed_on result fault is blame = subst (λ (r : Result PairingEntry LoadFault). IfErr r (RefusesPairing id periods segments)) (sym is) (blamed fault blame)

  if_blamed : (Is : PairingEntry → Type 0) (result : Result PairingEntry LoadFault) → MatchResult result Is (Blames its Why) → IfErr result (RefusesPairing id periods segments)
  if_blamed Is (Ok r) told = tt
  if_blamed Is (Err fault) blame = blamed fault blame

pub returns-clause-told : goal.returns-clause-told
returns-clause-told c =
    told_by _ _ _ _ _ _ _ c.in_ok-periods.ensures.0 c.in_ok-segments.ensures.0 c.pairing_of.result c.pairing_of.ensures.told

pub returns-in_err-periods-clause-untold : goal.returns-in_err-periods-clause-untold
returns-in_err-periods-clause-untold c =
    let id = c.args.id.now in
    let periods = c.args.periods.now in
    let fault = c.in_err-periods.field-0.0 in
    let is : c.from_residual-in_err-periods.result ≡ Err fault = search rules in
    let ids : c.insert.new.self ≡ only id = search rules in
    passed_on id periods c.args.segments.now table_name.Period _ (λ why. inl (subst (λ (m : Ids). ArePeriodsWanting m periods (length periods)) ids why))
    c.from_residual-in_err-periods.result fault is c.in_err-periods.ensures

pub returns-in_err-segments-clause-untold : goal.returns-in_err-segments-clause-untold
returns-in_err-segments-clause-untold c =
    let id = c.args.id.now in
    let periods = c.args.periods.now in
    let fault = c.in_err-segments.field-0.0 in
    let is : c.from_residual-in_err-segments.result ≡ Err fault = search rules in
    let ids : c.insert.new.self ≡ only id = search rules in
    passed_on id periods c.args.segments.now table_name.Segment _
    (λ why. inr (c.in_ok-periods.periods, subst (λ (m : Ids). ArePeriodsWhole m periods (length periods) c.in_ok-periods.periods) ids c.in_ok-periods.ensures, inl why))
    c.from_residual-in_err-segments.result fault is c.in_err-segments.ensures

pub returns-clause-untold : goal.returns-clause-untold
returns-clause-untold c =
    let id = c.args.id.now in
    let periods = c.args.periods.now in
    let ids : c.insert.new.self ≡ only id = search rules in
    if_blamed id periods c.args.segments.now table_name.Segment _
    (λ why. inr (
      c.in_ok-periods.periods,
      subst (λ (m : Ids). ArePeriodsWhole m periods (length periods) c.in_ok-periods.periods) ids c.in_ok-periods.ensures,
      inr (c.in_ok-segments.segments, c.in_ok-segments.ensures, why),
    )) _ c.pairing_of.result c.pairing_of.ensures.told
