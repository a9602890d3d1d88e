use Rattle.std.proofs.Common.{◌≡◌, ◌∙◌, [], arith, map, rules, subst, sym, Result}
use Rattle.std.proofs.lemmas.Bool.{eqb-true}
use Rattle.std.proofs.lemmas.List.{nil_from_length}
use Rattle.tables.specs.Records.{period_row, seat_row, segment_row}
use Rattle.std.proofs.lemmas.Result.{err_from_is_err_and}
use Rattle.sqlite.specs.Held.{state}
use Rattle.state_rows.specs.Rows.{period, segment, seat}
use Rattle.state_rows.specs.declared.fault.StoreFault.{StoreFault}
use Rattle.lookup.specs.Plans.{ReadsPlan}
use Rattle.lookup.specs.declared.pairing.PlanRecords.{PlanRecords}
use Rattle.lookup.proofs.PlanReads.{all_read, no_plan, not_first, not_second, not_third}
use Rattle.lookup.proofs.ReadLemmas.{IsReady, holds_open, reads, reads_not, ready_on}
use Rattle.lookup.proofs.pairing.plan_rows.Goals as goal

pub returns-in_err-periods : goal.returns-in_err-periods
returns-in_err-periods g c =
    let a = state g.S.Store c.args.conn.now in
    let b = state g.S.Store c.periods_of.new.conn in
    let ready : IsReady a = record { outside = c.requires.outside; over = c.requires.over; settled = search rules } in
    let p = err_from_is_err_and c.from_residual.result c.from_residual.ensures.1 in
    let failed = reads_not period _ a b ready c.periods_of.ensures.crash c.in_err-periods.field-0.0 p.0 c.in_err-periods.ensures.read p.2 in
    subst (λ (r : Result PlanRecords StoreFault). ReadsPlan c.args.id.now a b r) (sym p.1)
    (not_first c.args.id.now a b p.0 failed.stays failed.caused)

pub segments_of-requires : goal.segments_of-requires
segments_of-requires g c =
    let a = state g.S.Store c.args.conn.now in
    let b = state g.S.Store c.periods_of.new.conn in
    let ready : IsReady a = record { outside = c.requires.outside; over = c.requires.over; settled = search rules } in
    let first = reads period _ a b ready c.periods_of.ensures.crash (map period_row c.in_ok-periods.periods.items) c.in_ok-periods.ensures.read in
    let ready_b = ready_on period _ a b (map period_row c.in_ok-periods.periods.items) ready first in
    holds_open segment b ready_b.over

pub returns-in_err-segments : goal.returns-in_err-segments
returns-in_err-segments g c =
    let a = state g.S.Store c.args.conn.now in
    let b = state g.S.Store c.periods_of.new.conn in
    let d = state g.S.Store c.segments_of.new.conn in
    let ready : IsReady a = record { outside = c.requires.outside; over = c.requires.over; settled = search rules } in
    let first = reads period _ a b ready c.periods_of.ensures.crash (map period_row c.in_ok-periods.periods.items) c.in_ok-periods.ensures.read in
    let ready_b = ready_on period _ a b (map period_row c.in_ok-periods.periods.items) ready first in
    let p = err_from_is_err_and c.from_residual-in_err-segments.result c.from_residual-in_err-segments.ensures.1 in
    let failed = reads_not segment _ b d ready_b c.segments_of.ensures.crash c.in_err-segments.field-0.0 p.0 c.in_err-segments.ensures.read p.2 in
    subst (λ (r : Result PlanRecords StoreFault). ReadsPlan c.args.id.now a d r) (sym p.1)
    (not_second c.args.id.now a b d p.0 first.stays failed.stays failed.caused)

pub seats_of-requires : goal.seats_of-requires
seats_of-requires g c =
    let a = state g.S.Store c.args.conn.now in
    let b = state g.S.Store c.periods_of.new.conn in
    let d = state g.S.Store c.segments_of.new.conn in
    let ready : IsReady a = record { outside = c.requires.outside; over = c.requires.over; settled = search rules } in
    let first = reads period _ a b ready c.periods_of.ensures.crash (map period_row c.in_ok-periods.periods.items) c.in_ok-periods.ensures.read in
    let ready_b = ready_on period _ a b (map period_row c.in_ok-periods.periods.items) ready first in
    let second = reads segment _ b d ready_b c.segments_of.ensures.crash (map segment_row c.in_ok-segments.segments.items) c.in_ok-segments.ensures.read in
    let ready_d = ready_on segment _ b d (map segment_row c.in_ok-segments.segments.items) ready_b second in
    holds_open seat d ready_d.over

pub returns-in_err-seats : goal.returns-in_err-seats
returns-in_err-seats g c =
    let a = state g.S.Store c.args.conn.now in
    let b = state g.S.Store c.periods_of.new.conn in
    let d = state g.S.Store c.segments_of.new.conn in
    let e = state g.S.Store c.seats_of.new.conn in
    let ready : IsReady a = record { outside = c.requires.outside; over = c.requires.over; settled = search rules } in
    let first = reads period _ a b ready c.periods_of.ensures.crash (map period_row c.in_ok-periods.periods.items) c.in_ok-periods.ensures.read in
    let ready_b = ready_on period _ a b (map period_row c.in_ok-periods.periods.items) ready first in
    let second = reads segment _ b d ready_b c.segments_of.ensures.crash (map segment_row c.in_ok-segments.segments.items) c.in_ok-segments.ensures.read in
    let ready_d = ready_on segment _ b d (map segment_row c.in_ok-segments.segments.items) ready_b second in
    let p = err_from_is_err_and c.from_residual-in_err-seats.result c.from_residual-in_err-seats.ensures.1 in
    let failed = reads_not seat _ d e ready_d c.seats_of.ensures.crash c.in_err-seats.field-0.0 p.0 c.in_err-seats.ensures.read p.2 in
    subst (λ (r : Result PlanRecords StoreFault). ReadsPlan c.args.id.now a e r) (sym p.1)
    (not_third c.args.id.now a b d e p.0 first.stays second.stays failed.stays failed.caused)

pub returns-then-is_empty : goal.returns-then-is_empty
returns-then-is_empty g c =
    let a = state g.S.Store c.args.conn.now in
    let b = state g.S.Store c.periods_of.new.conn in
    let ready : IsReady a = record { outside = c.requires.outside; over = c.requires.over; settled = search rules } in
    let first = reads period _ a b ready c.periods_of.ensures.crash (map period_row c.in_ok-periods.periods.items) c.in_ok-periods.ensures.read in
    let rows = c.in_ok-periods.periods in
    let len : rows.len ≡ 0 = eqb-true rows.len 0 (sym c.is_empty.ensures ∙ c.if-is_empty.true) in
    let none : rows.items ≡ [] = nil_from_length rows.items (omega (arith, len, rows.ok.0)) in
    no_plan c.args.id.now a b _ first.stays first.told none

pub returns : goal.returns
returns g c =
    let a = state g.S.Store c.args.conn.now in
    let b = state g.S.Store c.periods_of.new.conn in
    let d = state g.S.Store c.segments_of.new.conn in
    let e = state g.S.Store c.seats_of.new.conn in
    let ready : IsReady a = record { outside = c.requires.outside; over = c.requires.over; settled = search rules } in
    let first = reads period _ a b ready c.periods_of.ensures.crash (map period_row c.in_ok-periods.periods.items) c.in_ok-periods.ensures.read in
    let ready_b = ready_on period _ a b (map period_row c.in_ok-periods.periods.items) ready first in
    let second = reads segment _ b d ready_b c.segments_of.ensures.crash (map segment_row c.in_ok-segments.segments.items) c.in_ok-segments.ensures.read in
    let ready_d = ready_on segment _ b d (map segment_row c.in_ok-segments.segments.items) ready_b second in
    let third = reads seat _ d e ready_d c.seats_of.ensures.crash (map seat_row c.in_ok-seats.seats.items) c.in_ok-seats.ensures.read in
    all_read c.args.id.now a b d e _ first.stays second.stays third.stays first.told second.told third.told
