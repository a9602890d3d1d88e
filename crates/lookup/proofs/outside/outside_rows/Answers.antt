use Rattle.std.proofs.Common.{◌≡◌, ◌∙◌, [], arith, map, rules, subst, sym, Result}
use Rattle.std.proofs.lemmas.Bool.{eqb-true}
use Rattle.std.proofs.lemmas.List.{nil_from_length}
use Rattle.tables.specs.Records.{outside_row, outside_segment_row}
use Rattle.std.proofs.lemmas.Result.{err_from_is_err_and}
use Rattle.sqlite.specs.Held.{state}
use Rattle.state_rows.specs.Rows.{outside, outside_segment}
use Rattle.state_rows.specs.declared.fault.StoreFault.{StoreFault}
use Rattle.lookup.specs.Outsides.{ReadsOutside}
use Rattle.lookup.specs.declared.outside.OutsideRecords.{OutsideRecords}
use Rattle.lookup.proofs.OutsideReads.{both_read, no_outside, not_first, not_second}
use Rattle.lookup.proofs.ReadLemmas.{IsReady, holds_open, reads, reads_not, ready_on}
use Rattle.lookup.proofs.outside.outside_rows.Goals as goal

pub returns-in_err-periods : goal.returns-in_err-periods
returns-in_err-periods g c =
    let a = state g.S.Store c.args.conn.now in
    let b = state g.S.Store c.outside_by_id.new.conn in
    let ready : IsReady a = record { outside = c.requires.outside; over = c.requires.over; settled = search rules } in
    let p = err_from_is_err_and c.from_residual.result c.from_residual.ensures.1 in
    let failed = reads_not outside _ a b ready c.outside_by_id.ensures.crash c.in_err-periods.field-0.0 p.0 c.in_err-periods.ensures.read p.2 in
    subst (λ (r : Result OutsideRecords StoreFault). ReadsOutside c.args.id.now a b r) (sym p.1)
    (not_first c.args.id.now a b p.0 failed.stays failed.caused)

pub outside_segments_of-requires : goal.outside_segments_of-requires
outside_segments_of-requires g c =
    let a = state g.S.Store c.args.conn.now in
    let b = state g.S.Store c.outside_by_id.new.conn in
    let ready : IsReady a = record { outside = c.requires.outside; over = c.requires.over; settled = search rules } in
    let first = reads outside _ a b ready c.outside_by_id.ensures.crash (map outside_row c.in_ok-periods.periods.items) c.in_ok-periods.ensures.read in
    let ready_b = ready_on outside _ a b (map outside_row c.in_ok-periods.periods.items) ready first in
    holds_open outside_segment b ready_b.over

pub returns-in_err-segments : goal.returns-in_err-segments
returns-in_err-segments g c =
    let a = state g.S.Store c.args.conn.now in
    let b = state g.S.Store c.outside_by_id.new.conn in
    let d = state g.S.Store c.outside_segments_of.new.conn in
    let ready : IsReady a = record { outside = c.requires.outside; over = c.requires.over; settled = search rules } in
    let first = reads outside _ a b ready c.outside_by_id.ensures.crash (map outside_row c.in_ok-periods.periods.items) c.in_ok-periods.ensures.read in
    let ready_b = ready_on outside _ a b (map outside_row c.in_ok-periods.periods.items) ready first in
    let p = err_from_is_err_and c.from_residual-in_err-segments.result c.from_residual-in_err-segments.ensures.1 in
    let failed = reads_not outside_segment _ b d ready_b c.outside_segments_of.ensures.crash c.in_err-segments.field-0.0 p.0 c.in_err-segments.ensures.read p.2 in
    subst (λ (r : Result OutsideRecords StoreFault). ReadsOutside c.args.id.now a d r) (sym p.1)
    (not_second c.args.id.now a b d p.0 first.stays failed.stays failed.caused)

pub returns-then-is_empty : goal.returns-then-is_empty
returns-then-is_empty g c =
    let a = state g.S.Store c.args.conn.now in
    let b = state g.S.Store c.outside_by_id.new.conn in
    let ready : IsReady a = record { outside = c.requires.outside; over = c.requires.over; settled = search rules } in
    let first = reads outside _ a b ready c.outside_by_id.ensures.crash (map outside_row c.in_ok-periods.periods.items) c.in_ok-periods.ensures.read in
    let rows = c.in_ok-periods.periods in
    let len : rows.len ≡ 0 = eqb-true rows.len 0 (sym c.is_empty.ensures ∙ c.if-is_empty.true) in
    let none : rows.items ≡ [] = nil_from_length rows.items (omega (arith, len, rows.ok.0)) in
    no_outside c.args.id.now a b _ first.stays first.told none

pub returns : goal.returns
returns g c =
    let a = state g.S.Store c.args.conn.now in
    let b = state g.S.Store c.outside_by_id.new.conn in
    let d = state g.S.Store c.outside_segments_of.new.conn in
    let ready : IsReady a = record { outside = c.requires.outside; over = c.requires.over; settled = search rules } in
    let first = reads outside _ a b ready c.outside_by_id.ensures.crash (map outside_row c.in_ok-periods.periods.items) c.in_ok-periods.ensures.read in
    let ready_b = ready_on outside _ a b (map outside_row c.in_ok-periods.periods.items) ready first in
    let second = reads outside_segment _ b d ready_b c.outside_segments_of.ensures.crash (map outside_segment_row c.in_ok-segments.segments.items) c.in_ok-segments.ensures.read in
    both_read c.args.id.now a b d _ first.stays second.stays first.told second.told
