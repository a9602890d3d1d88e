use Rattle.std.proofs.Common.{rules, refl, sym, ap, subst, ◌∙◌, arith, length, ℕ}
use Rattle.std.specs.FinMap as fin
use Rattle.std.proofs.lemmas.Option.{slice_get_read}
use Rattle.entries.specs.OutsideRows.{OutsideSegmentsRead, name_of_outside_segment}
use Rattle.entries.proofs.KeyedOutsideSegments.{none_read, stranger, one_read}
use Rattle.entries.proofs.outside_segments.by_keys.Goals as goal

pub loop-row-init : goal.loop-row-init
loop-row-init c = subst (OutsideSegmentsRead c.args.outsides.now c.args.records.now 0) (sym c.new-segments.ensures) (none_read c.args.outsides.now c.args.records.now)

pub returns-in_default : goal.returns-in_default
returns-in_default c = (
  refl,
  stranger c.args.outsides.now c.args.records.now c.loop-row.row-index c.row-item.result
      (slice_get_read c.args.records.now (length c.args.records.now) c.loop-row.row-index c.row-item.result refl (omega arith) c.row-item.is) (search rules),
)

pub loop-row-preserved : goal.loop-row-preserved
loop-row-preserved c =
    one_read c.args.outsides.now c.args.records.now c.loop-row.row-index c.row-item.result
    (slice_get_read c.args.records.now (length c.args.records.now) c.loop-row.row-index c.row-item.result refl (omega arith) c.row-item.is)
    c.loop-row.segments c.insert.new.self c.in-Some.key (search rules) c.loop-row.invariant
    (c.in_ok-insert.ensures.ok ∙ ap (fin.insert c.loop-row.segments (name_of_outside_segment c.in-Some.key)) c.in_ok-try_clone.ensures)

pub returns : goal.returns
returns c = subst (λ (n : ℕ). OutsideSegmentsRead c.args.outsides.now c.args.records.now n c.loop-row.segments) (search rules) c.loop-row.invariant
