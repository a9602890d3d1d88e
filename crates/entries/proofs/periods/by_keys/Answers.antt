use Rattle.std.proofs.Common.{rules, refl, sym, ap, subst, ◌∙◌, arith, length, ℕ}
use Rattle.std.specs.FinMap as fin
use Rattle.std.proofs.lemmas.Option.{slice_get_read}
use Rattle.entries.specs.Keyed.{PeriodsRead, name_of_period}
use Rattle.entries.proofs.KeyedPeriods.{none_read, stranger, one_read}
use Rattle.entries.proofs.periods.by_keys.Goals as goal

pub loop-row-init : goal.loop-row-init
loop-row-init c = subst (PeriodsRead c.args.ids.now c.args.records.now 0) (sym c.new-periods.ensures) (none_read c.args.ids.now c.args.records.now)

pub returns-in_default : goal.returns-in_default
returns-in_default c = (
  refl,
  stranger c.args.ids.now c.args.records.now c.loop-row.row-index c.row-item.result
      (slice_get_read c.args.records.now (length c.args.records.now) c.loop-row.row-index c.row-item.result refl (omega arith) c.row-item.is) (search rules),
)

pub loop-row-preserved : goal.loop-row-preserved
loop-row-preserved c =
    one_read c.args.ids.now c.args.records.now c.loop-row.row-index c.row-item.result
    (slice_get_read c.args.records.now (length c.args.records.now) c.loop-row.row-index c.row-item.result refl (omega arith) c.row-item.is)
    c.loop-row.periods c.insert.new.self c.in-Some.key (search rules) c.loop-row.invariant
    (c.in_ok-insert.ensures.ok ∙ ap (fin.insert c.loop-row.periods (name_of_period c.in-Some.key)) c.in_ok-try_clone.ensures)

pub returns : goal.returns
returns c = subst (λ (n : ℕ). PeriodsRead c.args.ids.now c.args.records.now n c.loop-row.periods) (search rules) c.loop-row.invariant
