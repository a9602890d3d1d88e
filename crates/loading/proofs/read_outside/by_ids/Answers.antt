use Rattle.std.proofs.Common.{rules, refl, sym, ap, subst, ◌∙◌, arith, length, ℕ}
use Rattle.std.specs.FinMap as fin
use Rattle.std.proofs.lemmas.Option.{slice_get_read}
use Rattle.loading.specs.OutsideTables.{OutsidesRead}
use Rattle.loading.proofs.ReadOutside.{none_read, stranger, one_read}
use Rattle.loading.proofs.read_outside.by_ids.Goals as goal

pub loop-row-init : goal.loop-row-init
loop-row-init c = subst (OutsidesRead c.args.roster.now.crew c.args.records.now 0) (sym c.new-outsides.ensures) (none_read c.args.roster.now.crew c.args.records.now)

pub returns-in_default : goal.returns-in_default
returns-in_default c = (
  refl,
  stranger c.args.roster.now.crew c.args.records.now c.loop-row.row-index c.row-item.result
      (slice_get_read c.args.records.now (length c.args.records.now) c.loop-row.row-index c.row-item.result refl (omega arith) c.row-item.is) (search rules),
)

pub loop-row-preserved : goal.loop-row-preserved
loop-row-preserved c =
    one_read c.args.roster.now.crew c.args.records.now c.loop-row.row-index c.row-item.result
    (slice_get_read c.args.records.now (length c.args.records.now) c.loop-row.row-index c.row-item.result refl (omega arith) c.row-item.is)
    c.loop-row.outsides c.insert.new.self c.in-Some.id (search rules) c.loop-row.invariant
    (c.in_ok-insert.ensures.ok ∙ ap (fin.insert c.loop-row.outsides c.in-Some.id) c.in_ok-try_clone.ensures)

pub returns : goal.returns
returns c = subst (λ (n : ℕ). OutsidesRead c.args.roster.now.crew c.args.records.now n c.loop-row.outsides) (search rules) c.loop-row.invariant
