use Rattle.std.proofs.Common.{rules, refl, subst, arith, length, ℕ}
use Rattle.std.proofs.lemmas.Option.{slice_get_read}
use Rattle.loading.proofs.ReadBase.{AreOthers, home_here, next_other, no_home}
use Rattle.loading.proofs.read_base.has_home.Goals as goal

pub returns-then-is_home : goal.returns-then-is_home
returns-then-is_home c = (
  λ _. home_here c.args.records.now c.args.zone.now c.loop-row.row-index c.row-item.result
      (slice_get_read c.args.records.now (length c.args.records.now) c.loop-row.row-index c.row-item.result refl (omega arith) c.row-item.is) (search rules),
  λ _. refl,
)

pub returns : goal.returns
returns c = (
  λ yes. absurd (cc),
  λ has. absurd (no_home c.args.records.now c.args.zone.now (subst (λ (n : ℕ). AreOthers c.args.records.now n c.args.zone.now) (search rules) c.loop-row.invariant) has),
)

pub loop-row-preserved : goal.loop-row-preserved
loop-row-preserved c =
    next_other c.args.records.now c.loop-row.row-index c.args.zone.now c.row-item.result
    (slice_get_read c.args.records.now (length c.args.records.now) c.loop-row.row-index c.row-item.result refl (omega arith) c.row-item.is) (search rules) c.loop-row.invariant
