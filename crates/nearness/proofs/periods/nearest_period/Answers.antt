use Rattle.std.proofs.Common.{◌≡◌, ℕ, length, subst, arith}
use Rattle.std.specs.Prelude.{IfNone}
use Rattle.nearness.specs.Nearest.{HasNone}
use Rattle.nearness.proofs.periods.nearest_period.Goals as goal

pub returns-clause-none : goal.returns-clause-none
returns-clause-none c =
    let inv = c.loop-index.invariant in
    let e : c.loop-index.index ≡ length c.args.all.now = omega arith in
    let N : ℕ → Type 0 = λ n. IfNone c.loop-index.best (HasNone n c.args.limit c.args.all.now c.args.new.now c.args.others) in
    subst N e inv.none
