use Rattle.std.proofs.Common.{rules, refl, inr}
use Rattle.entries.proofs.periods.all_by_keys.Goals as goal

pub returns-then-not-branch : goal.returns-then-not-branch
returns-then-not-branch c = (refl, inr (c.in_ok-periods.periods, c.in_ok-periods.ensures, search rules))
