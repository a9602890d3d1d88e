use Rattle.std.proofs.Common.{rules, refl, inr}
use Rattle.entries.proofs.segments.all_by_keys.Goals as goal

pub returns-then-not-branch : goal.returns-then-not-branch
returns-then-not-branch c = (refl, inr (c.in_ok-segments.segments, c.in_ok-segments.ensures, search rules))
