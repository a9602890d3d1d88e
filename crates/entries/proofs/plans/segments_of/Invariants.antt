use Rattle.std.specs.Prelude.{◌≡◌, length}
use Rattle.entries.specs.PlanRows.{EachBeside, HasRowOf}
use Rattle.entries.proofs.plans.segments_of.Given as goal

abbrev pub invariant-loop-place : goal.invariant-loop-place
invariant-loop-place l =
    (length l.planned.items ≡ l.place) × (length l.flown.items ≡ l.place) × EachBeside (HasRowOf l.rows.segments l.id l.period) l.planned.items l.flown.items
