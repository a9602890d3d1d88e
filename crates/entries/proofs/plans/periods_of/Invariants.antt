use Rattle.std.specs.Prelude.{◌≡◌, length}
use Rattle.entries.specs.PlanRows.{EachBeside, HasPeriodRow}
use Rattle.entries.proofs.plans.periods_of.Given as goal

abbrev pub invariant-loop-place : goal.invariant-loop-place
invariant-loop-place l =
    (length l.planned.items ≡ l.place) × (length l.actuals.items ≡ l.place) × EachBeside (HasPeriodRow l.rows.periods l.rows.segments l.id) l.planned.items l.actuals.items
