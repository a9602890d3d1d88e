use Rattle.std.proofs.Common.{◌≡◌, true, ◌↔◌}
use Rattle.std.specs.List.{list_all}
use Rattle.loading.specs.Reading.{AreCrewed}
use Rattle.loading.proofs.ReadSeats.{is_seated}
use Rattle.loading.proofs.read_seats.are_crewed.Given as goal

-- the rest of the pairings are all right where all are
abbrev pub invariant-loop-entry : goal.invariant-loop-entry
invariant-loop-entry l =
    (goal.iterator-loop-entry).can_next l.entry-iterator × (goal.iterator-loop-entry).is_finite l.entry-iterator
    × ((list_all (λ e. is_seated e.1) l.entry-iterator ≡ true) ↔ AreCrewed l.roster)
