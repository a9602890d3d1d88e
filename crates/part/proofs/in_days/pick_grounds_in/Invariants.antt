use Rattle.std.proofs.Common.{◌≡◌, take}
use Rattle.report.specs.Board.{ground_meets}
use Rattle.roster.specs.State.{State}
use Rattle.part.specs.Sources.{picked_where}
use Rattle.part.proofs.in_days.pick_grounds_in.Given as goal

abbrev pub invariant-loop-id : goal.invariant-loop-id
invariant-loop-id g l =
    g.S.Source.stays l.initial.source l.source
    × g.S.Source.serves l.initial.source l.source
    × (g.S.Source.is_clean l.source → g.S.Source.is_clean l.initial.source)
    × (g.S.Source.is_clean l.source → (s : State) → g.S.Source.shows l.initial.source s →
    g.S.Source.shows l.source s × (l.grounds ≡ picked_where (ground_meets l.days) s.grounds l.initial.grounds (take l.id-index l.ids)))
