use Rattle.std.proofs.Common.{◌≡◌, ℕ, List, Contains, take}
use Rattle.std.specs.FinMap as fin
use Rattle.roster.specs.State.{State}
use Rattle.part.specs.Near.{AreSo}
use Rattle.part.specs.Sources.{AddsNear}
use Rattle.part.proofs.near.add_near_of_all.Given as goal

abbrev pub invariant-loop-who : goal.invariant-loop-who
invariant-loop-who g l =
    g.S.Source.stays l.initial.source l.source
    × g.S.Source.serves l.initial.source l.source
    × (g.S.Source.is_clean l.source → g.S.Source.is_clean l.initial.source)
    × (g.S.Source.is_clean l.source → (s : State) → g.S.Source.shows l.initial.source s →
    g.S.Source.shows l.source s
    × (((who : List ℕ) → Contains l.judged who → fin.get l.crew who ≡ fin.get s.crew who) →
    AreSo s l.initial.pairings → AddsNear s l.spans (take l.who-index l.judged) l.initial.pairings l.pairings))
