use Rattle.std.proofs.Common.{◌≡◌, take}
use Rattle.roster.specs.State.{State}
use Rattle.part.specs.Sources.{IsPartOf, picked}
use Rattle.part.proofs.pick.pick_members.Given as goal

abbrev pub invariant-loop-id : goal.invariant-loop-id
invariant-loop-id g l =
    g.S.Source.stays l.initial.source l.source
    × g.S.Source.serves l.initial.source l.source
    × (g.S.Source.is_clean l.source → g.S.Source.is_clean l.initial.source)
    × (g.S.Source.is_clean l.source → (s : State) → g.S.Source.shows l.initial.source s →
    g.S.Source.shows l.source s × (IsPartOf l.initial.crew s.crew → l.crew ≡ picked s.crew l.initial.crew (take l.id-index l.ids)))
