use Rattle.entries.specs.Keyed.{SegmentsRead}
use Rattle.entries.proofs.segments.by_keys.Given as goal

abbrev pub invariant-loop-row : goal.invariant-loop-row
invariant-loop-row l = SegmentsRead l.periods l.records l.row-index l.segments
