use Rattle.entries.specs.OutsideRows.{OutsideSegmentsRead}
use Rattle.entries.proofs.outside_segments.by_keys.Given as goal

abbrev pub invariant-loop-row : goal.invariant-loop-row
invariant-loop-row l = OutsideSegmentsRead l.outsides l.records l.row-index l.segments
