use Rattle.std.proofs.Common.{◌≡◌, ◌+◌, ◌-◌, ◌≤◌, ◌||◌, length, take}
use Rattle.std.specs.Prelude.{ℤ}
use Rattle.duty.specs.Minutes.{minutes_of}
use Rattle.duty.proofs.intervals.Intervals.add_all.Given as goal

abbrev pub invariant-loop-next : goal.invariant-loop-next
invariant-loop-next g l = record {
  room : length (g.S.Spans.spans l.spans) ≤ l.self.room + l.next;
  within : l.next ≤ length (g.S.Spans.spans l.spans);
  minutes : (minute : ℤ) → minutes_of l.self.spans minute ≡
      (minutes_of (take l.next (g.S.Spans.spans l.spans)) minute || minutes_of l.fn.self.spans minute);
}

abbrev pub decreases-loop-next : goal.decreases-loop-next
decreases-loop-next g l = length (g.S.Spans.spans l.spans) - l.next
