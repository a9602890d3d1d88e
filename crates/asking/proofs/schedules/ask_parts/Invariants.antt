use Rattle.std.proofs.Common.{◌≡◌, ◌≤◌, ◌+◌, ◌-◌, length}
use Rattle.roster.specs.Folds.{import}
use Rattle.book.specs.Calls.{IsAfterCalls}
use Rattle.book.specs.Importing.{Importing}
use Rattle.asking.proofs.Parts.{AreSoFar}
use Rattle.asking.proofs.schedules.ask_parts.Given as goal

abbrev pub invariant-loop-answer : goal.invariant-loop-answer
invariant-loop-answer g l = record {
  place : (1 ≤ l.part) × (l.part ≤ length l.fn.pairings.items + 1);
  next : let at_part : Importing = record { number = l.fn.number; pairings = l.fn.pairings.items; next = l.part } in l.import ≡ at_part;
  so_far : AreSoFar g.S.Store g.L.Listener.hears l.fn.book l.fn.listener (import l.fn.number l.fn.pairings.items) l.part l.book l.listener;
  calls : IsAfterCalls g.S.Store l.fn.book l.book;
}

abbrev pub decreases-loop-answer : goal.decreases-loop-answer
decreases-loop-answer g l = length l.fn.pairings.items + 1 - l.part
