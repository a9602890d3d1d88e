use Rattle.std.proofs.Common.{◌≡◌, ◌≤◌, false, length, map, take}
use Rattle.std.specs.Vec.{vec_capacity}
use Rattle.sqlite.specs.Held.{state}
use Rattle.roster.specs.Folds.{Fold, Replies}
use Rattle.roster.specs.Honest.{Honest}
use Rattle.roster.specs.Sound.{Sound}
use Rattle.roster.specs.State.{State}
use Rattle.state_rows.specs.Outcomes.{CrashLeavesSome}
use Rattle.book.specs.Kept.{HasTablesOf, IsDurablyAt, IsClean, result_of}
use Rattle.book.proofs.Sparing.{SameOrSpares}
use Rattle.book.proofs.keeping.Book.run.Given as goal

abbrev pub invariant-loop-key : goal.invariant-loop-key
invariant-loop-key g l = record {
  count : length l.answers.items ≡ l.key-index;
  room : length l.commands ≤ vec_capacity l.answers;
  unfailed : l.self.failed ≡ false;
  disk : IsClean g.S.Store l.self → IsClean g.S.Store l.initial.self;
  some : CrashLeavesSome (state g.S.Store l.self.held);
  replies : (s : State) → IsDurablyAt g.S.Store l.initial.self s → IsClean g.S.Store l.self → map result_of l.answers.items ≡ take l.key-index (Replies s l.commands);
  outcome : (s : State) → IsDurablyAt g.S.Store l.initial.self s → IsDurablyAt g.S.Store l.self (Fold s (take l.key-index l.commands));
  tables : (s : State) → IsDurablyAt g.S.Store l.initial.self s → HasTablesOf g.S.Store l.initial.self s → HasTablesOf g.S.Store l.self (Fold s (take l.key-index l.commands));
  spared : SameOrSpares g.S.Store l.initial.self l.self;
  counts : (state g.S.Store l.initial.self.held).faults ≤ (state g.S.Store l.self.held).faults;
  limit : (state g.S.Store l.self.held).step_limit ≡ (state g.S.Store l.initial.self.held).step_limit;
  honest : (s : State) → Sound s → Honest s → Sound (Fold s (take l.key-index l.commands)) × Honest (Fold s (take l.key-index l.commands));
}
