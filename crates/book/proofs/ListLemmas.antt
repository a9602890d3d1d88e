-- What is so of each list of commands that are done in turn.
use Rattle.std.proofs.Common.{List, ◌∷◌, ◌++◌}
use Rattle.roster.proofs.Accepted.{accepted, passed_each}
use Rattle.roster.proofs.Requests.{keeps_requests}
use Rattle.roster.proofs.WithinLimits.{accepted_within_limits}
use Rattle.roster.specs.Folds.{Asked, Fold, next}
use Rattle.roster.specs.Laws.{PassesChecks}
use Rattle.roster.specs.Refusals.{refusals}
use Rattle.roster.specs.State.{State}
use Rattle.book.specs.Headline.{IsHeld}
use Rattle.book.specs.Lists.{ActOnce, AreWithinLimits, EachListHolds, KeepWhatIsHeld}
use Rattle.book.proofs.CommandLists.{fold_append}
use Rattle.book.proofs.Holding.{held_next, step_repeats}

are_within_limits : (begin : State) (done : List Asked) → AreWithinLimits begin done
are_within_limits begin done before after asked here assignment =
    let s = Fold begin before in
    let law = accepted_within_limits s asked.0 asked.1 assignment in (
      λ is.
          let it = accepted s asked.0 asked.1 is.0 is.1 is.2 in
          let passes : PassesChecks s asked.0 asked.1 = record { free = it.free; passes = λ row c _. passed_each (refusals s asked.1) it.passes row c } in
          (passes, (law passes).0 is),
      λ both. (law both.0).1 both.1,
    )

acts_once : (begin : State) (done : List Asked) → ActOnce begin done
acts_once begin done before between after asked reply here told =
    let s = Fold begin before in
    let held : IsHeld (Fold (next s asked) between) asked reply =
    keeps_requests (next s asked) asked.0 (record { command = asked.1; reply = reply }) between (held_next s asked reply told) in
    step_repeats (Fold (next s asked) between) (Fold begin (before ++ asked ∷ between)) asked reply (fold_append begin before (asked ∷ between)) held

keep_what_is_held : (begin : State) (done : List Asked) → KeepWhatIsHeld begin done
keep_what_is_held begin done asked reply held =
    keeps_requests begin asked.0 (record { command = asked.1; reply = reply }) done held

pub each_list_holds : EachListHolds
each_list_holds begin done = (are_within_limits begin done, acts_once begin done, keep_what_is_held begin done)
