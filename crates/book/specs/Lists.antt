-- What holds of every list of commands that a book does in turn.
use Rattle.std.specs.Prelude.{◌≡◌, ◌↔◌, true, List, ◌∷◌, ◌++◌, Ok}
use Rattle.command.specs.declared.exceedance.Reply.{Reply}
use Rattle.roster.specs.Folds.{Asked, Fold, answer_of}
use Rattle.roster.specs.Laws.{IsAccepted, PassesChecks, is_assignment}
use Rattle.roster.specs.State.{State}
use Rattle.roster.specs.Steps.{step_of}
use Rattle.roster.specs.declared.change.Verdict.TheVariants.{Repeat}
use Rattle.book.specs.Headline.{BreaksNoLimit, IsHeld}

-- each assignment among commands that are done in turn is accepted if and only if it passes the
-- book's own checks and breaks no limit
abbrev pub AreWithinLimits : State → List Asked → Type 0
AreWithinLimits begin done = (before after : List Asked) (asked : Asked) →
    done ≡ before ++ asked ∷ after → is_assignment asked.1 ≡ true →
    let s = Fold begin before in
    IsAccepted s asked.0 asked.1 ↔ (PassesChecks s asked.0 asked.1 × BreaksNoLimit s asked.1)

-- each command of a list that is accepted acts once: if it is asked again, it is answered as it
-- was, and changes nothing
abbrev pub ActOnce : State → List Asked → Type 0
ActOnce begin done = (before between after : List Asked) (asked : Asked) (reply : Reply) →
    done ≡ before ++ asked ∷ between ++ asked ∷ after →
    answer_of (step_of (Fold begin before) asked.0 asked.1) ≡ Ok reply →
    step_of (Fold begin (before ++ asked ∷ between)) asked.0 asked.1 ≡ Repeat reply

-- each command that a state holds is still held, with its reply, after the commands of a list
abbrev pub KeepWhatIsHeld : State → List Asked → Type 0
KeepWhatIsHeld begin done = (asked : Asked) (reply : Reply) →
    IsHeld begin asked reply → IsHeld (Fold begin done) asked reply

-- from whichever state a list of commands is done in turn: its assignments are within limits, each
-- command acts once, and what was held stays held
abbrev pub EachListHolds : Type 0
EachListHolds = (begin : State) (done : List Asked) →
    AreWithinLimits begin done × ActOnce begin done × KeepWhatIsHeld begin done
