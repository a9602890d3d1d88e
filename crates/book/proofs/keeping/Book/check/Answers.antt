use Rattle.std.proofs.Common.{◌≡◌, subst, IfOk}
use Rattle.sqlite.specs.Held.{state}
use Rattle.roster.specs.Folds.{answer_of}
use Rattle.roster.specs.State.{State}
use Rattle.roster.specs.Steps.{step_of}
use Rattle.lookup.proofs.Changes.{nothing_changes}
use Rattle.book.specs.Kept.{result_of}
use Rattle.book.proofs.Asked.{answered_as, passes_fault, read_fault, shown_on, shows_it}
use Rattle.book.proofs.States.{same_state, still_keeps}
use Rattle.book.proofs.keeping.Book.check.Goals as goal

pub invariant_of-self : goal.invariant_of-self
invariant_of-self g c =
    let one = c.self.invariant.1 c.if-self.false in
    let read = c.judge-verdict.ensures.unchanged in (
      c.judge-verdict.ensures.some_left,
      λ _. record {
        it = one.it;
        keeps = still_keeps _ _ one.it read.nothing_new c.judge-verdict.ensures.some_left one.keeps;
        shown = shown_on (state g.S.Store c.self.inside.store) (state g.S.Store c.judge-verdict.new.self) one.it read.nothing_new.disk read.still_shown one.shown;
      },
    )

pub returns-clause-reply : goal.returns-clause-reply
returns-clause-reply g c = rw (← c.self.view_is) (λ s at clean.
    let one = c.self.invariant.1 c.if-self.false in
    let before = c.judge-verdict.ensures.unchanged.nothing_new.disk clean in
    let same = same_state (state g.S.Store c.self.inside.store) one.it s one.keeps at before in
    subst (λ (x : State). IfOk c.answered_by.result (λ a. result_of a ≡ answer_of (step_of x c.args.key c.args.command.now))) same
    (answered_as c.judge-verdict.result c.answered_by.result _ c.answered_by.ensures
    (c.judge-verdict.ensures.verdict one.it (shows_it (state g.S.Store c.self.inside.store) one.it one.keeps one.shown before) clean)))

pub returns-clause-kept : goal.returns-clause-kept
returns-clause-kept g c = rw (← c.self.view_is) (λ s at. still_keeps _ _ s c.judge-verdict.ensures.unchanged.nothing_new c.judge-verdict.ensures.some_left at)

pub returns-then-self-clause-unchanged : goal.returns-then-self-clause-unchanged
returns-then-self-clause-unchanged g c = nothing_changes (state g.S.Store c.args.self.now.held)

pub returns-clause-unchanged : goal.returns-clause-unchanged
returns-clause-unchanged g c = rw (← c.self.view_is) c.judge-verdict.ensures.unchanged

pub returns-clause-caused : goal.returns-clause-caused
returns-clause-caused g c = rw (← c.self.view_is) (λ _.
    let one = c.self.invariant.1 c.if-self.false in
    passes_fault _ c.judge-verdict.result c.answered_by.result c.answered_by.ensures
    (read_fault (state g.S.Store c.self.inside.store) (state g.S.Store c.judge-verdict.new.self) one.it c.judge-verdict.result c.judge-verdict.ensures.unchanged.nothing_new.disk one.keeps one.shown c.judge-verdict.ensures.caused))
