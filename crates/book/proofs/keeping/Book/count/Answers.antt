use Rattle.std.proofs.Common.{subst, IfOk}
use Rattle.sqlite.specs.Held.{state}
use Rattle.roster.specs.State.{State}
use Rattle.lookup.specs.Count.{IsCount}
use Rattle.lookup.proofs.Changes.{nothing_changes}
use Rattle.book.proofs.Asked.{read_fault, shown_on, shows_it}
use Rattle.book.proofs.States.{same_state, still_keeps}
use Rattle.book.proofs.keeping.Book.count.Goals as goal

pub invariant_of-self : goal.invariant_of-self
invariant_of-self g c =
    let one = c.self.invariant.1 c.if-self.false in
    let read = c.count-count.ensures.unchanged in (
      c.count-count.ensures.some_left,
      λ _. record {
        it = one.it;
        keeps = still_keeps _ _ one.it read.nothing_new c.count-count.ensures.some_left one.keeps;
        shown = shown_on (state g.S.Store c.self.inside.store) (state g.S.Store c.count-count.new.self) one.it read.nothing_new.disk read.still_shown one.shown;
      },
    )

pub returns-clause-count : goal.returns-clause-count
returns-clause-count g c = rw (← c.self.view_is) (λ s at clean.
    let one = c.self.invariant.1 c.if-self.false in
    let before = c.count-count.ensures.unchanged.nothing_new.disk clean in
    let same = same_state (state g.S.Store c.self.inside.store) one.it s one.keeps at before in
    subst (λ (x : State). IfOk c.count-count.result (IsCount x)) same
    (c.count-count.ensures.count one.it (shows_it (state g.S.Store c.self.inside.store) one.it one.keeps one.shown before) clean))

pub returns-clause-kept : goal.returns-clause-kept
returns-clause-kept g c = rw (← c.self.view_is) (λ s at. still_keeps _ _ s c.count-count.ensures.unchanged.nothing_new c.count-count.ensures.some_left at)

pub returns-then-self-clause-unchanged : goal.returns-then-self-clause-unchanged
returns-then-self-clause-unchanged g c = nothing_changes (state g.S.Store c.args.self.now.held)

pub returns-clause-unchanged : goal.returns-clause-unchanged
returns-clause-unchanged g c = rw (← c.self.view_is) c.count-count.ensures.unchanged

pub returns-clause-caused : goal.returns-clause-caused
returns-clause-caused g c = rw (← c.self.view_is) (λ _.
    let one = c.self.invariant.1 c.if-self.false in
    read_fault (state g.S.Store c.self.inside.store) (state g.S.Store c.count-count.new.self) one.it c.count-count.result c.count-count.ensures.unchanged.nothing_new.disk one.keeps one.shown c.count-count.ensures.caused)
