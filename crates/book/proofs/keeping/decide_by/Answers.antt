use Rattle.std.proofs.Common.{◌∙◌, inr, sym}
use Rattle.sqlite.specs.Held.{state}
use Rattle.roster.specs.Folds.{next}
use Rattle.roster.specs.Steps.{after}
use Rattle.book.proofs.Asked.{did_answer, did_as, did_keep, did_fail}
use Rattle.book.proofs.Sparing.{spares}
use Rattle.book.proofs.States.{next_repeated, next_refused, next_accepted}
use Rattle.book.proofs.keeping.decide_by.Goals as goal

pub returns-in-Repeat-clause-did : goal.returns-in-Repeat-clause-did
returns-in-Repeat-clause-did g c s asked keeps shown same =
    let verdict = c.in-Repeat.is in
    did_answer (state g.S.Store c.args.store.now) s (next s asked) _ keeps shown
    (λ clean. next_repeated s asked.0 asked.1 _ (sym verdict ∙ same clean))

pub returns-in-Refuse-clause-did : goal.returns-in-Refuse-clause-did
returns-in-Refuse-clause-did g c s asked keeps shown same =
    let verdict = c.in-Refuse.is in
    did_answer (state g.S.Store c.args.store.now) s (next s asked) _ keeps shown
    (λ clean. next_refused s asked.0 asked.1 _ (sym verdict ∙ same clean))

pub returns-in-Ok-clause-did : goal.returns-in-Ok-clause-did
returns-in-Ok-clause-did g c s asked keeps shown same =
    let verdict = c.in-Accept.is in
    let change = c.in-Accept.change in
    let old = state g.S.Store c.args.store.now in
    let new = state g.S.Store c.commit-kept.new.self in
    did_as old new s (after s change) (next s asked) _
    (λ clean. next_accepted s asked.0 asked.1 change _ (sym verdict ∙ same clean))
    (did_keep old new s change keeps shown
    (λ clean. record { sound = (keeps.kept clean).sound; key = asked.0; instruction = asked.1; reply = _; accepted = sym (sym verdict ∙ same clean) })
    c.commit-kept.ensures.disk c.commit-kept.ensures.some_left c.commit-kept.ensures.others_left c.commit-kept.ensures.faults c.commit-kept.ensures.limit (c.read_types.ensures.key, c.read_types.ensures.utf8) _ c.in-Ok.ensures.command (c.in-Ok.ensures.crash s) (c.in-Ok.ensures.shown s))

pub returns-in-Err-clause-did : goal.returns-in-Err-clause-did
returns-in-Err-clause-did g c s asked keeps shown same =
    let verdict = c.in-Accept.is in
    let change = c.in-Accept.change in
    let old = state g.S.Store c.args.store.now in
    let new = state g.S.Store c.commit-kept.new.self in
    did_as old new s (after s change) (next s asked) _
    (λ clean. next_accepted s asked.0 asked.1 change _ (sym verdict ∙ same clean))
    (did_fail old new s change keeps shown
    (λ clean. record { sound = (keeps.kept clean).sound; key = asked.0; instruction = asked.1; reply = _; accepted = sym (sym verdict ∙ same clean) })
    c.commit-kept.ensures.disk c.commit-kept.ensures.some_left c.commit-kept.ensures.others_left c.commit-kept.ensures.faults c.commit-kept.ensures.limit (c.read_types.ensures.key, c.read_types.ensures.utf8) c.in-Err.fault
    (c.in-Err.ensures.memory s) (c.in-Err.ensures.store s) c.in-Err.ensures.in_doubt c.in-Err.ensures.still_shown c.in-Err.ensures.still_open)

pub returns-in-Ok-clause-others_spared : goal.returns-in-Ok-clause-others_spared
returns-in-Ok-clause-others_spared g c s asked keeps same =
    let verdict = c.in-Accept.is in
    let old = state g.S.Store c.args.store.now in
    let new = state g.S.Store c.commit-kept.new.self in
    inr (spares old new _ (λ clean. c.requires.opened (c.commit-kept.ensures.disk clean)) c.in-Ok.ensures.others_crash c.in-Ok.ensures.others_shown
    (λ clean. c.in-Ok.ensures.shown s
    (record { sound = (keeps.kept (c.commit-kept.ensures.disk clean)).sound; key = asked.0; instruction = asked.1; reply = _; accepted = sym (sym verdict ∙ same (c.commit-kept.ensures.disk clean)) })
    keeps.leaves clean))
