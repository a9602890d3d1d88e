use Rattle.std.proofs.Common.{ap, not, ◌∙◌, arith, rules, IsOk}
use Rattle.sqlite.specs.Held.{state}
use Rattle.sqlite.specs.State.{HasCleanDisk}
use Rattle.sqlite.proofs.StateLemmas.{survives_then, survives_weaker}
use Rattle.roster.specs.Steps.{after}
use Rattle.roster.specs.State.{State}
use Rattle.writing.specs.Next.{IsAcceptedChange}
use Rattle.state_rows.specs.Outcomes.{CrashLeaves, IsJust}
use Rattle.writing.proofs.Committing.{begun_ready, begun_holds, written_holds, kept_leaves, either_leaves, ended_fit, undone_fit, none_done, over_at_end, unbegun_over, undone_shows, on_err_of, weaker}
use Rattle.state_rows.proofs.Outcomes.{unbegun_shows}
use Rattle.writing.proofs.Ending.{on_ok, on_err, ended_leaves, ended_now}
use Rattle.writing.specs.Beside.{KeepOthers}
use Rattle.writing.proofs.Sparing.{adds_nothing, leaves_only, may_add, shows_only, written_keeps}
use Rattle.writing.proofs.commits.commit_change.Goals as goal

pub returns-in_err-begin-clause-committed : goal.returns-in_err-begin-clause-committed
returns-in_err-begin-clause-committed g c =
    let old = state g.S.Store c.args.conn.now in
    let new = state g.S.Store c.begin.new.conn in
    let settled = λ (clean : HasCleanDisk old). c.is_autocommit-settled.ensures.settled (c.is_autocommit-settled.ensures.value ∙ ap not (c.requires.outside clean)) in
    let before = λ (clean : HasCleanDisk new). let d : HasCleanDisk old = omega (arith, c.in_err-begin.ensures.crash.clean) in d in
    let kept = λ (s : State) (leaves : CrashLeaves old (IsJust s)). kept_leaves old new (IsJust s) c.in_err-begin.ensures.crash leaves in
    record {
      crash = search rules;
      memory = λ s leaves _. kept s leaves;
      store = λ s next leaves _. weaker new s (after s c.args.change.now) (kept s leaves);
      some_left = g.met.S.Store.survives c.begin.new.conn.store;
      shown = search rules;
      still_shown = on_err _ (unbegun_shows old new before settled (λ clean. (c.in_err-begin.ensures.gave clean).0));
      command = search rules;
      in_doubt = search rules;
      others_crash = search rules;
      others_left = adds_nothing old new (KeepOthers old.now) c.in_err-begin.ensures.crash;
      others_shown = search rules;
      disk = search rules;
      faults = c.in_err-begin.ensures.crash.counts;
      limit = c.in_err-begin.ensures.crash.limit;
      still_open = λ _. c.in_err-begin.ensures.crash.closes;
    }

pub returns-clause-committed : goal.returns-clause-committed
returns-clause-committed g c =
    let G = g.S.Store in
    let old = state G c.args.conn.now in
    let begun = state G c.begin.new.conn in
    let last = state G c.write_change-done.new.conn in
    let new = state G c.end.new.conn in
    let ended = c.end.ensures in
    let settled = λ (clean : HasCleanDisk old). c.is_autocommit-settled.ensures.settled (c.is_autocommit-settled.ensures.value ∙ ap not (c.requires.outside clean)) in
    let before = λ (clean : HasCleanDisk begun). let d : HasCleanDisk old = omega (arith, c.in_ok-begin.ensures.crash.clean) in d in
    let late = λ (clean : HasCleanDisk new). let d : HasCleanDisk last = omega (arith, ended.crash.clean) in d in
    let ready = begun_ready old begun before c.requires.over c.in_ok-begin.ensures.gave in
    let holds = λ (s : State) (next : IsAcceptedChange s c.args.change.now) (leaves : CrashLeaves old (IsJust s)) (clean : HasCleanDisk new) (is : IsOk c.write_change-done.result).
    written_holds s c.args.change.now next c.in_ok-row.ensures.command.0 begun last c.write_change-done.result c.write_change-done.ensures ready
    (begun_holds G g.met.S.Store.stays c.args.conn.now begun s c.schema-live.ensures.live settled before c.in_ok-begin.ensures.gave leaves) ended.live (omega (arith, ended.crash.clean)) is in
    let keeps = λ (clean : HasCleanDisk new) (is : IsOk c.write_change-done.result).
    written_keeps c.args.change.now old begun last c.write_change-done.result c.write_change-done.ensures ready c.in_ok-begin.ensures.gave ended.live (omega (arith, ended.crash.clean)) is in
    let first = survives_then old begun last _ _ _ (λ _ _ none. none) (λ _ _ none. none) c.in_ok-begin.ensures.crash c.write_change-done.ensures.changed.left in
    let whole = survives_then old last new _ _ _ (λ _ _ none. absurd none) (λ _ _ reached. reached) first ended.crash in
    record {
      crash = λ s next leaves.
          on_ok c.end.result ended.whole ended.ok (λ is ended. ended_leaves G last c.end.new.conn (after s c.args.change.now) ended (λ clean. holds s next leaves clean is) g.met.S.Store.settled);
      memory = λ s leaves e.
          let ending = survives_weaker last new _ _ (λ _ _ reached. none_done c.write_change-done.result _ (ended.memory e) reached.0) ended.crash in
          kept_leaves old new (IsJust s) (survives_then old last new _ _ _ (λ _ _ none. none) (λ _ _ none. none) first ending) leaves;
      store = λ s next leaves _. either_leaves old last new s (after s c.args.change.now) (IsOk c.write_change-done.result) whole (holds s next leaves) leaves;
      some_left = g.met.S.Store.survives c.end.new.conn.store;
      shown = λ s next leaves.
          on_ok c.end.result ended.whole ended.ok (λ is ended. ended_now G last c.end.new.conn (after s c.args.change.now) ended (λ clean. holds s next leaves clean is));
      still_shown = on_err_of c.end.result ended.commit_stays
          (λ kept. undone_shows old begun last new c.write_change-done.result c.write_change-done.ensures.changed late before settled c.in_ok-begin.ensures.gave kept ended.settled);
      command = search rules;
      in_doubt = search rules;
      others_crash = on_ok c.end.result ended.whole ended.ok (λ is ended. leaves_only G last c.end.new.conn (KeepOthers old.now) ended (λ clean. keeps clean is) g.met.S.Store.settled);
      others_left = may_add old last new (IsOk c.write_change-done.result) (KeepOthers old.now) whole keeps;
      others_shown = on_ok c.end.result ended.whole ended.ok (λ is ended. shows_only last new (KeepOthers old.now) ended (λ clean. keeps clean is));
      disk = search rules;
      faults = omega (arith, c.in_ok-begin.ensures.crash.counts, c.write_change-done.ensures.changed.left.counts, ended.crash.counts);
      limit = whole.limit;
      still_open = λ _. whole.closes;
    }

pub returns-clause-over : goal.returns-clause-over
returns-clause-over g c =
    let G = g.S.Store in
    let old = state G c.args.conn.now in
    let begun = state G c.begin.new.conn in
    let last = state G c.write_change-done.new.conn in
    let new = state G c.end.new.conn in
    let settled = λ (clean : HasCleanDisk old). c.is_autocommit-settled.ensures.settled (c.is_autocommit-settled.ensures.value ∙ ap not (c.requires.outside clean)) in
    let before = λ (clean : HasCleanDisk begun). let d : HasCleanDisk old = omega (arith, c.in_ok-begin.ensures.crash.clean) in d in
    let ready = begun_ready old begun before c.requires.over c.in_ok-begin.ensures.gave in
    let late = λ (clean : HasCleanDisk new). let d : HasCleanDisk last = omega (arith, c.end.ensures.crash.clean) in d in
    over_at_end new c.end.result c.end.ensures.whole c.end.ensures.ok c.end.ensures.commit_stays
    (λ is ended. ended_fit begun last new c.write_change-done.result c.write_change-done.ensures is late ended)
    (λ kept. undone_fit old begun last new c.write_change-done.result c.write_change-done.ensures late before c.requires.over settled c.in_ok-begin.ensures.gave kept c.end.ensures.settled)

pub write_change-done-requires-clause-ready : goal.write_change-done-requires-clause-ready
write_change-done-requires-clause-ready g c =
    let G = g.S.Store in
    let old = state G c.args.conn.now in
    let begun = state G c.begin.new.conn in
    let before = λ (clean : HasCleanDisk begun). let d : HasCleanDisk old = omega (arith, c.in_ok-begin.ensures.crash.clean) in d in
    begun_ready old begun before c.requires.over c.in_ok-begin.ensures.gave

pub returns-in_err-begin-clause-over : goal.returns-in_err-begin-clause-over
returns-in_err-begin-clause-over g c =
    let G = g.S.Store in
    let old = state G c.args.conn.now in
    let new = state G c.begin.new.conn in
    let settled = λ (clean : HasCleanDisk old). c.is_autocommit-settled.ensures.settled (c.is_autocommit-settled.ensures.value ∙ ap not (c.requires.outside clean)) in
    let before = λ (clean : HasCleanDisk new). let d : HasCleanDisk old = omega (arith, c.in_err-begin.ensures.crash.clean) in d in
    unbegun_over old new before c.requires.over settled (λ clean. (c.in_err-begin.ensures.gave clean).0)
