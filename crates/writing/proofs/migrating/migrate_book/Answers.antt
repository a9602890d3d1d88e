use Rattle.std.proofs.Common.{◌≡◌, not, ap, ◌∙◌, arith, rules, Err, IsOk}
use Rattle.sqlite.specs.Held.{state}
use Rattle.sqlite.specs.State.{HasCleanDisk}
use Rattle.sqlite.proofs.StateLemmas.{survives_then, survives_weaker}
use Rattle.state_rows.specs.Requests.{with_requests}
use Rattle.state_rows.specs.declared.fault.StoreFault.TheVariants.{Memory}
use Rattle.tables.specs.Schema.{later_tables}
use Rattle.writing.specs.Beside.{KeepBeside}
use Rattle.writing.proofs.Committing.{none_done, on_err_of, undone_shows}
use Rattle.state_rows.proofs.Outcomes.{unbegun_shows}
use Rattle.writing.proofs.Ending.{on_err, on_ok, ended_adds, ended_leaves, ended_now, ended_over}
use Rattle.writing.proofs.Migrated.{migrated_holds}
use Rattle.writing.proofs.Leaving.{added_nothing, begun_first, either_left, first_again, first_stays, may_add_nothing}
use Rattle.writing.proofs.Sparing.{adds_nothing, leaves_only, migrated_keeps, may_add, shows_only}
use Rattle.writing.proofs.migrating.migrate_book.Goals as goal

pub returns-in_err-begin-clause-migrated : goal.returns-in_err-begin-clause-migrated
returns-in_err-begin-clause-migrated g c kept shows =
    let old = state g.S.Store c.args.conn.now in
    let new = state g.S.Store c.begin.new.conn in
    let s = with_requests kept c.args.roster.now in
    let settled = λ (clean : HasCleanDisk old). c.is_autocommit-settled.ensures.settled (c.is_autocommit-settled.ensures.value ∙ ap not (c.requires.outside clean)) in
    let before = λ (clean : HasCleanDisk new). let d : HasCleanDisk old = omega (arith, c.in_err-begin.ensures.crash.clean) in d in
    let nothing = added_nothing old new c.in_err-begin.ensures.crash in
    let adds = may_add_nothing old new s nothing in
    record {
      crash = search rules;
      memory = λ _. nothing;
      store = adds;
      some_left = g.met.S.Store.survives c.begin.new.conn.store;
      shown = search rules;
      still_shown = on_err _ (unbegun_shows old new before settled (λ clean. (c.in_err-begin.ensures.gave clean).0));
      still_first = λ leaves _. first_stays old new s nothing leaves;
      either_left = either_left old new s adds;
      others_crash = search rules;
      others_left = adds_nothing old new (KeepBeside later_tables old.now) c.in_err-begin.ensures.crash;
      others_shown = search rules;
      disk = before;
      faults = c.in_err-begin.ensures.crash.counts;
      limit = c.in_err-begin.ensures.crash.limit;
      still_open = c.in_err-begin.ensures.crash.closes;
    }

pub returns-clause-migrated : goal.returns-clause-migrated
returns-clause-migrated g c kept shows =
    let G = g.S.Store in
    let old = state G c.args.conn.now in
    let begun = state G c.begin.new.conn in
    let last = state G c.write_later-done.new.conn in
    let new = state G c.end.new.conn in
    let s = with_requests kept c.args.roster.now in
    let ended = c.end.ensures in
    let settled = λ (clean : HasCleanDisk old). c.is_autocommit-settled.ensures.settled (c.is_autocommit-settled.ensures.value ∙ ap not (c.requires.outside clean)) in
    let before = λ (clean : HasCleanDisk begun). let d : HasCleanDisk old = omega (arith, c.in_ok-begin.ensures.crash.clean) in d in
    let late = λ (clean : HasCleanDisk new). let d : HasCleanDisk last = omega (arith, ended.crash.clean) in d in
    let found = begun_first old begun s before shows c.in_ok-begin.ensures.gave in
    let holds = λ (clean : HasCleanDisk new) (is : IsOk c.write_later-done.result).
    migrated_holds s begun last c.write_later-done.result found c.write_later-done.ensures ended.live (late clean) is in
    let keeps = λ (clean : HasCleanDisk new) (is : IsOk c.write_later-done.result).
    migrated_keeps s old begun last c.write_later-done.result found c.in_ok-begin.ensures.gave c.write_later-done.ensures ended.live (late clean) is in
    let first = survives_then old begun last _ _ _ (λ _ _ none. none) (λ _ _ none. none) c.in_ok-begin.ensures.crash c.write_later-done.ensures.left in
    let whole = survives_then old last new _ _ _ (λ _ _ none. absurd none) (λ _ _ reached. reached) first ended.crash in
    let adds = ended_adds old last new s (IsOk c.write_later-done.result) holds whole in
    let unended = λ (e : c.end.result ≡ Err Memory).
    let ending = survives_weaker last new _ _ (λ _ _ reached. none_done c.write_later-done.result _ (ended.memory e) reached.0) ended.crash in
    added_nothing old new (survives_then old last new _ _ _ (λ _ _ none. none) (λ _ _ none. none) first ending) in
    record {
      crash = on_ok c.end.result ended.whole ended.ok (λ is ended. ended_leaves G last c.end.new.conn s ended (λ clean. holds clean is) g.met.S.Store.settled);
      memory = unended;
      store = adds;
      some_left = g.met.S.Store.survives c.end.new.conn.store;
      shown = on_ok c.end.result ended.whole ended.ok (λ is ended. ended_now G last c.end.new.conn s ended (λ clean. holds clean is));
      still_shown = on_err_of c.end.result ended.commit_stays
          (λ kept. undone_shows old begun last new c.write_later-done.result c.write_later-done.ensures late before settled c.in_ok-begin.ensures.gave kept ended.settled);
      still_first = λ leaves e. first_stays old new s (unended e) leaves;
      either_left = either_left old new s adds;
      others_crash = on_ok c.end.result ended.whole ended.ok (λ is ended. leaves_only G last c.end.new.conn (KeepBeside later_tables old.now) ended (λ clean. keeps clean is) g.met.S.Store.settled);
      others_left = may_add old last new (IsOk c.write_later-done.result) (KeepBeside later_tables old.now) whole keeps;
      others_shown = on_ok c.end.result ended.whole ended.ok (λ is ended. shows_only last new (KeepBeside later_tables old.now) ended (λ clean. keeps clean is));
      disk = λ clean. before (let d : HasCleanDisk begun = omega (arith, c.write_later-done.ensures.left.clean, ended.crash.clean) in d);
      faults = omega (arith, c.in_ok-begin.ensures.crash.counts, c.write_later-done.ensures.left.counts, ended.crash.counts);
      limit = whole.limit;
      still_open = whole.closes;
    }

pub returns-clause-over : goal.returns-clause-over
returns-clause-over g c =
    let G = g.S.Store in
    let old = state G c.args.conn.now in
    let begun = state G c.begin.new.conn in
    let last = state G c.write_later-done.new.conn in
    let new = state G c.end.new.conn in
    let s = with_requests c.requires.found.0 c.args.roster.now in
    let ended = c.end.ensures in
    let before = λ (clean : HasCleanDisk begun). let d : HasCleanDisk old = omega (arith, c.in_ok-begin.ensures.crash.clean) in d in
    let late = λ (clean : HasCleanDisk new). let d : HasCleanDisk last = omega (arith, ended.crash.clean) in d in
    let found = begun_first old begun s before c.requires.found.1 c.in_ok-begin.ensures.gave in
    on_ok c.end.result ended.whole ended.ok (λ is done.
    ended_over G last c.end.new.conn s done (λ clean. migrated_holds s begun last c.write_later-done.result found c.write_later-done.ensures ended.live (late clean) is))

pub write_later-done-requires-clause-found : goal.write_later-done-requires-clause-found
write_later-done-requires-clause-found g c =
    let G = g.S.Store in
    let old = state G c.args.conn.now in
    let begun = state G c.begin.new.conn in
    let before = λ (clean : HasCleanDisk begun). let d : HasCleanDisk old = omega (arith, c.in_ok-begin.ensures.crash.clean) in d in
    let found = c.requires.found in
    (found.0, begun_first old begun (with_requests found.0 c.args.roster.now) before found.1 c.in_ok-begin.ensures.gave)

pub returns-clause-again : goal.returns-clause-again
returns-clause-again g c kept shows =
    let migrated = returns-clause-migrated g c kept shows in
    first_again (state g.S.Store c.args.conn.now) (state g.S.Store c.end.new.conn) (with_requests kept c.args.roster.now) c.end.result migrated.disk shows migrated.still_shown

pub returns-in_err-begin-clause-again : goal.returns-in_err-begin-clause-again
returns-in_err-begin-clause-again g c kept shows =
    let migrated = returns-in_err-begin-clause-migrated g c kept shows in
    first_again (state g.S.Store c.args.conn.now) (state g.S.Store c.begin.new.conn) (with_requests kept c.args.roster.now) _ migrated.disk shows migrated.still_shown
