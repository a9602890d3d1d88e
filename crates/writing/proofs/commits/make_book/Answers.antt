use Rattle.std.proofs.Common.{◌≡◌, [], ap, not, ◌∙◌, arith, rules, sym, subst, IsOk}
use Rattle.sqlite.specs.State.{HasCleanDisk}
use Rattle.sqlite.specs.Held.{state}
use Rattle.sqlite.proofs.StateLemmas.{survives_then}
use Rattle.roster.specs.State.{empty}
use Rattle.tables.specs.Schema.{book_tables}
use Rattle.writing.specs.Making.{IsFree, HasEmpty}
use Rattle.writing.proofs.Growth.{nothing_made}
use Rattle.writing.proofs.EmptyBook.{made_holds}
use Rattle.state_rows.proofs.Outcomes.{unbegun_shows}
use Rattle.writing.proofs.Committing.{undone_shows}
use Rattle.writing.proofs.Ending.{if_err, ended_leaves, ended_now, ended_over, ended_adds}
use Rattle.writing.specs.Commits.{IsNotMade}
use Rattle.writing.specs.Beside.{KeepBeside}
use Rattle.writing.proofs.Sparing.{adds_nothing, leaves_only, made_keeps, may_add, shows_only}
use Rattle.writing.proofs.commits.make_book.Goals as goal

pub make_tables-done-requires-clause-free : goal.make_tables-done-requires-clause-free
make_tables-done-requires-clause-free g c clean =
    let old = state g.S.Store c.args.conn.now in
    let is = (c.in_ok-begin.ensures.gave clean).0 in
    let free : IsFree old.now.schema = search rules in
    subst (HasEmpty []) (sym is.now_is) (nothing_made old.now (c.schema-live.ensures.live is.was_open).0 free)

pub returns-clause-made : goal.returns-clause-made
returns-clause-made g c =
    let G = g.S.Store in
    let old = state G c.args.conn.now in
    let begun = state G c.begin.new.conn in
    let last = state G c.make_tables-done.new.conn in
    let new = state G c.end.new.conn in
    let text : c.new.result ≡ c.args.zone.now = search rules in
    let based = c.in_ok-home.ensures in
    let free : IsFree old.now.schema = search rules in
    let fresh : HasCleanDisk begun → HasEmpty [] begun.now = λ clean.
    let is = (c.in_ok-begin.ensures.gave clean).0 in
    subst (HasEmpty []) (sym is.now_is) (nothing_made old.now (c.schema-live.ensures.live is.was_open).0 free) in
    let before = λ (clean : HasCleanDisk new). let d : HasCleanDisk last = omega (arith, c.end.ensures.crash.clean) in d in
    let holds = λ (clean : HasCleanDisk new).
    made_holds c.args.zone.now c.new.result _ begun last c.make_tables-done.result text based fresh c.make_tables-done.ensures c.end.ensures.live (before clean) c.in_ok-end.ensures.whole in
    let keeps = λ (clean : HasCleanDisk new).
    made_keeps _ _ old begun last c.make_tables-done.result c.in_ok-begin.ensures.gave c.make_tables-done.ensures c.end.ensures.live (before clean) c.in_ok-end.ensures.whole in
    let first = survives_then old begun last _ _ _ (λ _ _ none. none) (λ _ _ none. none) c.in_ok-begin.ensures.crash c.make_tables-done.ensures.left in
    let whole = survives_then old last new _ _ _ (λ _ _ none. absurd none) (λ _ _ reached. reached) first c.end.ensures.crash in
    record {
      free = free;
      crash = ended_leaves G last c.end.new.conn (empty c.args.zone.now) c.in_ok-end.ensures.ok holds g.met.S.Store.settled;
      some_left = g.met.S.Store.survives c.end.new.conn.store;
      shown = ended_now G last c.end.new.conn (empty c.args.zone.now) c.in_ok-end.ensures.ok holds;
      others_crash = leaves_only G last c.end.new.conn (KeepBeside book_tables old.now) c.in_ok-end.ensures.ok keeps g.met.S.Store.settled;
      others_shown = shows_only last new (KeepBeside book_tables old.now) c.in_ok-end.ensures.ok keeps;
      disk = λ clean. omega (arith, whole.clean);
      limit = whole.limit;
    }

pub returns-clause-over : goal.returns-clause-over
returns-clause-over g c =
    let G = g.S.Store in
    let begun = state G c.begin.new.conn in
    let last = state G c.make_tables-done.new.conn in
    let text : c.new.result ≡ c.args.zone.now = search rules in
    let based = c.in_ok-home.ensures in
    let free : IsFree (state G c.args.conn.now).now.schema = search rules in
    let fresh : HasCleanDisk begun → HasEmpty [] begun.now = λ clean.
    let is = (c.in_ok-begin.ensures.gave clean).0 in
    subst (HasEmpty []) (sym is.now_is) (nothing_made (state G c.args.conn.now).now (c.schema-live.ensures.live is.was_open).0 free) in
    let before = λ (clean : HasCleanDisk (state G c.end.new.conn)). let d : HasCleanDisk last = omega (arith, c.end.ensures.crash.clean) in d in
    let holds = λ (clean : HasCleanDisk (state G c.end.new.conn)).
    made_holds c.args.zone.now c.new.result _ begun last c.make_tables-done.result text based fresh c.make_tables-done.ensures c.end.ensures.live (before clean) c.in_ok-end.ensures.whole in
    ended_over G last c.end.new.conn (empty c.args.zone.now) c.in_ok-end.ensures.ok holds

pub returns-in_err-end-clause-not_made : goal.returns-in_err-end-clause-not_made
returns-in_err-end-clause-not_made g c =
    let G = g.S.Store in
    let old = state G c.args.conn.now in
    let begun = state G c.begin.new.conn in
    let last = state G c.make_tables-done.new.conn in
    let new = state G c.end.new.conn in
    let text : c.new.result ≡ c.args.zone.now = search rules in
    let based = c.in_ok-home.ensures in
    let free : IsFree old.now.schema = search rules in
    let fresh : HasCleanDisk begun → HasEmpty [] begun.now = λ clean.
    let is = (c.in_ok-begin.ensures.gave clean).0 in
    subst (HasEmpty []) (sym is.now_is) (nothing_made old.now (c.schema-live.ensures.live is.was_open).0 free) in
    let late = λ (clean : HasCleanDisk new). let d : HasCleanDisk last = omega (arith, c.end.ensures.crash.clean) in d in
    let holds = λ (clean : HasCleanDisk new) (is : IsOk c.make_tables-done.result).
    made_holds c.args.zone.now c.new.result _ begun last c.make_tables-done.result text based fresh c.make_tables-done.ensures c.end.ensures.live (late clean) is in
    let keeps = λ (clean : HasCleanDisk new) (is : IsOk c.make_tables-done.result).
    made_keeps _ _ old begun last c.make_tables-done.result c.in_ok-begin.ensures.gave c.make_tables-done.ensures c.end.ensures.live (late clean) is in
    let first = survives_then old begun last _ _ _ (λ _ _ none. none) (λ _ _ none. none) c.in_ok-begin.ensures.crash c.make_tables-done.ensures.left in
    let whole = survives_then old last new _ _ _ (λ _ _ none. absurd none) (λ _ _ reached. reached) first c.end.ensures.crash in
    let settled = λ (clean : HasCleanDisk old). c.is_autocommit-settled.ensures.settled (c.is_autocommit-settled.ensures.value ∙ ap not (c.requires clean)) in
    let before = λ (clean : HasCleanDisk begun). let d : HasCleanDisk old = omega (arith, c.in_ok-begin.ensures.crash.clean) in d in
    if_err {P = IsNotMade G c.args.conn.now c.end.new.conn (empty c.args.zone.now)} _ (λ fault is. record {
      not_empty = search rules;
      memory = search rules;
      crash = ended_adds old last new (empty c.args.zone.now) (IsOk c.make_tables-done.result) holds whole;
      some_left = g.met.S.Store.survives c.end.new.conn.store;
      others_crash = may_add old last new (IsOk c.make_tables-done.result) (KeepBeside book_tables old.now) whole keeps;
      still_shown = undone_shows old begun last new c.make_tables-done.result c.make_tables-done.ensures late before settled c.in_ok-begin.ensures.gave c.in_err-end.ensures.commit_stays c.end.ensures.settled;
      limit = whole.limit;
      still_open = whole.closes;
      outside = search rules;
    })

pub returns-in_err-begin-clause-not_made : goal.returns-in_err-begin-clause-not_made
returns-in_err-begin-clause-not_made g c =
    let old = state g.S.Store c.args.conn.now in
    let new = state g.S.Store c.begin.new.conn in
    let settled = λ (clean : HasCleanDisk old). c.is_autocommit-settled.ensures.settled (c.is_autocommit-settled.ensures.value ∙ ap not (c.requires clean)) in
    let before = λ (clean : HasCleanDisk new). let d : HasCleanDisk old = omega (arith, c.in_err-begin.ensures.crash.clean) in d in
    if_err {P = IsNotMade g.S.Store c.args.conn.now c.begin.new.conn (empty c.args.zone.now)} _ (λ fault is. record {
      not_empty = search rules;
      memory = search rules;
      crash = search rules;
      some_left = g.met.S.Store.survives c.begin.new.conn.store;
      others_crash = adds_nothing old new (KeepBeside book_tables old.now) c.in_err-begin.ensures.crash;
      still_shown = unbegun_shows old new before settled (λ clean. (c.in_err-begin.ensures.gave clean).0);
      limit = c.in_err-begin.ensures.crash.limit;
      still_open = c.in_err-begin.ensures.crash.closes;
      outside = search rules;
    })
