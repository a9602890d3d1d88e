use Rattle.std.proofs.Common.{◌≡◌, rules, ap, subst, sym, ◌∙◌, Result, Err, IfErr}
use Rattle.sqlite.specs.Held.{state}
use Rattle.sqlite.specs.State.{HasCleanDisk, IsUnchanged}
use Rattle.loading.specs.Reading.{AgreesIn}
use Rattle.state_rows.specs.Requests.{with_requests}
use Rattle.state_rows.specs.Rows.{outside_segment}
use Rattle.state_rows.specs.declared.edition.Edition.{Edition}
use Rattle.entries.specs.declared.fault.LoadFault.{LoadFault}
use Rattle.store.specs.Loaded.{IsNotLoaded}
use Rattle.store.proofs.Loads.{first_loaded, first_stopped, not_read, second_loaded}
use Rattle.store.proofs.store.read_migrated.Goals as goal

pub migrate_book-requires-clause-found : goal.migrate_book-requires-clause-found
migrate_book-requires-clause-found g c =
    let read = c.in_ok-roster.ensures.read in
    (read.0, read.1.first c.in-First.is)

pub returns-in-Ok-clause-loaded : goal.returns-in-Ok-clause-loaded
returns-in-Ok-clause-loaded g c =
    let G = g.S.Store in
    let old = state G c.args.conn.now in
    let mid = state G c.read.new.conn in
    let kept = c.in_ok-roster.ensures.read.0 in
    let read = c.in_ok-roster.ensures.read.1 in
    let s = with_requests kept c.in_ok-roster.roster in
    let shows = read.first c.in-First.is in
    let migrated = c.migrate_book.ensures.migrated kept shows in
    let saw = λ (clean : HasCleanDisk mid). subst (λ (e : Edition). IsUnchanged old mid × AgreesIn e outside_segment s old.now) c.in-First.is (read.saw.told clean) in
    let ended = c.in-Ok.ensures.migrated kept shows in (
      s,
      first_loaded old mid (state G c.migrate_book.new.conn) s c.migrate_book.result saw read.saw.left read.found c.in_ok-roster.ensures.left
          shows migrated ended.crash ended.shown ended.others_crash ended.others_shown,
    )

pub returns-in-First-clause-not_loaded : goal.returns-in-First-clause-not_loaded
returns-in-First-clause-not_loaded g c =
    let G = g.S.Store in
    let old = state G c.args.conn.now in
    let mid = state G c.read.new.conn in
    let kept = c.in_ok-roster.ensures.read.0 in
    let read = c.in_ok-roster.ensures.read.1 in
    let s = with_requests kept c.in_ok-roster.roster in
    let shows = read.first c.in-First.is in
    let migrated = c.migrate_book.ensures.migrated kept shows in
    let saw = λ (clean : HasCleanDisk mid). subst (λ (e : Edition). IsUnchanged old mid × AgreesIn e outside_segment s old.now) c.in-First.is (read.saw.told clean) in
    first_stopped old mid (state G c.migrate_book.new.conn) s c.migrate_book.result saw read.saw.left read.found c.in_ok-roster.ensures.left
    shows migrated c.in-Err.fault (λ e. migrated.memory (c.in-Err.is ∙ ap Err e)) c.migrate_book.ensures.outside

pub returns-clause-loaded : goal.returns-clause-loaded
returns-clause-loaded g c =
    let G = g.S.Store in
    let old = state G c.args.conn.now in
    let new = state G c.read.new.conn in
    let kept = c.in_ok-roster.ensures.read.0 in
    let read = c.in_ok-roster.ensures.read.1 in
    let s = with_requests kept c.in_ok-roster.roster in
    let saw = λ (clean : HasCleanDisk new). subst (λ (e : Edition). IsUnchanged old new × AgreesIn e outside_segment s old.now) c.in-Second.is (read.saw.told clean) in (
      s,
      second_loaded old new s saw read.saw.left read.found c.in_ok-roster.ensures.left c.read.ensures.nothing_new
          (read.crash c.in-Second.is) c.read.ensures.some_left (read.shown c.in-Second.is),
    )

pub returns-clause-over : goal.returns-clause-over
returns-clause-over g c = c.in_ok-roster.ensures.over c.in-Second.is

pub returns-in_err-roster-clause-not_loaded : goal.returns-in_err-roster-clause-not_loaded
returns-in_err-roster-clause-not_loaded g c =
    let G = g.S.Store in
    let old = state G c.args.conn.now in
    let new = state G c.read.new.conn in
    let fault = c.in_err-roster.field-0.0 in
    let is : c.from_residual.result ≡ Err fault = search rules in
    let saw = c.in_err-roster.ensures.read.1.saw in
    subst (λ (r : Result (Unit {0}) LoadFault). IfErr r (IsNotLoaded old new)) (sym is)
    (not_read old new fault saw.told saw.caused saw.left c.read.ensures.nothing_new c.read.ensures.some_left c.read.ensures.outside)
