use Rattle.std.proofs.Common.{sym, subst, IsTrue}
use Rattle.roster.specs.Holding.{AreJust}
use Rattle.roster.specs.Refusals.{is_member}
use Rattle.lookup.proofs.EntryLemmas.{shown_still}
use Rattle.lookup.proofs.IdLemmas.{members_are}
use Rattle.lookup.proofs.ids.crew_ids_at.Goals as goal

pub returns-in-Ok : goal.returns-in-Ok
returns-in-Ok g c = record {
  stays = c.crew_rows.ensures.stays;
  opened = λ clean. (c.in_ok-records.ensures.told clean).0.0.is_open;
  told = λ clean s shows.
      let read = c.in_ok-records.ensures.told clean in
      let left = c.crew_rows.ensures.stays.nothing_new in
      let ids = rw c.deref.ensures.value at c.in-Ok.ensures in (
        shown_still _ _ s read.0 left shows,
        subst (AreJust (λ id. IsTrue (is_member s id))) (sym ids) (members_are s _ (shows.book (left.disk clean) read.0.0.was_open) c.in_ok-records.records.items read.1),
      );
  caused = tt;
}
