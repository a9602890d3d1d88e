use Rattle.lookup.proofs.EntryLemmas.{shown_still}
use Rattle.lookup.proofs.OutsideLemmas.{outsides_are}
use Rattle.lookup.proofs.outside.outsides_held_at.Goals as goal

pub returns-in-Ok : goal.returns-in-Ok
returns-in-Ok g c = record {
  stays = c.crew_outside_rows.ensures.stays;
  opened = λ clean. (c.in_ok-records.ensures.told clean).0.0.is_open;
  told = λ clean s shows.
      let read = c.in_ok-records.ensures.told clean in
      let finds = rw c.as_str.ensures at read.1 in
      let ids = rw c.deref.ensures.value at c.in-Ok.ensures in (
        shown_still _ _ s read.0 c.crew_outside_rows.ensures.stays.nothing_new shows,
        outsides_are s shows.sound _ (shows.book (c.crew_outside_rows.ensures.stays.nothing_new.disk clean) read.0.0.was_open) c.args.who.now c.in_ok-records.records.items finds c.in-Ok.ids.items ids,
      );
  caused = tt;
}
