use Rattle.lookup.proofs.HeldLemmas.{held_told}
use Rattle.lookup.proofs.held.pairings_held_at.Goals as goal

pub returns-in-Ok : goal.returns-in-Ok
returns-in-Ok g c = record {
  stays = c.seat_rows.ensures.stays;
  opened = λ clean. (c.in_ok-records.ensures.told clean).0.0.is_open;
  told = λ clean s shows.
      let read = c.in_ok-records.ensures.told clean in
      let finds = rw c.as_str.ensures at read.1 in
      let ids = rw c.deref.ensures.value at c.in-Ok.ensures in
      held_told _ _ s _ _ _ clean read.0 finds c.seat_rows.ensures.stays.nothing_new shows ids;
  caused = tt;
}
