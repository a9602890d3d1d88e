use Rattle.std.proofs.Common.{◌≡◌}
use Rattle.std.specs.FinMap as fin
use Rattle.lookup.specs.Entries.{HasFirstGround}
use Rattle.sqlite.specs.Held.{state}
use Rattle.lookup.proofs.Causes.{told_cause}
use Rattle.lookup.proofs.EntryLemmas.{is_told, ground_is}
use Rattle.lookup.proofs.ReadLemmas.{opened_ok}
use Rattle.lookup.proofs.RightEntries.{ground_there}
use Rattle.lookup.proofs.ground.ground_at.Goals as goal

pub returns : goal.returns
returns g c = record {
  stays = c.ground_rows.ensures.stays;
  opened = opened_ok c.first_ground.result _ _ (λ clean. (c.in_ok-records.ensures.told clean).0);
  told = λ clean s shows.
      let read = c.in_ok-records.ensures.told clean in
      let finds = rw c.as_str.ensures at read.1 in
      let first = rw c.deref.ensures.value at c.first_ground.ensures.told in
      is_told (HasFirstGround c.in_ok-records.records.items) (λ t found. found ≡ fin.get t.grounds c.args.id.now) _ _ s c.first_ground.result clean read.0 c.ground_rows.ensures.stays.nothing_new shows
      (λ is_book a it. ground_is s shows.sound _ is_book c.args.id.now c.in_ok-records.records.items finds a it) first;
  caused =
      let none = rw c.deref.ensures.value at c.first_ground.ensures.unread in
      told_cause (HasFirstGround c.in_ok-records.records.items) (state g.S.Store c.args.conn.now) (state g.S.Store c.ground_rows.new.conn) c.first_ground.result none
      (λ clean s shows right. ground_there _ right _ c.in_ok-records.records.items (c.in_ok-records.ensures.told clean).1);
}
