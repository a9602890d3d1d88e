use Rattle.std.proofs.Common.{◌≡◌, length}
use Rattle.lookup.specs.Recorded.{AreRead}
use Rattle.sqlite.specs.Held.{state}
use Rattle.lookup.proofs.Causes.{wrong_cause}
use Rattle.lookup.proofs.EntryLemmas.{is_told}
use Rattle.lookup.proofs.ReadLemmas.{opened_ok}
use Rattle.lookup.proofs.RecordedLemmas.{no_stranger, recorded_are}
use Rattle.lookup.proofs.exceedance.exceedances_at.Goals as goal

pub returns : goal.returns
returns g c = record {
  stays = c.exceedance_rows.ensures.stays;
  opened = opened_ok c.exceedances_of_rows.result _ _ (λ clean. (c.in_ok-records.ensures.told clean).0);
  told = λ clean s shows.
      let read = c.in_ok-records.ensures.told clean in
      let all = rw c.deref.ensures.value at c.exceedances_of_rows.ensures.told in
      is_told (AreRead c.in_ok-records.records.items (length c.in_ok-records.records.items)) (λ t found. found ≡ t.exceedances) _ _ s c.exceedances_of_rows.result clean read.0 c.exceedance_rows.ensures.stays.nothing_new shows
      (λ is_book a it. recorded_are s shows.sound _ is_book c.in_ok-records.records.items read.1 a it) all;
  caused =
      let strange = rw c.deref.ensures.value at c.exceedances_of_rows.ensures.unread in
      wrong_cause _ (state g.S.Store c.args.conn.now) (state g.S.Store c.exceedance_rows.new.conn) c.exceedances_of_rows.result strange
      (λ clean s shows right. no_stranger _ right c.in_ok-records.records.items (c.in_ok-records.ensures.told clean).1);
}
