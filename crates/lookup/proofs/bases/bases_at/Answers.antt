use Rattle.std.proofs.Common.{◌≡◌, length}
use Rattle.lookup.specs.Bases.{AreFirstBases}
use Rattle.sqlite.specs.Held.{state}
use Rattle.lookup.proofs.BaseLemmas.{bases_are, of_bases}
use Rattle.lookup.proofs.Causes.{wrong_cause}
use Rattle.lookup.proofs.EntryLemmas.{is_told}
use Rattle.lookup.proofs.ReadLemmas.{opened_ok}
use Rattle.lookup.proofs.bases.bases_at.Goals as goal

pub returns : goal.returns
returns g c = record {
  stays = c.base_rows.ensures.stays;
  opened = opened_ok c.bases_of_rows.result _ _ (λ clean. (c.in_ok-records.ensures.told clean).0);
  told = λ clean s shows.
      let read = c.in_ok-records.ensures.told clean in
      let all = rw c.deref.ensures.value at c.bases_of_rows.ensures.told in
      is_told (AreFirstBases c.in_ok-records.records.items (length c.in_ok-records.records.items)) (λ t found. found ≡ t.bases) _ _ s c.bases_of_rows.result clean read.0 c.base_rows.ensures.stays.nothing_new shows
      (λ is_book a it. bases_are s _ is_book c.in_ok-records.records.items read.1 a it) all;
  caused =
      let strange = rw c.deref.ensures.value at c.bases_of_rows.ensures.unread in
      wrong_cause _ (state g.S.Store c.args.conn.now) (state g.S.Store c.base_rows.new.conn) c.bases_of_rows.result strange
      (λ clean s shows right unread.
      let read = c.in_ok-records.ensures.told clean in
      let is_book = shows.book (c.base_rows.ensures.stays.nothing_new.disk clean) read.0.0.was_open in
      unread (of_bases s _ is_book c.in_ok-records.records.items read.1 shows.sound right));
}
