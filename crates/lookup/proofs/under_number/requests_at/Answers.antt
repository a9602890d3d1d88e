use Rattle.std.proofs.Common.{◌≡◌, length}
use Rattle.std.specs.FinMap as fin
use Rattle.lookup.specs.Requests.{AreKept, has_number}
use Rattle.sqlite.specs.Held.{state}
use Rattle.lookup.proofs.Causes.{wrong_cause}
use Rattle.lookup.proofs.EntryLemmas.{is_told}
use Rattle.lookup.proofs.ReadLemmas.{opened_ok}
use Rattle.lookup.proofs.RequestLemmas.{no_stranger, requests_are}
use Rattle.lookup.proofs.under_number.requests_at.Goals as goal

pub returns : goal.returns
returns g c = record {
  stays = c.number_rows.ensures.stays;
  opened = opened_ok c.requests_of_rows.result _ _ (λ clean. (c.in_ok-records.ensures.told clean).0);
  told = λ clean s shows.
      let read = c.in_ok-records.ensures.told clean in
      let all = rw c.deref.ensures.value at c.requests_of_rows.ensures.told in
      is_told (AreKept c.in_ok-records.records.items (length c.in_ok-records.records.items)) (λ t found. found ≡ fin.retain_keys t.requests (has_number c.args.number)) _ _ s c.requests_of_rows.result clean read.0 c.number_rows.ensures.stays.nothing_new shows
      (λ is_book a it. requests_are s shows.sound shows.instants _ is_book c.args.number c.in_ok-records.records.items read.1 a it) all;
  caused =
      let strange = rw c.deref.ensures.value at c.requests_of_rows.ensures.unread in
      wrong_cause _ (state g.S.Store c.args.conn.now) (state g.S.Store c.number_rows.new.conn) c.requests_of_rows.result strange
      (λ clean s shows right. no_stranger _ right _ c.in_ok-records.records.items (c.in_ok-records.ensures.told clean).1);
}
