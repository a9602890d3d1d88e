use Rattle.command.specs.Keys.{key_name}
use Rattle.std.proofs.Common.{◌≡◌}
use Rattle.std.specs.FinMap as fin
use Rattle.lookup.specs.Entries.{HasFirstRequest}
use Rattle.sqlite.specs.Held.{state}
use Rattle.lookup.proofs.Causes.{told_cause}
use Rattle.lookup.proofs.EntryLemmas.{is_told, request_is}
use Rattle.lookup.proofs.ReadLemmas.{opened_ok}
use Rattle.lookup.proofs.RightEntries.{request_there}
use Rattle.lookup.proofs.kept_request.request_at.Goals as goal

pub returns : goal.returns
returns g c = record {
  stays = c.request_rows.ensures.stays;
  opened = opened_ok c.first_request.result _ _ (λ clean. (c.in_ok-records.ensures.told clean).0);
  told = λ clean s shows.
      let read = c.in_ok-records.ensures.told clean in
      let first = rw c.deref.ensures.value at c.first_request.ensures.told in
      is_told (HasFirstRequest c.in_ok-records.records.items) (λ t found. found ≡ fin.get t.requests (key_name c.args.key)) _ _ s c.first_request.result clean read.0 c.request_rows.ensures.stays.nothing_new shows
      (λ is_book a it. request_is s shows.sound shows.instants _ is_book c.args.key c.in_ok-records.records.items read.1 a it) first;
  caused =
      let none = rw c.deref.ensures.value at c.first_request.ensures.unread in
      told_cause (HasFirstRequest c.in_ok-records.records.items) (state g.S.Store c.args.conn.now) (state g.S.Store c.request_rows.new.conn) c.first_request.result none
      (λ clean s shows right. request_there _ right _ c.in_ok-records.records.items (c.in_ok-records.ensures.told clean).1);
}
