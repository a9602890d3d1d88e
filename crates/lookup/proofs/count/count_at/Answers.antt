use Rattle.sqlite.specs.Held.{state}
use Rattle.lookup.specs.Count.{IsCount, IsCountOf}
use Rattle.lookup.proofs.Causes.{told_cause}
use Rattle.lookup.proofs.CountLemmas.{count_is, count_there}
use Rattle.lookup.proofs.EntryLemmas.{is_told}
use Rattle.lookup.proofs.ReadLemmas.{opened_ok}
use Rattle.lookup.proofs.count.count_at.Goals as goal

pub returns : goal.returns
returns g c = record {
  stays = c.request_tally.ensures.stays;
  opened = opened_ok c.count_of.result _ _ (λ clean. (c.in_ok-tally.ensures.told clean).0);
  told = λ clean s shows.
      let read = c.in_ok-tally.ensures.told clean in
      is_told (IsCountOf c.in_ok-tally.tally) IsCount _ _ s c.count_of.result clean read.0 c.request_tally.ensures.stays.nothing_new shows
      (λ is_book a it. count_is s shows.sound _ is_book c.in_ok-tally.tally read.1 a it) c.count_of.ensures.told;
  caused =
      told_cause (IsCountOf c.in_ok-tally.tally) (state g.S.Store c.args.conn.now) (state g.S.Store c.request_tally.new.conn) c.count_of.result c.count_of.ensures.unread
      (λ clean s shows right. count_there _ right c.in_ok-tally.tally (c.in_ok-tally.ensures.told clean).1);
}
