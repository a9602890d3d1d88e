use Rattle.sqlite.specs.Held.{state}
use Rattle.lookup.proofs.Causes.{wrong_cause}
use Rattle.lookup.proofs.ReadLemmas.{opened_ok}
use Rattle.lookup.proofs.PlanLemmas.{plan_told}
use Rattle.lookup.proofs.Unread.{not_unread_plan}
use Rattle.lookup.proofs.pairing.pairing_at.Goals as goal

pub returns : goal.returns
returns g c = record {
  stays = c.plan_rows.ensures.stays;
  opened = opened_ok c.pairing_of_rows.result _ _ (λ clean. (c.in_ok-rows.ensures.told clean).0);
  told = λ clean s shows.
      let read = c.in_ok-rows.ensures.told clean in
      let finds = rw c.as_str.ensures at read.1 in
      plan_told _ _ s _ c.in_ok-rows.rows c.pairing_of_rows.result clean read.0 finds c.plan_rows.ensures.stays.nothing_new shows c.pairing_of_rows.ensures.told;
  caused = wrong_cause _ (state g.S.Store c.args.conn.now) (state g.S.Store c.plan_rows.new.conn) c.pairing_of_rows.result c.pairing_of_rows.ensures.unread (λ clean s shows right unread.
      let read = c.in_ok-rows.ensures.told clean in
      let finds = rw c.as_str.ensures at read.1 in
      not_unread_plan s shows.sound _ (shows.book (c.plan_rows.ensures.stays.nothing_new.disk clean) read.0.0.was_open) right _ c.in_ok-rows.rows finds unread.0 unread.1);
}
