use Rattle.std.proofs.Common.{◌≡◌}
use Rattle.std.specs.FinMap as fin
use Rattle.sqlite.specs.Held.{state}
use Rattle.lookup.proofs.Causes.{told_cause}
use Rattle.lookup.proofs.EntryLemmas.{is_told}
use Rattle.lookup.proofs.OutsideLemmas.{outside_found, outside_there}
use Rattle.lookup.proofs.ReadLemmas.{opened_ok}
use Rattle.lookup.specs.Outsides.{HasFirstOutside}
use Rattle.lookup.proofs.outside.outside_at.Goals as goal

pub returns : goal.returns
returns g c = record {
  stays = c.outside_rows.ensures.stays;
  opened = opened_ok c.first_outside.result _ _ (λ clean. (c.in_ok-rows.ensures.told clean).0);
  told = λ clean s shows.
      let read = c.in_ok-rows.ensures.told clean in
      let finds = rw c.as_str.ensures at read.1 in
      let first = rw (c.deref.ensures.value, c.deref-2.ensures.value) at c.first_outside.ensures.told in
      is_told (HasFirstOutside c.in_ok-rows.rows.periods.items c.in_ok-rows.rows.segments.items) (λ t found. found ≡ fin.get t.outsides c.args.id.now) _ _ s c.first_outside.result clean read.0 c.outside_rows.ensures.stays.nothing_new shows
      (λ is_book a it. outside_found s shows.sound _ is_book c.args.id.now c.in_ok-rows.rows finds a it) first;
  caused =
      let none = rw (c.deref.ensures.value, c.deref-2.ensures.value) at c.first_outside.ensures.unread in
      told_cause (HasFirstOutside c.in_ok-rows.rows.periods.items c.in_ok-rows.rows.segments.items) (state g.S.Store c.args.conn.now) (state g.S.Store c.outside_rows.new.conn) c.first_outside.result none
      (λ clean s shows right.
      let read = c.in_ok-rows.ensures.told clean in
      let finds = rw c.as_str.ensures at read.1 in
      outside_there _ right c.args.id.now c.in_ok-rows.rows finds);
}
