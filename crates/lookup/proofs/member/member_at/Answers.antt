use Rattle.std.proofs.Common.{◌≡◌}
use Rattle.std.specs.FinMap as fin
use Rattle.sqlite.specs.Held.{state}
use Rattle.lookup.proofs.Causes.{told_cause}
use Rattle.lookup.proofs.EntryLemmas.{is_told}
use Rattle.lookup.proofs.MemberLemmas.{member_found, member_there}
use Rattle.lookup.proofs.ReadLemmas.{opened_ok}
use Rattle.lookup.specs.Members.{HasFirst}
use Rattle.lookup.proofs.member.member_at.Goals as goal

pub returns : goal.returns
returns g c = record {
  stays = c.member_rows.ensures.stays;
  opened = opened_ok c.first_member.result _ _ (λ clean. (c.in_ok-rows.ensures.told clean).0);
  told = λ clean s shows.
      let read = c.in_ok-rows.ensures.told clean in
      let finds = rw c.as_str.ensures at read.1 in
      let first = rw (c.deref.ensures.value, c.deref-2.ensures.value) at c.first_member.ensures.told in
      is_told (HasFirst c.in_ok-rows.rows.crew.items c.in_ok-rows.rows.bases.items) (λ t found. found ≡ fin.get t.crew c.args.id.now) _ _ s c.first_member.result clean read.0 c.member_rows.ensures.stays.nothing_new shows
      (λ is_book a it. member_found s _ is_book c.args.id.now c.in_ok-rows.rows finds a it) first;
  caused =
      let none = rw (c.deref.ensures.value, c.deref-2.ensures.value) at c.first_member.ensures.unread in
      told_cause (HasFirst c.in_ok-rows.rows.crew.items c.in_ok-rows.rows.bases.items) (state g.S.Store c.args.conn.now) (state g.S.Store c.member_rows.new.conn) c.first_member.result none
      (λ clean s shows right.
      let read = c.in_ok-rows.ensures.told clean in
      let finds = rw c.as_str.ensures at read.1 in
      member_there s _ (shows.book (c.member_rows.ensures.stays.nothing_new.disk clean) read.0.0.was_open) c.args.id.now c.in_ok-rows.rows finds);
}
