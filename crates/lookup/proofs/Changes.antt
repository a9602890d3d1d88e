-- What reads leave of a connection, one after the other.
use Rattle.std.proofs.Common.{refl, inl, inr, arith, ◌∙◌}
use Rattle.sqlite.specs.State as conn
use Rattle.lookup.specs.Reads.{ChangesNothing, Stays}

pub nothing_changes : (s : conn.State) → ChangesNothing s s
nothing_changes s = record {
  nothing_new = record { disk = λ clean. clean; crash = λ clean trees may. may };
  still_shown = λ clean opened. (opened, refl);
  faults = omega (arith);
  still_open = λ clean opened. inl opened;
  limit = refl;
}

pub changes_then : (a b c : conn.State) → ChangesNothing a b → ChangesNothing b c → ChangesNothing a c
changes_then a b c p q = record {
  nothing_new = record {
    disk = λ clean. p.nothing_new.disk (q.nothing_new.disk clean);
    crash = λ clean trees may. p.nothing_new.crash (q.nothing_new.disk clean) trees (q.nothing_new.crash clean trees may);
  };
  still_shown = λ clean opened.
      let late = q.still_shown clean opened in
      let early = p.still_shown (q.nothing_new.disk clean) late.0 in
      (early.0, late.1 ∙ early.1);
  faults = omega (arith, p.faults, q.faults);
  still_open = λ clean opened. elim (p.still_open (q.nothing_new.disk clean) opened) [
    | inl mid ↦ elim (q.still_open clean mid) [
      | inl last ↦ inl last
      | inr more ↦ inr (omega (arith, more, p.faults))
    ]
    | inr more ↦ inr (omega (arith, more, q.faults))
  ];
  limit = q.limit ∙ p.limit;
}

pub of_stays : (old new : conn.State) → Stays old new → ChangesNothing old new
of_stays old new stays = record { nothing_new = stays.nothing_new; still_shown = stays.still_shown; faults = stays.faults; still_open = stays.still_open; limit = stays.limit }
