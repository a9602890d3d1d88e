use Rattle.std.proofs.Common.{rules, inl, inr, refl, ap, Err}
use Rattle.book.proofs.CallLemmas.{no_calls}
use Rattle.asking.proofs.Parts.{schedule_made}
use Rattle.asking.specs.declared.schedules.NotAllAsked.TheVariants.{Unread}
use Rattle.asking.proofs.schedules.ask_schedule.Goals as goal

pub ask_parts-requires-clause-made : goal.ask_parts-requires-clause-made
ask_parts-requires-clause-made g c = schedule_made c.args.number c.args.text.now c.in-Ok.pairings.items c.in-Ok.ensures.read

pub returns-in-Ok : goal.returns-in-Ok
returns-in-Ok g c = record {
  asked = inr (c.in-Ok.pairings.items, c.in-Ok.ensures.read, c.ask_parts.ensures.asked);
  calls = c.ask_parts.ensures.calls;
}

pub returns-in-Err-Memory : goal.returns-in-Err-Memory
returns-in-Err-Memory g c = record { asked = inl (inr refl, refl, refl); calls = no_calls g.S.Store refl }

pub returns-in-Err : goal.returns-in-Err
returns-in-Err g c = record {
  asked = elim c.in-Err.ensures.refused [
    | inl memory ↦ absurd (search (rules, memory))
    | inr bad ↦ inl (inl (bad.0, bad.2, ap (λ fault. Err (Unread fault)) bad.1), refl, refl)
  ];
  calls = no_calls g.S.Store refl;
}
