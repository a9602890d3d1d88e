use Rattle.std.proofs.Common.{◌≡◌, ◌∙◌, ap, sym, rules, Err, IfOk, OnOk}
use Rattle.sqlite.specs.State.{HasCleanDisk}
use Rattle.sqlite.specs.Held.{state}
use Rattle.roster.specs.Folds.{Asked, Stopped, answer_of, next}
use Rattle.roster.specs.State.{State}
use Rattle.roster.specs.Steps.{step_of}
use Rattle.state_rows.specs.declared.fault.StoreFault.TheVariants.{Memory, Store}
use Rattle.state_rows.specs.Outcomes.{CrashLeaves}
use Rattle.book.specs.Kept.{Keeps, IsEitherKept, result_of}
use Rattle.book.proofs.Runs.{honest_left}
use Rattle.book.proofs.States.{honest_next, same_state}
use Rattle.book.proofs.Holding.{accepts_within, now_holds, one_held_still, step_repeats}
use Rattle.book.proofs.Asked.{closes, of_same, told_ok, told_tables, told_memory, told_store, told_shown, told_reply}
use Rattle.book.proofs.Parts.{was_shut}
use Rattle.book.proofs.SessionLemmas.{adds_one}
use Rattle.book.proofs.Decided.{Decided, judged, not_judged}
use Rattle.book.proofs.keeping.Book.ask.Goals as goal
use Rattle.book.proofs.keeping.Book.ask.Goals.{in-Ok, in-Err}

pub invariant_of-self : goal.invariant_of-self
invariant_of-self g c =
    let G = g.S.Store in
    let asked : Asked = (c.args.key, c.args.command.now) in
    let one = c.self.invariant.1 c.if-self.false in
    let decided : Decided (state G c.self.inside.store) (state G c.match-judge.self-inside.store) one.it asked c.match-judge.answer = elim c.match-judge.branch [
      | in-Ok w ↦ rw (w.answer-is, w.self-inside-is) (judged G c.self.inside.store c.judge.new.self w.decide_by-answer.new.store one.it asked c.judge.ensures.unchanged c.judge.ensures.some_left
          one.keeps one.shown w.in-Ok.ensures.opened w.in-Ok.verdict w.in-Ok.ensures.verdict w.decide_by-answer.ensures.disk w.decide_by-answer.result w.decide_by-answer.ensures.did w.decide_by-answer.ensures.reply
          w.decide_by-answer.ensures.repeated w.decide_by-answer.ensures.turned_down w.decide_by-answer.ensures.refused w.decide_by-answer.ensures.others_spared)
      | in-Err w ↦ rw (w.answer-is, w.self-inside-is) (not_judged (state G c.self.inside.store) (state G c.judge.new.self) one.it asked c.judge.ensures.unchanged c.judge.ensures.some_left
          one.keeps one.shown w.in-Err.fault w.in-Err.ensures.caused)
    ] in
    let all = closes (state G c.self.inside.store) (state G c.match-judge.self-inside.store) one.it (next one.it asked) c.match-judge.answer decided.did in
    (all.0, λ is. all.1 (sym c.is_of_store-self-inside.ensures ∙ is))

pub returns-then-self : goal.returns-then-self
returns-then-self g c = rw (← c.self.view_is) (was_shut g.S.Store _ _ c.self.invariant.0 c.if-self.true)

pub returns : goal.returns
returns g c =
    let G = g.S.Store in
    let before = state G c.args.self.now.held in
    let old = state G c.self.inside.store in
    let new = state G c.match-judge.self-inside.store in
    let asked : Asked = (c.args.key, c.args.command.now) in
    let of = λ (x : State). next x asked in
    let result = c.match-judge.answer in
    let one = c.self.invariant.1 c.if-self.false in
    let decided : Decided old new one.it asked result = elim c.match-judge.branch [
      | in-Ok w ↦ rw (w.answer-is, w.self-inside-is) (judged G c.self.inside.store c.judge.new.self w.decide_by-answer.new.store one.it asked c.judge.ensures.unchanged c.judge.ensures.some_left
          one.keeps one.shown w.in-Ok.ensures.opened w.in-Ok.verdict w.in-Ok.ensures.verdict w.decide_by-answer.ensures.disk w.decide_by-answer.result w.decide_by-answer.ensures.did w.decide_by-answer.ensures.reply
          w.decide_by-answer.ensures.repeated w.decide_by-answer.ensures.turned_down w.decide_by-answer.ensures.refused w.decide_by-answer.ensures.others_spared)
      | in-Err w ↦ rw (w.answer-is, w.self-inside-is) (not_judged (state G c.self.inside.store) (state G c.judge.new.self) one.it asked c.judge.ensures.unchanged c.judge.ensures.some_left
          one.keeps one.shown w.in-Err.fault w.in-Err.ensures.caused)
    ] in
    let did = decided.did in
    let disk : HasCleanDisk new → HasCleanDisk before = rw (← c.self.view_is) did.disk in
    let answered : (s : State) → Keeps before s → OnOk result (Keeps new (of s)) = rw (← c.self.view_is) (λ s at. told_ok old new one.it of one.keeps s at did.disk result did.done) in
    let memory : (s : State) → Keeps before s → result ≡ Err Memory → Keeps new s = rw (← c.self.view_is) (λ s at. told_memory old new one.it of one.keeps s at did.disk result did.done) in
    let store : (s : State) → Keeps before s → result ≡ Err Store → CrashLeaves new (IsEitherKept s (of s)) = rw (← c.self.view_is) (λ s at. told_store old new one.it of one.keeps s at did.disk result did.done) in
    let reply : (s : State) → Keeps before s → HasCleanDisk new → IfOk result (λ a. result_of a ≡ answer_of (step_of s c.args.key c.args.command.now)) = rw (← c.self.view_is) (λ s at clean.
    told_reply old new one.it of one.keeps s at did.disk result result_of (λ (x : State). answer_of (step_of x c.args.key c.args.command.now)) (decided.reply clean) clean) in
    record {
      failed = search rules;
      shut = search rules;
      disk = disk;
      some_left = search rules;
      reply = reply;
      answered = answered;
      shown = rw (← c.self.view_is) (λ s at. told_tables old new one.it of one.keeps s at did.disk result did.done);
      memory = memory;
      store = store;
      sessions = λ s past at. adds_one _ s past asked result (answered (Stopped s past) at) (memory (Stopped s past) at) (store (Stopped s past) at);
      still_shown = rw (← c.self.view_is) (λ s at _. told_shown old new one.it of one.keeps s at did.disk result did.done);
      honest = λ s at honest. record {
        crash = λ clean trees may.
            let after = honest_next s c.args.key c.args.command.now c.instruction-made.ensures.made (at.kept (disk clean)).sound honest in
            (honest_left new s (of s) result (answered s at) (memory s at) (store s at) honest after.1).crash clean trees may;
      };
      within_limits = λ s at clean is passes. accepts_within s c.args.key c.args.command.now is passes result (reply s at clean);
      repeats = rw (← c.self.view_is) (λ s kept at clean held.
          let same = same_state old one.it s one.keeps at (did.disk clean) in
          decided.repeated kept clean (step_repeats s one.it asked kept same held));
      turned_down = rw (← c.self.view_is) (λ s refusal at clean refused.
          let same = same_state old one.it s one.keeps at (did.disk clean) in
          decided.turned_down refusal clean (ap (λ (x : State). step_of x c.args.key c.args.command.now) same ∙ refused));
      caused = rw (← c.self.view_is) (λ s at change _.
          of_same old new one.it s asked result did.disk (same_state old one.it s one.keeps at) change decided.caused);
      holds = λ s kept at. now_holds _ s asked kept result (reply s at) (answered s at);
      held = λ s at. one_held_still _ s asked result (answered s at) (memory s at) (store s at);
      refused = rw (← c.self.view_is) decided.refused;
      others_spared = rw (← c.self.view_is) decided.others_spared;
      others_left = rw (← c.self.view_is) did.others_left;
      faults = rw (← c.self.view_is) did.faults;
      limit = rw (← c.self.view_is) did.limit;
      still_open = rw (← c.self.view_is) did.still_open;
    }
