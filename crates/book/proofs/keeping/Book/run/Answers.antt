use Rattle.std.proofs.Common.{◌≡◌, refl, ◌++◌, ◌∷◌, ◌||◌, ◌+◌, [], true, false, Err, None, Some, sym, ap, ◌∙◌, length, map, take, inl, inr, arith, rules, is_ok, length-append, subst, List}
use Rattle.std.proofs.lemmas.Bool.{eqb-true}
use Rattle.std.proofs.lemmas.List.{map-append, nil_from_length, take_all}
use Rattle.sqlite.specs.Held.{state}
use Rattle.roster.specs.Folds.{Asked, Fold, Replies, Stopped, next}
use Rattle.roster.specs.Honest.{Honest}
use Rattle.roster.specs.State.{State}
use Rattle.state_rows.specs.declared.fault.StoreFault.{StoreFault}
use Rattle.state_rows.specs.declared.fault.StoreFault.TheVariants.{Store, Memory}
use Rattle.state_rows.specs.Outcomes.{HoldsNow, CrashLeaves}
use Rattle.book.specs.Kept.{Ends, IsDurablyAt, Keeps, result_of}
use Rattle.book.proofs.Holding.{ends_held}
use Rattle.book.proofs.States.{honest_next, one_of_either, shows_still}
use Rattle.book.proofs.Runs.{answer_in, fold_more, replies_more, one_honest, either_honest}
use Rattle.book.proofs.Asked.{adds_none}
use Rattle.book.proofs.SessionLemmas.{adds_session}
use Rattle.book.proofs.Sparing.{adds_then, spared_adds, spared_open, spared_then}
use Rattle.book.proofs.keeping.Book.run.Goals as goal

pub loop-key-preserved : goal.loop-key-preserved
loop-key-preserved g c =
    let xs = c.args.commands.now in
    let i = c.loop-key.key-index in
    let was = c.loop-key.invariant in
    let a = c.loop-key-item.result in
    let some : is_ok c.push.result ≡ true = search (rules, was.room, was.count, c.push.ensures.succeeds) in
    let items : c.push.new.self.items ≡ c.loop-key.answers.items ++ c.in-Ok-ask.answer ∷ [] = rw some at c.push.ensures.items in
    record {
      count = ap length items ∙ length-append _ _ ∙ ap (λ n. n + 1) was.count;
      room = omega (arith, was.room, c.push.ensures.capacity);
      unfailed = c.in-Ok-ask.ensures.failed ∙ ap (λ b. b || false) was.unfailed;
      disk = λ clean. was.disk (c.ask.ensures.disk clean);
      some = c.ask.ensures.some_left;
      spared = spared_then g.S.Store c.args.self.now c.loop-key.self c.ask.new.self c.ask.ensures.disk was.spared c.in-Ok-ask.ensures.others_spared;
      counts = omega (arith, was.counts, c.ask.ensures.faults);
      limit = c.ask.ensures.limit ∙ was.limit;
      replies = λ s at clean.
          let so_far = Fold s (take i xs) in
          let reply : result_of c.in-Ok-ask.answer ≡ answer_in so_far a = c.in-Ok-ask.ensures.reply so_far (was.outcome s at) clean in
          let more : take (i + 1) (Replies s xs) ≡ take i (Replies s xs) ++ answer_in so_far a ∷ [] = rw c.loop-key-item.is (replies_more s xs i a c.loop-key-test.true) in
          ap (map result_of) items
          ∙ map-append result_of c.loop-key.answers.items (c.in-Ok-ask.answer ∷ [])
          ∙ ap (λ t. t ++ result_of c.in-Ok-ask.answer ∷ []) (was.replies s at (c.ask.ensures.disk clean))
          ∙ ap (λ r. take i (Replies s xs) ++ r ∷ []) reply
          ∙ sym more;
      outcome = λ s at.
          let so_far = Fold s (take i xs) in
          let more : Fold s (take (i + 1) xs) ≡ next so_far a = rw c.loop-key-item.is (fold_more s xs i a c.loop-key-test.true) in
          rw more (c.in-Ok-ask.ensures.answered so_far (was.outcome s at));
      tables = λ s at has.
          let so_far = Fold s (take i xs) in
          let more : Fold s (take (i + 1) xs) ≡ next so_far a = rw c.loop-key-item.is (fold_more s xs i a c.loop-key-test.true) in
          rw more (c.in-Ok-ask.ensures.shown so_far (was.outcome s at) (was.tables s at has));
      honest = λ s sound honest.
          let so_far = Fold s (take i xs) in
          let before = was.honest s sound honest in
          let more : Fold s (take (i + 1) xs) ≡ next so_far a = rw c.loop-key-item.is (fold_more s xs i a c.loop-key-test.true) in
          rw more (honest_next so_far a.0 a.1 c.instruction-made.ensures.made before.0 before.1);
    }

-- it has failed before
pub returns-then-self : goal.returns-then-self
returns-then-self g c =
    let now = state g.S.Store c.args.self.now.held in
    let none : length c.stop_with.result.answers.items ≡ 0 = rw (c.stop_with.ensures.answers, c.new.ensures.items) refl in
    let outcome : (s : State) → IsDurablyAt g.S.Store c.args.self.now s → Ends now s c.args.commands.now (length c.stop_with.result.answers.items) c.stop_with.result.fault = λ s at.
    rw (none, c.stop_with.ensures.fault) (one_of_either now s (Fold s (take 1 c.args.commands.now)) at) in
    record {
      count = search rules;
      whole = search rules;
      stopped = search rules;
      nothing = search rules;
      replies = search rules;
      outcome = outcome;
      sessions = λ s before at. adds_session now s before _ _ (search rules) _ (search rules) (outcome (Stopped s before) at);
      held = λ s at. ends_held now s c.args.commands.now (length c.stop_with.result.answers.items) c.stop_with.result.fault (outcome s at);
      honest = λ s at honest. one_honest now s at.leaves honest;
      some_left = search rules;
      shown = search rules;
      still_shown = λ s at has _. rw none (shows_still now s has);
      others_spared = search rules;
      others_left = adds_none now _;
      failed = search rules;
      shut = search rules;
      disk = search rules;
      limit = refl;
      still_open = search rules;
    }

-- there are no commands
pub returns-then-is_empty : goal.returns-then-is_empty
returns-then-is_empty g c =
    let now = state g.S.Store c.args.self.now.held in
    let nobody : c.args.commands.now ≡ [] = nil_from_length c.args.commands.now (eqb-true (length c.args.commands.now) 0 (sym c.is_empty.ensures ∙ c.if-is_empty.true)) in
    let none : c.new-then-is_empty.result.items ≡ [] = c.new-then-is_empty.ensures.items in
    let outcome : (s : State) → IsDurablyAt g.S.Store c.args.self.now s → Ends now s c.args.commands.now (length c.new-then-is_empty.result.items) None = λ s at.
    subst (λ (l : List Asked). Keeps now (Fold s l)) (sym nobody) at in
    record {
      count = rw none (omega arith);
      whole = λ _. rw (none, nobody) refl;
      stopped = search rules;
      nothing = λ _ _. refl;
      replies = λ s at clean. rw none refl;
      outcome = outcome;
      sessions = λ s before at. adds_session now s before _ _ (search rules) _ (search rules) (outcome (Stopped s before) at);
      held = λ s at. ends_held now s c.args.commands.now (length c.new-then-is_empty.result.items) None (outcome s at);
      honest = λ s at honest. one_honest now s at.leaves honest;
      some_left = search rules;
      shown = λ s at has _. subst (λ (l : List Asked). HoldsNow now (Fold s l)) (sym nobody) has;
      still_shown = search rules;
      others_spared = λ _. inl refl;
      others_left = adds_none now _;
      failed = search rules;
      shut = search rules;
      disk = search rules;
      limit = refl;
      still_open = search rules;
    }

-- there is no memory for the answers
pub returns-in_default : goal.returns-in_default
returns-in_default g c =
    let now = state g.S.Store c.args.self.now.held in
    let none : length c.stop_with-in_default.result.answers.items ≡ 0 = rw (c.stop_with-in_default.ensures.answers, c.new-in_default.ensures.items) refl in
    let outcome : (s : State) → IsDurablyAt g.S.Store c.args.self.now s → Ends now s c.args.commands.now (length c.stop_with-in_default.result.answers.items) c.stop_with-in_default.result.fault = λ s at.
    rw (none, c.stop_with-in_default.ensures.fault) at in
    record {
      count = search rules;
      whole = search rules;
      stopped = search rules;
      nothing = search rules;
      replies = search rules;
      outcome = outcome;
      sessions = λ s before at. adds_session now s before _ _ (search rules) _ (search rules) (outcome (Stopped s before) at);
      held = λ s at. ends_held now s c.args.commands.now (length c.stop_with-in_default.result.answers.items) c.stop_with-in_default.result.fault (outcome s at);
      honest = λ s at honest. one_honest now s at.leaves honest;
      some_left = search rules;
      shown = search rules;
      still_shown = λ s at has _. rw none (shows_still now s has);
      others_spared = search rules;
      others_left = adds_none now _;
      failed = search rules;
      shut = search rules;
      disk = search rules;
      limit = refl;
      still_open = search rules;
    }

-- a command met a fault
pub returns-in-Err : goal.returns-in-Err
returns-in-Err g c =
    let xs = c.args.commands.now in
    let i = c.loop-key.key-index in
    let was = c.loop-key.invariant in
    let asked = c.loop-key-item.result in
    let now = state g.S.Store c.ask.new.self.held in
    let count : length c.stop_with-in-Err.result.answers.items ≡ i = rw c.stop_with-in-Err.ensures.answers was.count in
    let ends : (s : State) → IsDurablyAt g.S.Store c.args.self.now s → (fault : StoreFault) → c.ask.result ≡ Err fault → Ends now s xs i (Some fault) = λ s at.
    let so_far = Fold s (take i xs) in
    let more : Fold s (take (i + 1) xs) ≡ next so_far asked = rw c.loop-key-item.is (fold_more s xs i asked c.loop-key-test.true) in
    elim [
      | Store ↦ λ is. rw more (c.ask.ensures.store so_far (was.outcome s at) is)
      | Memory ↦ λ is. c.ask.ensures.memory so_far (was.outcome s at) is
    ] in
    let outcome : (s : State) → IsDurablyAt g.S.Store c.args.self.now s → Ends now s xs (length c.stop_with-in-Err.result.answers.items) c.stop_with-in-Err.result.fault = λ s at.
    rw (count, c.stop_with-in-Err.ensures.fault) (ends s at c.in-Err.fault c.in-Err.is) in
    let honest : (s : State) → IsDurablyAt g.S.Store c.args.self.now s → Honest s → (fault : StoreFault) → c.ask.result ≡ Err fault → CrashLeaves now Honest = λ s at honest.
    let before = was.outcome s at in
    let so_far = Fold s (take i xs) in
    elim [
      | Store ↦ λ is. record {
        crash = λ clean trees may.
            let first = was.honest s (at.kept (was.disk (c.ask.ensures.disk clean))).sound honest in
            (either_honest now so_far (next so_far asked) (c.ask.ensures.store so_far before is) first.1 (honest_next so_far asked.0 asked.1 c.instruction-made.ensures.made first.0 first.1).1).crash clean trees may;
      }
      | Memory ↦ λ is. record {
        crash = λ clean trees may.
            let first = was.honest s (at.kept (was.disk (c.ask.ensures.disk clean))).sound honest in
            (one_honest now so_far (c.ask.ensures.memory so_far before is).leaves first.1).crash clean trees may;
      }
    ] in
    record {
      count = search rules;
      whole = search rules;
      stopped = λ _. inr (rw count c.loop-key-test.true);
      nothing = search rules;
      replies = search rules;
      outcome = outcome;
      sessions = λ s before at. adds_session now s before _ _ (search rules) _ (search rules) (outcome (Stopped s before) at);
      held = λ s at. ends_held now s xs (length c.stop_with-in-Err.result.answers.items) c.stop_with-in-Err.result.fault (outcome s at);
      honest = λ s at is. honest s at is c.in-Err.fault c.in-Err.is;
      some_left = search rules;
      shown = search rules;
      still_shown = λ s at has _. rw count (c.in-Err.ensures.still_shown _ (was.outcome s at) (was.tables s at has));
      others_spared = search rules;
      others_left = adds_then g.S.Store c.args.self.now c.loop-key.self c.ask.new.self c.ask.ensures.disk was.spared c.ask.ensures.others_left;
      failed = search rules;
      shut = search rules;
      disk = search rules;
      limit = c.ask.ensures.limit ∙ was.limit;
      still_open = λ is.
          let fault : Some c.in-Err.fault ≡ Some Memory = rw (← c.stop_with-in-Err.ensures.fault) is in
          spared_open g.S.Store c.args.self.now c.loop-key.self c.ask.new.self c.ask.ensures.disk was.counts was.spared (c.ask.ensures.still_open (c.in-Err.is ∙ (let same : c.in-Err.fault ≡ Memory = cc in ap Err same)));
    }

-- all were answered
pub returns : goal.returns
returns g c =
    let xs = c.args.commands.now in
    let was = c.loop-key.invariant in
    let now = state g.S.Store c.loop-key.self.held in
    let all : take c.loop-key.key-index xs ≡ xs = take_all c.loop-key.key-index xs (omega arith) in
    let outcome : (s : State) → IsDurablyAt g.S.Store c.args.self.now s → Ends now s xs (length c.loop-key.answers.items) None = λ s at. subst (λ (l : List Asked). Keeps now (Fold s l)) all (was.outcome s at) in
    record {
      count = search rules;
      whole = search rules;
      stopped = search rules;
      nothing = search rules;
      replies = search rules;
      outcome = outcome;
      sessions = λ s before at. adds_session now s before _ _ (search rules) _ (search rules) (outcome (Stopped s before) at);
      held = λ s at. ends_held now s xs (length c.loop-key.answers.items) None (outcome s at);
      honest = λ s at honest. record {
        crash = λ clean trees may.
            let first = was.honest s (at.kept (was.disk clean)).sound honest in
            (one_honest _ (Fold s (take c.loop-key.key-index xs)) (was.outcome s at).leaves first.1).crash clean trees may;
      };
      some_left = search rules;
      shown = λ s at has _. subst (λ (l : List Asked). HoldsNow now (Fold s l)) all (was.tables s at has);
      still_shown = search rules;
      others_spared = search rules;
      others_left = spared_adds g.S.Store c.args.self.now c.loop-key.self was.spared;
      failed = search rules;
      shut = search rules;
      disk = search rules;
      limit = was.limit;
      still_open = search rules;
    }
