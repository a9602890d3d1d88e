-- What comes of whole lives of a book.
use Rattle.std.proofs.Common.{◌≡◌, ◌⊎◌, inl, inr, refl, sym, ap, subst, ◌∙◌, ℕ, zero, suc, Bool, true, false, ◌||◌, cond, IsTrue, List, [], ◌∷◌, ◌++◌, drop, length, take, Option, Some, None}
use Rattle.sqlite_trees.specs.Tree.{Trees}
use Rattle.sqlite_trees.specs.View as view
use Rattle.sqlite_trees.specs.declared.store.Store.{Ghosts}
use Rattle.sqlite.specs.State as conn
use Rattle.sqlite.specs.State.{HasCleanDisk}
use Rattle.sqlite.specs.Effect.{Database}
use Rattle.sqlite.specs.Held.{Held, state}
use Rattle.roster.proofs.KeepsHonest.{keeps_honest}
use Rattle.roster.proofs.MadeByCommands.{stays_honest}
use Rattle.roster.proofs.Sound.{keeps_sound}
use Rattle.roster.specs.Folds.{Asked, Fold, Replies, ReplyOrRefusal}
use Rattle.roster.specs.Honest.{Honest}
use Rattle.roster.specs.State.{State}
use Rattle.state_rows.specs.declared.fault.StoreFault.{StoreFault}
use Rattle.state_rows.specs.declared.fault.StoreFault.TheVariants.{Store, Memory}
use Rattle.state_rows.specs.Kept.{HoldBookOf}
use Rattle.state_rows.specs.Outcomes.{CrashLeaves, CrashLeavesSome, IsEither}
use Rattle.book.specs.Calls.{AreCalls, Call, IsCall}
use Rattle.book.specs.Kept.{Ends, IsClean, IsDurablyAt, IsKept, Keeps, KeepsEither, Kept, IsEitherKept, is_some_store_fault}
use Rattle.book.specs.Lives.{AreDone, AreDoneInTurn, EachIsFoundAgain, EachLifeHolds, GoesOn, IsFoundAt, IsLeftOf, IsMadeAt, Life, IsOpenedOver, IsReopened, IsReopenedAfter, in_turn, acknowledged, acknowledged_by, answers, doubted_by, in_doubt, is_stopped}
use Rattle.book.proofs.CommandLists.{All, all_append, all_drop, all_of, all_take, append_all, append_none, both_none, each_of, fold_append, replies_append, replies_take, second_none, take_more}
use Rattle.book.proofs.SessionLemmas.{take_whole}
use Rattle.book.proofs.States.{HoldEither, one_of_either}

-- ---- Two states

as_either : (now : conn.State) (s t s' t' : State) → s ≡ s' → t ≡ t' → CrashLeaves now (IsEitherKept s t) → CrashLeaves now (IsEitherKept s' t')
as_either now s t s' t' first second leaves =
    subst (λ (x : State). CrashLeaves now (IsEitherKept s' x)) second
    (subst (λ (x : State). CrashLeaves now (IsEitherKept x t)) first leaves)

-- ---- One call

ends_reach : (now : conn.State) (s : State) (l : List Asked) (n : ℕ) (fault : Option StoreFault) → (fault ≡ None → n ≡ length l) → Ends now s l n fault →
    ((is_some_store_fault fault ≡ false) × Keeps now (Fold s (take n l)))
    ⊎ ((is_some_store_fault fault ≡ true) × CrashLeaves now (IsEitherKept (Fold s (take n l)) (Fold s (take n l ++ take 1 (drop n l)))))
ends_reach now s l n None whole ends =
    let all : take n l ≡ l = ap (λ k. take k l) (whole refl) ∙ take_whole l in
    inl (refl, subst (λ (m : List Asked). Keeps now (Fold s m)) (sym all) ends)
ends_reach now s l n (Some Memory) whole ends = inl (refl, ends)
ends_reach now s l n (Some Store) whole ends =
    inr (refl, subst (λ (m : List Asked). CrashLeaves now (IsEitherKept (Fold s (take n l)) (Fold s m))) (take_more l n) ends)

module _ {S : Type 0} (g : Ghosts S) where
  -- what a call that met no fault of the store leaves, and what one that did
  abbrev Calm : State → Call → Kept S → Type 0
  Calm s call new = (is_stopped call ≡ false) × IsDurablyAt g new (Fold s (acknowledged_by call))

  abbrev Doubtful : State → Call → Kept S → Type 0
  Doubtful s call new = (is_stopped call ≡ true)
      × CrashLeaves (state g new.held) (IsEitherKept (Fold s (acknowledged_by call)) (Fold s (acknowledged_by call ++ doubted_by call)))

  call_reaches : (call : Call) (old new : Kept S) (s : State) → IsDurablyAt g old s → IsCall g old call new → Calm s call new ⊎ Doubtful s call new
  call_reaches call old new s at is =
      ends_reach (state g new.held) s call.asked (length call.answers) call.fault is.whole (is.outcome s at)

  -- a book that has failed does nothing
  call_shut : (call : Call) (old new : Kept S) → IsTrue old.failed → IsCall g old call new → (new ≡ old) × (acknowledged_by call ≡ []) × (call.answers ≡ [])
  call_shut call old new failed is =
      let shut = is.shut failed in
      (shut.1, ap (λ (l : List ReplyOrRefusal). take (length l) call.asked) shut.0, shut.0)

  -- the answers are the machine's
  call_replies : (call : Call) (old new : Kept S) (s : State) → IsDurablyAt g old s → IsCall g old call new → IsClean g new →
      call.answers ≡ Replies s (acknowledged_by call)
  call_replies call old new s at is clean = is.replies s at clean ∙ replies_take s call.asked (length call.answers)

  -- its commands are made
  call_acknowledges : (call : Call) (old new : Kept S) → IsCall g old call new → All (acknowledged_by call)
  call_acknowledges call old new is = all_take call.asked (length call.answers) (all_of call.asked is.made)

  call_doubts : (call : Call) (old new : Kept S) → IsCall g old call new → All (doubted_by call)
  call_doubts call old new is =
      all_take (drop (length call.answers) call.asked) 1 (all_drop call.asked (length call.answers) (all_of call.asked is.made))

-- ---- The calls of a session

failed_still : (b c : Bool) (d : Bool) → d ≡ (b || c) → b ≡ false → c ≡ false → d ≡ false
failed_still b c d is first second = is ∙ ap (λ x. x || c) first ∙ second

failed_now : (b c : Bool) (d : Bool) → d ≡ (b || c) → b ≡ false → c ≡ true → d ≡ true
failed_now b c d is first second = is ∙ ap (λ x. x || c) first ∙ second

module _ {S : Type 0} (g : Ghosts S) where
  shut : (calls : List Call) (old new : Kept S) → IsTrue old.failed → AreCalls g old calls new → (new ≡ old) × (acknowledged calls ≡ []) × (answers calls ≡ [])
  shut [] old new failed are = (are, refl, refl)
  shut (call ∷ calls) old new failed are =
      let first = call_shut g call old are.0 failed are.1 in
      let rest = shut calls are.0 new (subst (λ (b : Kept S). IsTrue b.failed) (sym first.0) failed) are.2 in (
        rest.0 ∙ first.0,
        both_none (acknowledged_by call) (acknowledged calls) first.1 rest.1,
        both_none call.answers (answers calls) first.2 rest.2,
      )

  pub clean_before : (calls : List Call) (old new : Kept S) → AreCalls g old calls new → IsClean g new → IsClean g old
  clean_before [] old new are clean = subst (λ (b : Kept S). IsClean g b) are clean
  clean_before (call ∷ calls) old new are clean = are.1.disk (clean_before calls are.0 new are.2 clean)

  abbrev pub Reached : State → List Call → Kept S → Type 0
  Reached s calls new = CrashLeaves (state g new.held) (IsEitherKept (Fold s (acknowledged calls)) (Fold s (acknowledged calls ++ in_doubt calls)))

  -- what is said of a session whose first call met no fault of the store, by what is said of the others
  module _ (call : Call) (calls : List Call) (s : State) where
    first_state : Fold (Fold s (acknowledged_by call)) (acknowledged calls) ≡ Fold s (acknowledged (call ∷ calls))
    first_state = sym (fold_append s (acknowledged_by call) (acknowledged calls))

    second_state : is_stopped call ≡ false →
        Fold (Fold s (acknowledged_by call)) (acknowledged calls ++ in_doubt calls) ≡ Fold s (acknowledged (call ∷ calls) ++ in_doubt (call ∷ calls))
    second_state calm =
        let same : in_doubt calls ≡ in_doubt (call ∷ calls) = ap (λ b. cond b (doubted_by call) (in_doubt calls)) (sym calm) in
        sym (fold_append s (acknowledged_by call) (acknowledged calls ++ in_doubt calls))
        ∙ ap (Fold s) (sym (append_all (acknowledged_by call) (acknowledged calls) (in_doubt calls))
        ∙ ap (λ (l : List Asked). (acknowledged_by call ++ acknowledged calls) ++ l) same)

    -- and of one whose first call did, since the others do nothing
    stopped_first : acknowledged calls ≡ [] → Fold s (acknowledged_by call) ≡ Fold s (acknowledged (call ∷ calls))
    stopped_first none = ap (Fold s) (sym (second_none (acknowledged_by call) (acknowledged calls) none))

    stopped_second : is_stopped call ≡ true → acknowledged calls ≡ [] →
        Fold s (acknowledged_by call ++ doubted_by call) ≡ Fold s (acknowledged (call ∷ calls) ++ in_doubt (call ∷ calls))
    stopped_second stopped none =
        let same : doubted_by call ≡ in_doubt (call ∷ calls) = ap (λ b. cond b (doubted_by call) (in_doubt calls)) (sym stopped) in
        ap (Fold s) (ap (λ (l : List Asked). l ++ doubted_by call) (sym (second_none (acknowledged_by call) (acknowledged calls) none))
        ∙ ap (λ (l : List Asked). (acknowledged_by call ++ acknowledged calls) ++ l) same)

  pub reaches : (calls : List Call) (old new : Kept S) (s : State) → old.failed ≡ false → IsDurablyAt g old s → AreCalls g old calls new → Reached s calls new
  reaches [] old new s fresh at are =
      subst (λ (b : Kept S). CrashLeaves (state g b.held) (IsEitherKept s s)) (sym are) (one_of_either (state g old.held) s s at)
  reaches (call ∷ calls) old new s fresh at are =
      let mid = are.0 in
      let failed = are.1.failed in
      elim (call_reaches g call old mid s at are.1) [
        | inl calm ↦
            let fresh_still = failed_still old.failed (is_stopped call) mid.failed failed fresh calm.0 in
            let rest = reaches calls mid new (Fold s (acknowledged_by call)) fresh_still calm.1 are.2 in
            as_either (state g new.held) _ _ _ _ (first_state call calls s) (second_state call calls s calm.0) rest
        | inr doubt ↦
            let none = shut calls mid new (failed_now old.failed (is_stopped call) mid.failed failed fresh doubt.0) are.2 in
            let there = as_either (state g mid.held) _ _ _ _ (stopped_first call calls s none.1) (stopped_second call calls s doubt.0 none.1) doubt.1 in
            subst (λ (b : Kept S). Reached s (call ∷ calls) b) (sym none.0) there
      ]

  -- the answers are the machine's
  join_replies : (call : Call) (calls : List Call) (s : State) → call.answers ≡ Replies s (acknowledged_by call) →
      answers calls ≡ Replies (Fold s (acknowledged_by call)) (acknowledged calls) →
      answers (call ∷ calls) ≡ Replies s (acknowledged (call ∷ calls))
  join_replies call calls s first rest =
      ap (λ (l : List ReplyOrRefusal). l ++ answers calls) first
      ∙ ap (λ (l : List ReplyOrRefusal). Replies s (acknowledged_by call) ++ l) rest
      ∙ sym (replies_append s (acknowledged_by call) (acknowledged calls))

  none_replies : (s : State) (calls : List Call) → acknowledged calls ≡ [] → answers calls ≡ [] → answers calls ≡ Replies s (acknowledged calls)
  none_replies s calls none no_answers = no_answers ∙ ap (Replies s) (sym none)

  replies : (calls : List Call) (old new : Kept S) (s : State) → old.failed ≡ false → IsDurablyAt g old s → AreCalls g old calls new → IsClean g new →
      answers calls ≡ Replies s (acknowledged calls)
  replies [] old new s fresh at are clean = refl
  replies (call ∷ calls) old new s fresh at are clean =
      let mid = are.0 in
      let failed = are.1.failed in
      let here = call_replies g call old mid s at are.1 (clean_before calls mid new are.2 clean) in
      elim (call_reaches g call old mid s at are.1) [
        | inl calm ↦
            let fresh_still = failed_still old.failed (is_stopped call) mid.failed failed fresh calm.0 in
            join_replies call calls s here (replies calls mid new (Fold s (acknowledged_by call)) fresh_still calm.1 are.2 clean)
        | inr doubt ↦
            let none = shut calls mid new (failed_now old.failed (is_stopped call) mid.failed failed fresh doubt.0) are.2 in
            join_replies call calls s here (none_replies (Fold s (acknowledged_by call)) calls none.1 none.2)
      ]

  all_acknowledged : (calls : List Call) (old new : Kept S) → AreCalls g old calls new → All (acknowledged calls)
  all_acknowledged [] old new are = tt
  all_acknowledged (call ∷ calls) old new are =
      all_append (acknowledged_by call) (acknowledged calls) (call_acknowledges g call old are.0 are.1) (all_acknowledged calls are.0 new are.2)

  all_in_doubt : (calls : List Call) (old new : Kept S) → AreCalls g old calls new → All (in_doubt calls)
  all_in_doubt [] old new are = tt
  all_in_doubt (call ∷ calls) old new are = elim (is_stopped call) as (λ b. All (cond b (doubted_by call) (in_doubt calls))) [
    | true ↦ call_doubts g call old are.0 are.1
    | false ↦ all_in_doubt calls are.0 new are.2
  ]

-- ---- Openings

-- An open connection leaves what it has committed, and nothing else; and any one leaves something: as stores promise.
abbrev pub Settled : {S : Type 0} → Ghosts S → Type 0
Settled {S} g = (it : S) (trees : Trees) → IsTrue (g.view it).is_open → g.recovers it trees → trees ≡ (g.view it).committed

abbrev pub Survives : {S : Type 0} → Ghosts S → Type 0
Survives {S} g = (it : S) → view.IsClean (g.view it) → ∥ ((trees : Trees) × g.recovers it trees) ∥₁

-- what a book was taken up over, at once or after openings that took none: trees that a crash of the first connection left. It is in the
-- state that they hold.
pub record IsOver {S : Type 0} (g : Ghosts S) (before : Held S) (book : Kept S) : Type 0 where
  pub clean : HasCleanDisk (state g before)
  pub trees : Trees
  pub left : (state g before).may_leave trees
  pub fresh : book.failed ≡ false
  pub at : (s : State) → HoldEither trees s → IsKept s → IsDurablyAt g book s

module _ {S : Type 0} (g : Ghosts S) (settled : Settled g) (survives : Survives g) where
  leaves_some : (held : Held S) → CrashLeavesSome (state g held)
  leaves_some held clean = survives held.store clean

  -- a connection that was just opened leaves what it shows
  opened_keeps : (before opened : Held S) → IsOpenedOver g before opened → (s : State) → HoldEither (state g opened).now.trees s → IsKept s → KeepsEither (state g opened) s
  opened_keeps before opened over s holds kept = record {
    kept = λ _. kept;
    leaves = record {
      crash = λ clean trees may.
          let opens = over.opens clean in
          let same : trees ≡ (state g opened).now.trees = settled opened.store trees opens.is_open may ∙ ap (λ (db : Database). db.trees) (sym opens.clean) in
          subst (λ (x : Trees). HoldEither x s) (sym same) holds;
    };
    some = leaves_some opened;
  }

  reopened_over : (refusals : ℕ) (before : Held S) (book : Kept S) → IsReopenedAfter g refusals before book → IsOver g before book
  reopened_over zero before book (opened, over, up) = record {
    clean = over.clean;
    trees = (state g opened).now.trees;
    left = over.left;
    fresh = up.fresh;
    at = λ s holds kept. up.kept s (opened_keeps before opened over s holds kept);
  }
  reopened_over (suc refusals) before book (opened, after, over, refused, rest) =
      let more = reopened_over refusals after book rest in
      record {
        clean = over.clean;
        trees = (state g opened).now.trees;
        left = over.left;
        fresh = more.fresh;
        at = λ s holds kept.
            let still = refused s (opened_keeps before opened over s holds kept) in
            more.at s (still.leaves.crash more.clean more.trees more.left) kept;
      }

  over : {before : Held S} {book : Kept S} → IsReopened g before book → IsOver g before book
  over {before} {book} it = reopened_over it.0 before book it.1

-- ---- The sessions of a life

pub record IsLived (trees : Trees) (s : State) (life : List (List Call)) : Type 0 where
  pub left : State
  pub holds : HoldBookOf trees left
  pub kept : IsKept left
  pub done : List (List Asked)
  pub are : AreDoneInTurn s life done
  pub fold : left ≡ Fold s (in_turn done)
  pub made : All (in_turn done)

-- what one of two states is left by
pub record IsOneOf (s t : State) (first second : List Asked) : Type 0 where
  pub done : List Asked
  pub which : (done ≡ first) ⊎ (done ≡ second)
  pub fold : t ≡ Fold s done

one_of : (s t : State) (first second : List Asked) → IsEither (Fold s first) (Fold s second) t → IsOneOf s t first second
one_of s t first second (inl is) = record { done = first; which = inl refl; fold = is }
one_of s t first second (inr is) = record { done = second; which = inr refl; fold = is }

module _ {S : Type 0} (g : Ghosts S) (settled : Settled g) (survives : Survives g) where
  clean_stopped : (later : List (List Call)) (stopped last : Kept S) → GoesOn g stopped later last → IsClean g last → IsClean g stopped
  clean_stopped [] stopped last on clean = subst (λ (b : Kept S). IsClean g b) on clean
  clean_stopped (calls ∷ later) stopped last on clean = (over g settled survives on.2).clean

  -- of one session, where a crash left this state
  module _ (calls : List Call) (old new : Kept S) (s t : State) (are : AreCalls g old calls new)
      (x : IsOneOf s t (acknowledged calls) (acknowledged calls ++ in_doubt calls)) where
    are_done : old.failed ≡ false → IsDurablyAt g old s → IsClean g new → AreDone s calls x.done
    are_done fresh at clean = record { all = x.which; replies = replies g calls old new s fresh at are clean }

    first_made : All (acknowledged calls)
    first_made = all_acknowledged g calls old new are

    are_made : All x.done
    are_made = elim x.which [
      | inl is ↦ subst All (sym is) first_made
      | inr is ↦ subst All (sym is) (all_append (acknowledged calls) (in_doubt calls) first_made (all_in_doubt g calls old new are))
    ]

  lived : (later : List (List Call)) (calls : List Call) (old stopped last : Kept S) (s : State) → old.failed ≡ false → IsDurablyAt g old s → AreCalls g old calls stopped →
      GoesOn g stopped later last → HasCleanDisk (state g last.held) → (trees : Trees) → (state g last.held).may_leave trees → IsLived trees s (calls ∷ later)
  lived [] calls old stopped last s fresh at are on clean trees may =
      let may_be : (state g stopped.held).may_leave trees = subst (λ (b : Kept S). (state g b.held).may_leave trees) on may in
      let is_clean = clean_stopped [] stopped last on clean in
      let it = (reaches g calls old stopped s fresh at are).crash is_clean trees may_be in
      let x = one_of s it.0 (acknowledged calls) (acknowledged calls ++ in_doubt calls) it.1.0 in
      record {
        left = it.0;
        holds = it.2;
        kept = it.1.1;
        done = x.done ∷ [];
        are = (are_done calls old stopped s it.0 are x fresh at is_clean, tt);
        fold = x.fold ∙ ap (Fold s) (sym (append_none x.done));
        made = all_append x.done [] (are_made calls old stopped s it.0 are x) tt;
      }
  lived (more ∷ later) calls old stopped last s fresh at are on clean trees may =
      let again = on.0 in
      let up = over g settled survives on.2 in
      let it = (reaches g calls old stopped s fresh at are).crash up.clean up.trees up.left in
      let x = one_of s it.0 (acknowledged calls) (acknowledged calls ++ in_doubt calls) it.1.0 in
      let begun : IsDurablyAt g again (Fold s x.done) = subst (λ (y : State). IsDurablyAt g again y) x.fold
      (up.at it.0 (inr it.2) it.1.1) in
      let rest = lived later more again on.1 last (Fold s x.done) up.fresh begun on.3 on.4 clean trees may in
      record {
        left = rest.left;
        holds = rest.holds;
        kept = rest.kept;
        done = x.done ∷ rest.done;
        are = (are_done calls old stopped s it.0 are x fresh at up.clean, rest.are);
        fold = rest.fold ∙ sym (fold_append s x.done (in_turn rest.done));
        made = all_append x.done (in_turn rest.done) (are_made calls old stopped s it.0 are x) rest.made;
      }

  -- a book begins as one that was made, or taken up from a file
  begins : (begin : State) (made : Kept S) → IsMadeAt g begin made ⊎ IsFoundAt g begin made → IsMadeAt g begin made
  begins begin made (inl is) = is
  begins begin made (inr (file, keeps, up)) =
      let it = over g settled survives up in
      (it.fresh, it.at begin (keeps.leaves.crash it.clean it.trees it.left) (keeps.kept it.clean))

-- ---- Whole lives

module _ {S : Type 0} (g : Ghosts S) (settled : Settled g) (survives : Survives g) (begin : State) (calls : List Call) (later : List (List Call)) (last : Kept S)
    (life : Life g begin calls later last) where
  begun : IsMadeAt g begin life.made
  begun = begins g settled survives begin life.made life.begun

  -- what a crash left is left of the life
  left_of : HasCleanDisk (state g last.held) → (trees : Trees) → (state g last.held).may_leave trees → (it : IsLived trees begin (calls ∷ later)) × IsLeftOf begin (calls ∷ later) it.left
  left_of clean trees may =
      let it = lived g settled survives later calls life.made life.left last begin begun.0 begun.1 life.first life.more clean trees may in
      let was_clean = clean_before g calls life.made life.left life.first (clean_stopped g settled survives later life.left last life.more clean) in (
        it,
        record {
          done = it.done;
          are = it.are;
          fold = it.fold;
          honest = λ honest. subst Honest (sym it.fold)
              (stays_honest keeps_sound keeps_honest begin (in_turn it.done) (each_of (in_turn it.done) it.made) (begun.1.kept was_clean).sound honest);
        },
      )

pub each_life_holds : {S : Type 0} (g : Ghosts S) → Settled g → Survives g → EachLifeHolds g
each_life_holds g settled survives begin calls later last life = (
  record {
    crash = λ clean trees may.
        let it = left_of g settled survives begin calls later last life clean trees may in
        (it.0.left, it.1, it.0.holds);
  },
  leaves_some g settled survives last.held,
)

pub each_is_found_again : {S : Type 0} (g : Ghosts S) → Settled g → Survives g → EachIsFoundAgain g
each_is_found_again g settled survives = record {
  lived = λ begin calls later last life opened is_over.
      let it = left_of g settled survives begin calls later last life is_over.clean (state g opened).now.trees is_over.left in
      (it.0.left, opened_keeps g settled survives last.held opened is_over it.0.left (inr it.0.holds) it.0.kept, it.1);
  kept = λ before opened s keeps is_over.
      opened_keeps g settled survives before opened is_over s (keeps.leaves.crash is_over.clean (state g opened).now.trees is_over.left) (keeps.kept is_over.clean);
}
