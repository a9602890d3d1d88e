-- The session that a call adds.
use Rattle.std.proofs.Common.{◌≡◌, ◌≤◌, ◌<◌, ◌⊎◌, inl, inr, refl, sym, ap, subst, ◌∙◌, arith, ℕ, zero, suc, ◌+◌, List, [], ◌∷◌, ◌++◌, length, take, Option, Some, None, Result, Ok, Err, OnOk}
use Rattle.std.proofs.lemmas.List.{length-take-le}
use Rattle.std.proofs.lemmas.Bool.{cases_lt}
use Rattle.sqlite.specs.State as conn
use Rattle.roster.specs.Folds.{Asked, Fold, Session, Stopped, next}
use Rattle.roster.specs.State.{State}
use Rattle.state_rows.specs.declared.fault.StoreFault.{StoreFault}
use Rattle.state_rows.specs.declared.fault.StoreFault.TheVariants.{Store, Memory}
use Rattle.state_rows.specs.Outcomes.{CrashLeaves, IsEither}
use Rattle.book.specs.Kept.{Ends, IsKept, Keeps, IsEitherKept}
use Rattle.book.specs.Sessions.{IsAfter, count_of, fault_of}

stopped_append : (s : State) (l : List Session) (x : Session) → Stopped s (l ++ x ∷ []) ≡ Fold (Stopped s l) (take x.done x.asked)
stopped_append s [] x = refl
stopped_append s (y ∷ l) x = stopped_append (Fold s (take y.done y.asked)) l x

pub take_whole : {A : Type 0} (xs : List A) → take (length xs) xs ≡ xs
take_whole [] = refl
take_whole (x ∷ xs) = ap (λ t. x ∷ t) (take_whole xs)

take_within : {A : Type 0} (xs : List A) (m n : ℕ) → m ≤ n → take m (take n xs) ≡ take m xs
take_within xs zero n h = refl
take_within [] (suc m) zero h = refl
take_within [] (suc m) (suc n) h = refl
take_within (x ∷ xs) (suc m) zero h = absurd (omega arith)
take_within (x ∷ xs) (suc m) (suc n) h = ap (λ t. x ∷ t) (take_within xs m n (omega arith))

take_past : {A : Type 0} (xs : List A) (n : ℕ) → length xs ≤ n → take n xs ≡ xs
take_past [] zero h = refl
take_past [] (suc n) h = refl
take_past (x ∷ xs) zero h = absurd (omega arith)
take_past (x ∷ xs) (suc n) h = ap (λ t. x ∷ t) (take_past xs n (omega arith))

module _ (s : State) (before : List Session) (l : List Asked) (n : ℕ) (t : State) (count : n ≤ length l) (kept : IsKept t) where
  -- all were answered
  all_done : n ≡ length l → t ≡ Fold (Stopped s before) l → IsAfter s before l n None t
  all_done whole is =
      let x : Session = record {
        asked = l;
        answered = n;
        done = length l;
        last_in_doubt = inl whole;
        answered_done = omega (arith, whole);
        asked_first = omega arith;
      } in
      record { session = x; asked = refl; answered = refl; kept = kept; left = is ∙ ap (Fold (Stopped s before)) (sym (take_whole l)) ∙ sym (stopped_append s before x) }

  -- one ran out of memory
  some_done : t ≡ Fold (Stopped s before) (take n l) → IsAfter s before l n (Some Memory) t
  some_done is =
      let counted : length (take n l) ≡ n = length-take-le n l count in
      let x : Session = record {
        asked = take n l;
        answered = n;
        done = n;
        last_in_doubt = inl (sym counted);
        answered_done = omega arith;
        asked_first = omega (arith, counted);
      } in
      record { session = x; asked = refl; answered = refl; kept = kept; left = is ∙ ap (Fold (Stopped s before)) (sym (take_within l n n (omega arith))) ∙ sym (stopped_append s before x) }

  -- one is in doubt
  doubt : (n < length l) ⊎ (length l ≤ n) → (n ≡ length (take (n + 1) l)) ⊎ (n + 1 ≡ length (take (n + 1) l))
  doubt (inl within) = inr (sym (length-take-le (n + 1) l (omega arith)))
  doubt (inr past) = inl (let e = ap length (take_past l (n + 1) (omega arith)) in omega (arith, e, count))

  reaches : (n ≡ length (take (n + 1) l)) ⊎ (n + 1 ≡ length (take (n + 1) l)) → n ≤ length (take (n + 1) l)
  reaches (inl is) = omega (arith, is)
  reaches (inr is) = omega (arith, is)

  undone : t ≡ Fold (Stopped s before) (take n l) → IsAfter s before l n (Some Store) t
  undone is =
      let last = doubt (cases_lt n (length l)) in
      let x : Session = record {
        asked = take (n + 1) l;
        answered = n;
        done = n;
        last_in_doubt = last;
        answered_done = omega arith;
        asked_first = reaches last;
      } in
      record { session = x; asked = refl; answered = refl; kept = kept; left = is ∙ ap (Fold (Stopped s before)) (sym (take_within l n (n + 1) (omega arith))) ∙ sym (stopped_append s before x) }

  done : t ≡ Fold (Stopped s before) (take (n + 1) l) → IsAfter s before l n (Some Store) t
  done is =
      let last = doubt (cases_lt n (length l)) in
      let x : Session = record {
        asked = take (n + 1) l;
        answered = n;
        done = length (take (n + 1) l);
        last_in_doubt = last;
        answered_done = reaches last;
        asked_first = omega arith;
      } in
      record { session = x; asked = refl; answered = refl; kept = kept; left = is ∙ ap (Fold (Stopped s before)) (sym (take_whole (take (n + 1) l))) ∙ sym (stopped_append s before x) }

  done_or_not : IsEither (Fold (Stopped s before) (take n l)) (Fold (Stopped s before) (take (n + 1) l)) t → IsAfter s before l n (Some Store) t
  done_or_not (inl is) = undone is
  done_or_not (inr is) = done is

module _ (now : conn.State) (s : State) (before : List Session) (l : List Asked) (n : ℕ) (count : n ≤ length l) where
  pub adds_session : (fault : Option StoreFault) → (fault ≡ None → n ≡ length l) → Ends now (Stopped s before) l n fault → CrashLeaves now (IsAfter s before l n fault)
  adds_session None whole ends = record {
    crash = λ clean trees may.
        let it = ends.leaves.crash clean trees may in
        (it.0, all_done s before l n it.0 count (subst IsKept (sym it.1) (ends.kept clean)) (whole refl) it.1, it.2);
  }
  adds_session (Some Memory) whole ends = record {
    crash = λ clean trees may.
        let it = ends.leaves.crash clean trees may in
        (it.0, some_done s before l n it.0 count (subst IsKept (sym it.1) (ends.kept clean)) it.1, it.2);
  }
  adds_session (Some Store) whole ends = record {
    crash = λ clean trees may.
        let it = ends.crash clean trees may in
        (it.0, done_or_not s before l n it.0 count it.1.1 it.1.0, it.2);
  }

-- ---- One command

module _ (now : conn.State) (s : State) (a : Asked) where
  pub one_ends : {A : Type 0} (result : Result A StoreFault) → OnOk result (Keeps now (next s a)) → (result ≡ Err Memory → Keeps now s) → (result ≡ Err Store → CrashLeaves now (IsEitherKept s (next s a))) →
      Ends now s (a ∷ []) (count_of result) (fault_of result)
  one_ends (Ok x) answered memory store = answered
  one_ends (Err Memory) answered memory store = memory refl
  one_ends (Err Store) answered memory store = store refl

one_counts : {A : Type 0} (a : Asked) (result : Result A StoreFault) → count_of result ≤ length (a ∷ [])
one_counts a (Ok x) = omega arith
one_counts a (Err fault) = omega arith

one_whole : {A : Type 0} (a : Asked) (result : Result A StoreFault) → fault_of result ≡ None → count_of result ≡ length (a ∷ [])
one_whole a (Ok x) is = refl
one_whole a (Err fault) is = absurd (cc)

pub adds_one : {A : Type 0} (now : conn.State) (s : State) (before : List Session) (a : Asked) (result : Result A StoreFault) →
    OnOk result (Keeps now (next (Stopped s before) a)) → (result ≡ Err Memory → Keeps now (Stopped s before)) → (result ≡ Err Store → CrashLeaves now (IsEitherKept (Stopped s before) (next (Stopped s before) a))) →
    CrashLeaves now (IsAfter s before (a ∷ []) (count_of result) (fault_of result))
adds_one now s before a result answered memory store =
    adds_session now s before (a ∷ []) (count_of result) (one_counts a result) (fault_of result) (one_whole a result) (one_ends now (Stopped s before) a result answered memory store)
