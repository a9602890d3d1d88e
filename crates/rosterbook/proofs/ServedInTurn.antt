-- Connections that are over so far, up to one more.
use Rattle.std.proofs.Common.{◌≡◌, ◌≤◌, ◌<◌, ℕ, zero, suc, sum_by, length, arith, ◌+◌, ◌&&◌, true, false, Bool, List, [], ◌∷◌, ◌++◌, append-nil, refl, ap, sym, subst, ◌∙◌, length-append, inl, inr, Result, Ok, Err, IfOk, IfErr}
use Rattle.std.proofs.lemmas.List.{append_assoc}
use Rattle.std.proofs.lemmas.List.Sums.{sum_by_push}
use Rattle.std.specs.Io.KnownBytes.{Appends}
use Rattle.sqlite_trees.specs.declared.store.Store.{Ghosts}
use Rattle.book.specs.Calls.{IsAfterCalls}
use Rattle.book.specs.Kept.{Kept}
use Rattle.book.proofs.CallLemmas.{no_calls, then_calls}
use Rattle.waiting.specs.Answered.{InTurn}
use Rattle.waiting.specs.Rooms.{IsEmptied, IsOverNext, Outcome, connections_to_come, requests_to_come, untaken}
use Rattle.waiting.specs.declared.room.Room.{Room}
use Rattle.waiting.proofs.AnsweredLemmas.{had_not_failed, in_turn_more}
use Rattle.web.specs.Connections.{IsAnsweredBy, has_failed}
use Rattle.rosterbook.specs.Serving.{CutShort, HasEnded, HasFailure, IsServeDone, IsServeStopped, ServesBook, failure_line, failure_lines, port_line, status_of_serve}
use Rattle.rosterbook.specs.declared.status.Status.{Status}
use Rattle.rosterbook.specs.declared.stop.Stop.{Stop}
use Rattle.http_exchange.specs.Exchange.{ChannelBytes}
use Rattle.rosterbook.proofs.PartsAdded.{appends_both}
use Rattle.rosterbook.proofs.RefusalLemmas.{appends_nothing}

-- ---- The lines of failed connections

lines_more : (outcomes : List Outcome) (outcome : Outcome) → failure_lines (outcomes ++ outcome ∷ []) ≡ failure_lines outcomes ++ failure_line outcome
lines_more [] outcome = append-nil (failure_line outcome)
lines_more (x ∷ outcomes) outcome = ap (λ t. failure_line x ++ t) (lines_more outcomes outcome) ∙ sym (append_assoc (failure_line x) (failure_lines outcomes) (failure_line outcome))

both_told : (first second : Bool) → (first && second) ≡ true → (first ≡ true) × (second ≡ true)
both_told true true told = (refl, refl)
both_told true false told = absurd (cc)
both_told false second told = absurd (cc)

lines_so_far : (err err' err'' : ChannelBytes) (told told' : Bool) (outcomes : List Outcome) (outcome : Outcome) →
    (told ≡ true → Appends err err' (failure_lines outcomes)) → (told' ≡ true → Appends err' err'' (failure_line outcome)) →
    (told && told') ≡ true → Appends err err'' (failure_lines (outcomes ++ outcome ∷ []))
lines_so_far err err' err'' told told' outcomes outcome first second both =
    let each = both_told told told' both in
    subst (Appends err err'') (sym (lines_more outcomes outcome)) (appends_both err err' err'' _ _ (first each.0) (second each.1))

-- ---- A line that couldn't be written

failure_before : (outcomes more : List Outcome) → HasFailure outcomes → HasFailure (outcomes ++ more)
failure_before [] more none = absurd none
failure_before (Ok served ∷ outcomes) more there = failure_before outcomes more there
failure_before (Err fault ∷ outcomes) more there = tt

failure_last : (outcomes : List Outcome) (outcome : Outcome) → HasFailure (outcome ∷ []) → HasFailure (outcomes ++ outcome ∷ [])
failure_last [] outcome there = there
failure_last (Ok served ∷ outcomes) outcome there = failure_last outcomes outcome there
failure_last (Err fault ∷ outcomes) outcome there = tt

is_failure : (outcome : Outcome) (told : Bool) → IfOk outcome (λ _. told ≡ true) → told ≡ false → HasFailure (outcome ∷ [])
is_failure (Ok served) told fine lost = let never : true ≡ false = sym fine ∙ lost in absurd (cc)
is_failure (Err fault) told fine lost = tt

untold_so_far : (told told' : Bool) (outcomes : List Outcome) (outcome : Outcome) → (told ≡ false → HasFailure outcomes) → IfOk outcome (λ _. told' ≡ true) →
    (told && told') ≡ false → HasFailure (outcomes ++ outcome ∷ [])
untold_so_far false told' outcomes outcome first fine lost = failure_before outcomes (outcome ∷ []) (first refl)
untold_so_far true told' outcomes outcome first fine lost = failure_last outcomes outcome (is_failure outcome told' fine lost)

-- ---- One connection more

module _ {S : Type 0} (g : Ghosts S) where
  -- What is so once these outcomes came: as many connections are over, and so many requests may still
  -- be asked in the room.
  pub record IsServedSoFar (count over : ℕ) (room : Room) (old now : Kept S) (err err' : ChannelBytes) (told : Bool) : Type 0 where
    pub outcomes : List Outcome
    pub each : length outcomes ≡ over
    pub asked : ℕ
    pub answered : InTurn (IsAnsweredBy g) has_failed asked old now
    pub few : asked + sum_by untaken outcomes + requests_to_come room ≤ count
    pub is_open : has_failed now ≡ false → over + connections_to_come room ≡ count
    pub lines : told ≡ true → Appends err err' (failure_lines outcomes)
    pub untold : told ≡ false → HasFailure outcomes

  pub served_before : (count : ℕ) (room : Room) (book : Kept S) (err : ChannelBytes) → requests_to_come room ≡ count → connections_to_come room ≡ count → IsServedSoFar count 0 room book book err err true
  served_before count room book err requests connections = record {
    outcomes = [];
    each = refl;
    asked = 0;
    answered = refl;
    few = omega (arith, requests);
    is_open = λ fine. omega (arith, connections);
    lines = λ all. appends_nothing err;
    untold = λ lost. absurd (cc);
  }

  module _ (count over : ℕ) (room room' : Room) (old now new : Kept S) (outcome : Outcome) (err err' err'' : ChannelBytes) (told told' : Bool) where
    pub one_served : IsServedSoFar count over room old now err err' told → IsOverNext (IsAnsweredBy g) has_failed room room' now new outcome →
        (told' ≡ true → Appends err' err'' (failure_line outcome)) → IfOk outcome (λ _. told' ≡ true) → IsServedSoFar count (over + 1) room' old new err err'' (told && told')
    one_served so_far next line fine = record {
      outcomes = so_far.outcomes ++ outcome ∷ [];
      each = length-append so_far.outcomes _ ∙ ap (λ n. n + 1) so_far.each;
      asked = so_far.asked + next.asked;
      answered = in_turn_more (IsAnsweredBy g) has_failed so_far.asked next.asked old now new so_far.answered next.answered;
      few = omega (arith, so_far.few, next.few, sum_by_push untaken so_far.outcomes outcome);
      is_open = λ well. omega (arith, next.one well, so_far.is_open (had_not_failed (IsAnsweredBy g) has_failed next.asked now new next.answered well));
      lines = lines_so_far err err' err'' told told' so_far.outcomes outcome so_far.lines line;
      untold = untold_so_far told told' so_far.outcomes outcome so_far.untold fine;
    }

  pub serves_book : (count over : ℕ) (room : Room) (old new : Kept S) (err err' : ChannelBytes) (told : Bool) (it : IsServedSoFar count over room old new err err' told) → ServesBook g count it.outcomes old new err err' told
  serves_book count over room old new err err' told it = record { asked = it.asked; answered = it.answered; few = omega (arith, it.few); lines = it.lines; untold = it.untold }

  -- all connections are over
  pub all_over : (count over : ℕ) (room : Room) (old new : Kept S) (err err' : ChannelBytes) (told failed : Bool) → IsServedSoFar count over room old new err err' told → over ≡ count →
      failed ≡ has_failed new → HasEnded g count old new err err' told failed
  all_over count over room old new err err' told false it all is = ((it.outcomes, it.each ∙ all, serves_book count over room old new err err' told it), sym is)
  all_over count over room old new err err' told true it all is = (it.outcomes, omega (arith, it.each, all), serves_book count over room old new err err' told it, sym is)

  none_left : (count over : ℕ) (room room' : Room) (old now new : Kept S) (err err' : ChannelBytes) (told failed : Bool) → IsServedSoFar count over room old now err err' told → over < count →
      IsEmptied (IsAnsweredBy g) has_failed room room' now new → failed ≡ has_failed new → failed ≡ true
  none_left count over room room' old now new err err' told true it within emptied is = refl
  none_left count over room room' old now new err err' told false it within emptied is =
      let well : has_failed new ≡ false = sym is in
      let left = it.is_open (had_not_failed (IsAnsweredBy g) has_failed emptied.asked now new emptied.answered well) in
      absurd (omega (arith, left, emptied.none well, within))

  -- no connection is left before all are over, so that the store has failed
  pub cut_short : (count over : ℕ) (room room' : Room) (old now new : Kept S) (err err' : ChannelBytes) (told : Bool) → IsServedSoFar count over room old now err err' told → over < count →
      IsEmptied (IsAnsweredBy g) has_failed room room' now new → CutShort g count old new err err' told
  cut_short count over room room' old now new err err' told it within emptied = (
    it.outcomes,
    omega (arith, it.each, within),
    record {
      asked = it.asked + emptied.asked;
      answered = in_turn_more (IsAnsweredBy g) has_failed it.asked emptied.asked old now new it.answered emptied.answered;
      few = omega (arith, it.few, emptied.few);
      lines = it.lines;
      untold = it.untold;
    },
    none_left count over room room' old now new err err' told (has_failed new) it within emptied refl,
  )

-- ---- How serving ended

module _ {S : Type 0} (g : Ghosts S) (port count : ℕ) (old new : Kept S) (out out' err err' : ChannelBytes) where
  ends : (told failed : Bool) → Appends out out' (port_line port) → HasEnded g count old new err err' told failed →
      IfOk (status_of_serve failed told) (IsServeDone g port count old new out out' err err')
      × IfErr (status_of_serve failed told) (IsServeStopped g port count old new out out' err err')
  ends told true listens it = (tt, inr (inr (refl, listens, (told, it))))
  ends true false listens it = (record { ends = refl; listens = listens; served = it.0; well = it.1 }, tt)
  ends false false listens it = (tt, inr (inl (refl, listens, it.0, it.1)))

  pub ended_as : (told failed : Bool) (done : Result Status Stop) → done ≡ status_of_serve failed told → Appends out out' (port_line port) →
      HasEnded g count old new err err' told failed →
      IfOk done (IsServeDone g port count old new out out' err err') × IfErr done (IsServeStopped g port count old new out out' err err')
  ended_as told failed done is listens it = rw is (ends told failed listens it)

-- a book that answered requests was called
module _ {S : Type 0} (g : Ghosts S) where
  calls_in_turn : (n : ℕ) (old new : Kept S) → InTurn (IsAnsweredBy g) has_failed n old new → IsAfterCalls g old new
  calls_in_turn zero old new same = no_calls g same
  calls_in_turn (suc n) old new (fine, next, (request, response, result, answered), rest) = then_calls g answered.once.calls (calls_in_turn n next new rest)

  pub calls_of_ended : (count : ℕ) (old new : Kept S) (err err' : ChannelBytes) (told failed : Bool) → HasEnded g count old new err err' told failed → IsAfterCalls g old new
  calls_of_ended count old new err err' told false ((outcomes, each, it), well) = calls_in_turn it.asked old new it.answered
  calls_of_ended count old new err err' told true (outcomes, fewer, it, failed) = calls_in_turn it.asked old new it.answered
