-- What a room does, turn by turn.
use Rattle.std.proofs.Common.{◌≡◌, ◌≤◌, ◌<◌, ℕ, Bool, true, false, List, [], ◌∷◌, length, get_or, set, refl, sym, ◌∙◌, subst, Result, arith, sum_by}
use Rattle.std.specs.List.{items_where_true}
use Rattle.std.proofs.lemmas.List.Sums.{sum_by-cons, sum_by-set}
use Rattle.http_exchange.specs.declared.exchanges.Served.{Served}
use Rattle.http_exchange.specs.declared.sending.ChannelFault.{ChannelFault}
use Rattle.waiting.specs.Answered.{AnswersOver}
use Rattle.waiting.specs.Rooms.{IsEmptied, IsOneFewer, IsOverNext, Outcome, KeepsConnections, connections_to_come, requests_over, requests_to_come}
use Rattle.waiting.specs.declared.connection.Connection.{Connection}
use Rattle.waiting.specs.declared.room.Room.{Room}
use Rattle.waiting.proofs.AnsweredLemmas.{answered_more, had_not_failed}

-- ---- One connection fewer

pub still_open : (room : Room) → KeepsConnections room room
still_open room = record { requests = refl; connections = refl }

pub then_open : (old now new : Room) → KeepsConnections old now → KeepsConnections now new → KeepsConnections old new
then_open old now new first more = record { requests = more.requests ∙ first.requests; connections = more.connections ∙ first.connections }

pub then_fewer : (old now new : Room) (outcome : Outcome) → KeepsConnections old now → IsOneFewer now new outcome → IsOneFewer old new outcome
then_fewer old now new outcome first it = record { few = omega (arith, it.few, first.requests); one = sym first.connections ∙ it.one }

-- ---- One turn after the other

module _ {K : Type 0} (answers : K → K → List ℕ → List ℕ → Result Served ChannelFault → Type 0) (fails : K → Bool) where
  -- what is so of a room after some turns, if no connection was over
  pub record IsSoFar (start now : Room) (kept kept' : K) : Type 0 where
    pub answered : AnswersOver answers fails (requests_to_come start) (requests_to_come now) kept kept'
    pub is_open : fails kept' ≡ false → connections_to_come now ≡ connections_to_come start

  pub at_first : (start : Room) (kept : K) → IsSoFar start start kept kept
  at_first start kept = record { answered = (0, refl, omega arith); is_open = λ fine. refl }

  -- it is closed if what is kept has failed
  pub closed_if : (start now closed : Room) (kept kept' : K) (failed : Bool) → IsSoFar start now kept kept' → failed ≡ fails kept' → requests_to_come closed ≤ requests_to_come now →
      (failed ≡ false → closed ≡ now) → IsSoFar start closed kept kept'
  closed_if start now closed kept kept' failed it is few same = record {
    answered = (it.answered.0, it.answered.1, omega (arith, it.answered.2, few));
    is_open = λ fine. subst (λ room. connections_to_come room ≡ connections_to_come start) (sym (same (is ∙ fine))) (it.is_open fine);
  }

  pub one_over : (start now new : Room) (kept kept' : K) (outcome : Outcome) → IsSoFar start now kept kept' → IsOneFewer now new outcome → IsOverNext answers fails start new kept kept' outcome
  one_over start now new kept kept' outcome it fewer = record {
    asked = it.answered.0;
    answered = it.answered.1;
    few = omega (arith, it.answered.2, fewer.few);
    one = λ fine. omega (arith, it.is_open fine, fewer.one);
  }

  pub none_left : (start now new : Room) (kept kept' : K) → IsSoFar start now kept kept' → KeepsConnections now new → connections_to_come now ≡ 0 → IsEmptied answers fails start new kept kept'
  none_left start now new kept kept' it stays none = record {
    asked = it.answered.0;
    answered = it.answered.1;
    few = omega (arith, it.answered.2, stays.requests);
    none = λ fine. omega (arith, it.is_open fine, none);
  }

  pub turned : (start now next new : Room) (kept kept' kept'' : K) → IsSoFar start now kept kept' → KeepsConnections now next →
      AnswersOver answers fails (requests_to_come next) (requests_to_come new) kept' kept'' → connections_to_come new ≡ connections_to_come next → IsSoFar start new kept kept''
  turned start now next new kept kept' kept'' it stays answered same = record {
    answered = answered_more answers fails (requests_to_come start) (requests_to_come now) (requests_to_come new) kept kept' kept'' it.answered
        (answered.0, answered.1, omega (arith, answered.2, stays.requests));
    is_open = λ fine. omega (arith, same, stays.connections, it.is_open (had_not_failed answers fails answered.0 kept' kept'' answered.1 fine));
  }

  -- ---- Each connection in turn

  pub one_gone_on : (before now : List Connection) (i : ℕ) (d new : Connection) (kept kept' kept'' : K) →
      AnswersOver answers fails (sum_by requests_over before) (sum_by requests_over now) kept kept' → i < length now →
      AnswersOver answers fails (requests_over (get_or now i d)) (requests_over new) kept' kept'' →
      AnswersOver answers fails (sum_by requests_over before) (sum_by requests_over (set now i new)) kept kept''
  one_gone_on before now i d new kept kept' kept'' so_far within (n, answered, few) =
      let moved = sum_by-set requests_over now i new d within in
      answered_more answers fails (sum_by requests_over before) (sum_by requests_over now) (sum_by requests_over (set now i new)) kept kept' kept'' so_far
      (n, answered, omega (arith, few, moved))

-- ---- Connections that are let go

-- what is left of connections asks no more than all
pub kept_few : (bs : List Bool) (all : List Connection) → sum_by requests_over (items_where_true bs all) ≤ sum_by requests_over all
kept_few [] all = omega arith
kept_few (b ∷ bs) [] = omega arith
kept_few (true ∷ bs) (x ∷ all) = omega (arith, kept_few bs all, sum_by-cons requests_over x all, sum_by-cons requests_over x (items_where_true bs all))
kept_few (false ∷ bs) (x ∷ all) = omega (arith, kept_few bs all, sum_by-cons requests_over x all)
