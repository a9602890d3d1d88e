-- Which pairings are near some spans, by the times of their periods.
use Rattle.std.specs.Prelude.{◌≡◌, ℕ, Bool, true, List, map, None, Some}
use Rattle.std.specs.FinMap as fin
use Rattle.std.specs.List.{Contains, list_any}
use Rattle.duty.specs.declared.span.Span.{Span}
use Rattle.limits.specs.Reach.{is_reached}
use Rattle.roster.specs.Holding.{AreJust}
use Rattle.roster.specs.Pairings.{holds, periods_in_force}
use Rattle.roster.specs.State.{State}
use Rattle.roster.specs.declared.state.PairingEntry.{PairingEntry}

-- the times of a pairing's periods, from report to release as they were flown or else planned
abbrev pub period_times : PairingEntry → List Span
period_times r = map (λ f. record { from = f.report; to = f.release }) (periods_in_force r)

-- a pairing is near some spans if a window may have a minute of one of them and of one of the
-- pairing's periods
abbrev pub is_near : List Span → PairingEntry → Bool
is_near spans r = list_any (is_reached spans) (period_times r)

-- the member holds the pairing of this id, and it is near some spans
abbrev pub IsHeldNear : State → List Span → List ℕ → List ℕ → Type 0
IsHeldNear s spans who id =
    (r : PairingEntry) × (fin.get s.pairings id ≡ Some r) × (holds who r ≡ true)
    × (is_near spans r ≡ true)

-- the ids of some pairings
abbrev pub ids_of : List PairingEntry → List (List ℕ)
ids_of found = map (λ r. r.plan.id) found

-- a pairing as it is planned and flown, with its seats free
abbrev pub with_free_seats : PairingEntry → PairingEntry
with_free_seats r = record r { captain = None; first_officer = None }

-- each of these is a pairing of the state, but for who holds it
abbrev pub AreThere : State → List PairingEntry → Type 0
AreThere s found = (free : PairingEntry) → Contains found free →
    (r : PairingEntry) × (fin.get s.pairings free.plan.id ≡ Some r) × (free ≡ with_free_seats r)

-- these are just the pairings that the member holds and that are near some spans, in any order,
-- with their seats free
abbrev pub AreHeldNear : State → List Span → List ℕ → List PairingEntry → Type 0
AreHeldNear s spans who found = AreJust (IsHeldNear s spans who) (ids_of found) × AreThere s found
