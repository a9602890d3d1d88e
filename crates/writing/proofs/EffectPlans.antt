-- Pairings whose plans and actuals stay have the same rows, but for those of seats.
use Rattle.std.proofs.Common.{◌≡◌, sym, ap, ◌∙◌, ℕ, List, Some, slice_get}
use Rattle.std.specs.FinMap as fin
use Rattle.values.specs.Name.{name_cmp}
use Rattle.sqlite_value.specs.Order.{Row}
use Rattle.roster.specs.State.{State}
use Rattle.roster.specs.declared.state.PairingEntry.{PairingEntry}
use Rattle.state_rows.specs.Rows.{PeriodOf, InPairing, InPeriod, InSegment}

abbrev pub Pairings : Type 0
Pairings = fin.FinMap name_cmp PairingEntry

-- the same plan and actuals
pub record SamePlan (r q : PairingEntry) : Type 0 where
  pub plan : r.plan ≡ q.plan
  pub actuals : r.actuals ≡ q.actuals

pub record Found (n : Pairings) (id : List ℕ) (r : PairingEntry) : Type 0 where
  pub other : PairingEntry
  pub there : fin.get n id ≡ Some other
  pub same : SamePlan r other

-- each pairing of the first has its plan and actuals in the second
abbrev pub SamePlans : Pairings → Pairings → Type 0
SamePlans m n = (id : List ℕ) (r : PairingEntry) → fin.get m id ≡ Some r → Found n id r

abbrev with_pairings : State → Pairings → State
with_pairings s n = record s { pairings = n }

abbrev moved : (r q : PairingEntry) → SamePlan r q → PeriodOf r → PeriodOf q
moved r q same p = record {
  place = p.place;
  fdp = p.fdp;
  actual = p.actual;
  planned = ap (λ x. slice_get x.periods p.place) (sym same.plan) ∙ p.planned;
  flown = ap (λ x. slice_get x p.place) (sym same.actuals) ∙ p.flown;
}

module _ (s : State) (n : Pairings) (told : SamePlans s.pairings n) (row : Row) where
  pub pairing_told : InPairing s row → InPairing (with_pairings s n) row
  pairing_told h =
      let it = told h.0.name h.0.value h.0.there in
      (record { name = h.0.name; value = it.other; there = it.there }, h.1)

  pub period_told : InPeriod s row → InPeriod (with_pairings s n) row
  period_told h =
      let it = told h.0.name h.0.value h.0.there in
      (record { name = h.0.name; value = it.other; there = it.there }, moved h.0.value it.other it.same h.1, h.2)

  pub segment_told : InSegment s row → InSegment (with_pairings s n) row
  segment_told h =
      let it = told h.0.name h.0.value h.0.there in
      (record { name = h.0.name; value = it.other; there = it.there }, moved h.0.value it.other it.same h.1, h.2, h.3)
