-- What a new pairing, and a pairing that goes, make of the rows of a state.
use Rattle.std.proofs.Common.{◌≡◌, ◌⊎◌, ◌↔◌, inl, inr, sym, ap, subst, ◌∙◌, arith, ℕ, ◌+◌, List, [], ◌∷◌, Some, None, Bool, false, ◌||◌, is_some, slice_get, option_map}
use Rattle.std.specs.FinMap as fin
use Rattle.std.proofs.lemmas.Bool.{true≢false, or_right}
use Rattle.std.proofs.lemmas.Option.{slice_get-map}
use Rattle.sqlite_value.specs.declared.value.Value.TheVariants.{Text}
use Rattle.sqlite_value.specs.Order.{Row, column}
use Rattle.sqlite.specs.Effect.{Database}
use Rattle.duty.specs.Plans.{Plan}
use Rattle.duty.specs.declared.fdp.Fdp.{Fdp}
use Rattle.duty.specs.declared.segment.Segment.{Segment}
use Rattle.command.specs.declared.member.Seat.{Seat}
use Rattle.command.specs.declared.member.Seat.TheVariants.{Captain, FirstOfficer}
use Rattle.roster.proofs.Accepted.{inserted, insert_here, insert_keeps, removed, remove_elsewhere}
use Rattle.roster.specs.Pairings.{holder, is_crewed, unheld}
use Rattle.roster.specs.State.{State}
use Rattle.roster.specs.declared.state.PairingEntry.{PairingEntry}
use Rattle.tables.specs.Rows.{begins_with}
use Rattle.writing.specs.Calls.{IsFit}
use Rattle.state_rows.specs.Rows.{StateTable, crew, pairing, period, segment, seat, At, PeriodOf, SegmentOf, InTable, InPairing, InPeriod, InSegment, InSeat, Rows, row_of_pairing, row_of_period, row_of_segment}
use Rattle.writing.specs.Writing.{AddsPairing, RemovesPairing}
use Rattle.writing.proofs.Growing.{SomeOf, placed, some_of, each_grows}
use Rattle.state_rows.proofs.Lists.{one_value}
use Rattle.writing.proofs.Sets as sets
use Rattle.writing.proofs.Tables.{fit_after, inserts_keep, deletes_keep}
use Rattle.state_rows.proofs.Tests.{fails, others}
use Rattle.state_rows.proofs.Values.{text_is}

from_zero : (n : ℕ) → 0 + n ≡ n
from_zero n = omega arith

-- ---- A new pairing

abbrev NewPeriod : List ℕ → ℕ → Fdp → Row → Type 0
NewPeriod id place fdp x = x ≡ row_of_period id place fdp None

abbrev NewSegment : List ℕ → ℕ → ℕ → Segment → Row → Type 0
NewSegment id place at g x = x ≡ row_of_segment id place at g None

abbrev NewSegments : List ℕ → ℕ → Fdp → Row → Type 0
NewSegments id place fdp = SomeOf (NewSegment id place) 0 fdp.segments

-- no period of a new pairing is flown
none_flown : (plan : Plan) (place : ℕ) (fdp : Fdp) → slice_get plan.periods place ≡ Some fdp → slice_get (unheld plan).actuals place ≡ Some None
none_flown plan place fdp at = slice_get-map (λ _. None) plan.periods place ∙ ap (option_map (λ _. None)) at

-- and no seat is held
none_held : (plan : Plan) (a : Seat) (who : List ℕ) → holder a (unheld plan) ≡ Some who → ⊥
none_held plan Captain who e = cc
none_held plan FirstOfficer who e = cc

module _ (s : State) (plan : Plan) (free : fin.get s.pairings plan.id ≡ None) where
  abbrev added : State
  added = record s { pairings = fin.insert s.pairings plan.id (unheld plan) }

  abbrev new_at : At added.pairings
  new_at = record { name = plan.id; value = unheld plan; there = insert_here s.pairings plan.id (unheld plan) }

  abbrev still : At s.pairings → At added.pairings
  still h = record { name = h.name; value = h.value; there = insert_keeps s.pairings plan.id (unheld plan) free h.name h.value h.there }

  abbrev new_period : (place : ℕ) (fdp : Fdp) → slice_get plan.periods place ≡ Some fdp → PeriodOf (unheld plan)
  new_period place fdp at = record { place = place; fdp = fdp; actual = None; planned = at; flown = none_flown plan place fdp at }

  pairing_added : (row : Row) → ((row ≡ row_of_pairing plan.id) ⊎ InPairing s row) ↔ InPairing added row
  pairing_added row = (
    λ h. elim h [ inl new ↦ (new_at, new) | inr was ↦ (still was.0, was.1) ],
    λ h. elim (inserted s.pairings plan.id (unheld plan) h.0.name h.0.value h.0.there) [
      | inl new ↦ inl (h.1 ∙ ap row_of_pairing new.0)
      | inr was ↦ inr (record { name = h.0.name; value = h.0.value; there = was.1 }, h.1)
    ],
  )

  periods_added : (row : Row) → (SomeOf (NewPeriod plan.id) 0 plan.periods row ⊎ InPeriod s row) ↔ InPeriod added row
  periods_added row = (
    λ h. elim h [
      | inl new ↦
          let it = placed (NewPeriod plan.id) 0 plan.periods row new in
          (new_at, new_period it.place it.value it.there, it.is ∙ ap (λ n. row_of_period plan.id n it.value None) (from_zero it.place))
      | inr was ↦ (still was.0, was.1, was.2)
    ],
    λ h. elim (inserted s.pairings plan.id (unheld plan) h.0.name h.0.value h.0.there) [
      | inl new ↦
          let p = subst PeriodOf (sym new.1) h.1 in
          let planned : slice_get plan.periods h.1.place ≡ Some h.1.fdp = ap (λ (r : PairingEntry). slice_get r.plan.periods h.1.place) new.1 ∙ h.1.planned in
          let flown : None ≡ h.1.actual = one_value (none_flown plan h.1.place h.1.fdp planned) (ap (λ (r : PairingEntry). slice_get r.actuals h.1.place) new.1 ∙ h.1.flown) in
          let is : row ≡ row_of_period plan.id (0 + h.1.place) h.1.fdp None =
          h.2 ∙ (λ i. row_of_period (new.0 i) (sym (from_zero h.1.place) i) h.1.fdp (sym flown i)) in
          inl (some_of (NewPeriod plan.id) 0 plan.periods row h.1.place h.1.fdp planned is)
      | inr was ↦ inr (record { name = h.0.name; value = h.0.value; there = was.1 }, h.1, h.2)
    ],
  )

  segments_added : (row : Row) → (SomeOf (NewSegments plan.id) 0 plan.periods row ⊎ InSegment s row) ↔ InSegment added row
  segments_added row = (
    λ h. elim h [
      | inl new ↦
          let it = placed (NewSegments plan.id) 0 plan.periods row new in
          let g = placed (NewSegment plan.id (0 + it.place)) 0 it.value.segments row it.is in
          let of : SegmentOf it.value = record { place = g.place; segment = g.value; planned = g.there } in
          (new_at, new_period it.place it.value it.there, of, g.is ∙ (λ i. row_of_segment plan.id (from_zero it.place i) (from_zero g.place i) g.value None))
      | inr was ↦ (still was.0, was.1, was.2, was.3)
    ],
    λ h. elim (inserted s.pairings plan.id (unheld plan) h.0.name h.0.value h.0.there) [
      | inl new ↦
          let planned : slice_get plan.periods h.1.place ≡ Some h.1.fdp = ap (λ (r : PairingEntry). slice_get r.plan.periods h.1.place) new.1 ∙ h.1.planned in
          let flown : None ≡ h.1.actual = one_value (none_flown plan h.1.place h.1.fdp planned) (ap (λ (r : PairingEntry). slice_get r.actuals h.1.place) new.1 ∙ h.1.flown) in
          let is : row ≡ row_of_segment plan.id (0 + h.1.place) (0 + h.2.place) h.2.segment None =
          h.3 ∙ (λ i. row_of_segment (new.0 i) (sym (from_zero h.1.place) i) (sym (from_zero h.2.place) i) h.2.segment (Rattle.state_rows.specs.Rows.times_flown (sym flown i) h.2.place)) in
          inl (some_of (NewSegments plan.id) 0 plan.periods row h.1.place h.1.fdp planned
          (some_of (NewSegment plan.id (0 + h.1.place)) 0 h.1.fdp.segments row h.2.place h.2.segment h.2.planned is))
      | inr was ↦ inr (record { name = h.0.name; value = h.0.value; there = was.1 }, h.1, h.2, h.3)
    ],
  )

  seats_stay : (row : Row) → InSeat s row ↔ InSeat added row
  seats_stay row = (
    λ h. (still h.0, h.1, h.2),
    λ h. elim (inserted s.pairings plan.id (unheld plan) h.0.name h.0.value h.0.there) [
      | inl new ↦ absurd (none_held plan h.1.seat h.1.crew (ap (holder h.1.seat) new.1 ∙ h.1.held))
      | inr was ↦ (record { name = h.0.name; value = h.0.value; there = was.1 }, h.1, h.2)
    ],
  )

  abbrev first : sets.Sets
  first = sets.put pairing (λ x. (x ≡ row_of_pairing plan.id) ⊎ InPairing s x) (InTable s)

  abbrev second : sets.Sets
  second = sets.put period (λ x. SomeOf (NewPeriod plan.id) 0 plan.periods x ⊎ InPeriod s x) first

  abbrev third : sets.Sets
  third = sets.put segment (λ x. SomeOf (NewSegments plan.id) 0 plan.periods x ⊎ InSegment s x) second

  added_words : (name : StateTable) (row : Row) → third name row ↔ InTable added name row
  added_words pairing row = pairing_added row
  added_words period row = periods_added row
  added_words segment row = segments_added row
  added_words seat row = seats_stay row
  added_words name row = (λ h. h, λ h. h)

  pub plan_added : (old new : Database) → IsFit old → Rows s old → AddsPairing plan old new → Rows added new
  plan_added old new fit rows is =
      let one = is.0 in
      let two = is.2.0 in
      let fit_one = inserts_keep pairing (row_of_pairing plan.id) old one fit is.1 in
      let shows_one = sets.inserted pairing old one fit (InTable s) rows (row_of_pairing plan.id) is.1 in
      let periods = each_grows period _ (NewPeriod plan.id) (λ _ _ _ _ _ h. h) 0 plan.periods one two fit_one is.2.1 in
      let fit_two = fit_after one two fit_one period _ periods in
      let shows_two : sets.Shows second two = sets.changed period one two fit_one first shows_one _ _ periods (λ x. (
        λ h. elim h [ inl new ↦ inl new | inr was ↦ inr ((shows_one period x).0 was) ],
        λ h. elim h [ inl new ↦ inl new | inr was ↦ inr ((shows_one period x).1 was) ],
      )) in
      let segments = each_grows segment _ (NewSegments plan.id) (λ place fdp a b f h. each_grows segment _ (NewSegment plan.id place) (λ _ _ _ _ _ k. k) 0 fdp.segments a b f h) 0 plan.periods two new fit_two is.2.2 in
      let shows_three : sets.Shows third new = sets.changed segment two new fit_two second shows_two _ _ segments (λ x. (
        λ h. elim h [ inl new ↦ inl new | inr was ↦ inr ((shows_two segment x).0 was) ],
        λ h. elim h [ inl new ↦ inl new | inr was ↦ inr ((shows_two segment x).1 was) ],
      )) in
      sets.shows_as third (InTable added) new added_words shows_three

-- ---- A pairing that goes

uncrewed : (r : PairingEntry) → is_crewed r ≡ false → (a : Seat) (who : List ℕ) → holder a r ≡ Some who → ⊥
uncrewed r free Captain who e = true≢false (sym (ap (λ o. is_some o || is_some r.first_officer) e) ∙ free)
uncrewed r free FirstOfficer who e = true≢false (sym (or_right (is_some r.captain) (is_some r.first_officer) (ap is_some e)) ∙ free)

module _ (s : State) (id : List ℕ) (uncrewed_there : (r : PairingEntry) → fin.get s.pairings id ≡ Some r → is_crewed r ≡ false) where
  abbrev gone : State
  gone = record s { pairings = fin.remove s.pairings id }

  abbrev of_id : Row → Bool
  of_id = begins_with (Text id ∷ [])

  abbrev kept_at : (h : At s.pairings) → (h.name ≡ id → ⊥) → At gone.pairings
  kept_at h other = record { name = h.name; value = h.value; there = remove_elsewhere s.pairings id h.name other ∙ h.there }

  -- a row that the test leaves is of another pairing
  is_other : (name : List ℕ) (row : Row) → column row 0 ≡ Text name → of_id row ≡ false → name ≡ id → ⊥
  is_other name row first failed same = others (Text id ∷ []) row failed (first ∙ ap Text same, tt)

  is_left : (name : List ℕ) (row : Row) → column row 0 ≡ Text name → (name ≡ id → ⊥) → of_id row ≡ false
  is_left name row first other =
      fails (Text id ∷ []) row (subst Rattle.state_rows.proofs.Tests.IsPlain (sym first) tt, tt, tt) (λ c. other (text_is (sym first ∙ c.0)))

  pairing_gone : (row : Row) → (InPairing s row × (of_id row ≡ false)) ↔ InPairing gone row
  pairing_gone row = (
    λ h. (kept_at h.0.0 (is_other h.0.0.name row (ap (λ (r : Row). column r 0) h.0.1) h.1), h.0.1),
    λ h. let was = removed s.pairings id h.0.name h.0.value h.0.there in
        ((record { name = h.0.name; value = h.0.value; there = was.1 }, h.1), is_left h.0.name row (ap (λ (r : Row). column r 0) h.1) was.0),
  )

  periods_gone : (row : Row) → (InPeriod s row × (of_id row ≡ false)) ↔ InPeriod gone row
  periods_gone row = (
    λ h. (kept_at h.0.0 (is_other h.0.0.name row (ap (λ (r : Row). column r 0) h.0.2) h.1), h.0.1, h.0.2),
    λ h. let was = removed s.pairings id h.0.name h.0.value h.0.there in
        ((record { name = h.0.name; value = h.0.value; there = was.1 }, h.1, h.2), is_left h.0.name row (ap (λ (r : Row). column r 0) h.2) was.0),
  )

  segments_gone : (row : Row) → (InSegment s row × (of_id row ≡ false)) ↔ InSegment gone row
  segments_gone row = (
    λ h. (kept_at h.0.0 (is_other h.0.0.name row (ap (λ (r : Row). column r 0) h.0.3) h.1), h.0.1, h.0.2, h.0.3),
    λ h. let was = removed s.pairings id h.0.name h.0.value h.0.there in
        ((record { name = h.0.name; value = h.0.value; there = was.1 }, h.1, h.2, h.3), is_left h.0.name row (ap (λ (r : Row). column r 0) h.3) was.0),
  )

  held_elsewhere : (row : Row) → InSeat s row ↔ InSeat gone row
  held_elsewhere row = (
    λ h. (kept_at h.0 (λ e. uncrewed h.0.value (uncrewed_there h.0.value (ap (fin.get s.pairings) (sym e) ∙ h.0.there)) h.1.seat h.1.crew h.1.held), h.1, h.2),
    λ h. let was = removed s.pairings id h.0.name h.0.value h.0.there in (record { name = h.0.name; value = h.0.value; there = was.1 }, h.1, h.2),
  )

  abbrev left_first : sets.Sets
  left_first = sets.put segment (λ x. InSegment s x × (of_id x ≡ false)) (InTable s)

  abbrev left_second : sets.Sets
  left_second = sets.put period (λ x. InPeriod s x × (of_id x ≡ false)) left_first

  abbrev left_third : sets.Sets
  left_third = sets.put pairing (λ x. InPairing s x × (of_id x ≡ false)) left_second

  gone_words : (name : StateTable) (row : Row) → left_third name row ↔ InTable gone name row
  gone_words pairing row = pairing_gone row
  gone_words period row = periods_gone row
  gone_words segment row = segments_gone row
  gone_words seat row = held_elsewhere row
  gone_words name row = (λ h. h, λ h. h)

  pub pairing_removed : (old new : Database) → IsFit old → Rows s old → RemovesPairing id old new → Rows gone new
  pairing_removed old new fit rows is =
      let one = is.0 in
      let two = is.2.0 in
      let fit_one = deletes_keep segment of_id old one fit is.1 in
      let shows_one : sets.Shows left_first one = sets.deleted segment old one fit (InTable s) rows of_id is.1 in
      let fit_two = deletes_keep period of_id one two fit_one is.2.1 in
      let shows_two : sets.Shows left_second two = sets.deleted period one two fit_one left_first shows_one of_id is.2.1 in
      let shows_three : sets.Shows left_third new = sets.deleted pairing two new fit_two left_second shows_two of_id is.2.2 in
      sets.shows_as left_third (InTable gone) new gone_words shows_three
