-- What an outside period, recorded or recorded anew, makes of the rows of a state.
use Rattle.std.proofs.Common.{◌≡◌, ◌⊎◌, ◌↔◌, inl, inr, sym, ap, subst, ◌∙◌, arith, ℕ, ◌+◌, List, [], ◌∷◌, Some, Bool, false, slice_get}
use Rattle.std.specs.FinMap as fin
use Rattle.std.specs.List.{fold}
use Rattle.sqlite_value.specs.declared.value.Value.TheVariants.{Text}
use Rattle.sqlite_value.specs.Order.{Row, column}
use Rattle.sqlite.specs.Effect.{Database}
use Rattle.duty.specs.Plans.{OutsidePlan}
use Rattle.duty.specs.declared.segment.BlockTimes.{BlockTimes}
use Rattle.command.specs.Keys.{KeyParts}
use Rattle.command.specs.declared.exceedance.Exceedance.{Exceedance}
use Rattle.roster.proofs.Accepted.{inserted, insert_here, insert_elsewhere}
use Rattle.roster.specs.State.{State}
use Rattle.roster.specs.Steps.{recorded}
use Rattle.roster.specs.declared.state.DutyId.{DutyId}
use Rattle.roster.specs.declared.state.DutyId.TheVariants as duty_id
use Rattle.roster.specs.declared.state.OutsideEntry.{OutsideEntry}
use Rattle.tables.specs.Rows.{begins_with}
use Rattle.writing.specs.Calls.{IsFit, Then}
use Rattle.state_rows.specs.Rows.{StateTable, exceedance, outside, outside_segment, At, ExceedanceAt, OutsideSegmentOf, InTable, InExceedance, InOutside, InOutsideSegment, Rows, row_of_outside, row_of_outside_segment}
use Rattle.writing.specs.Writing.{RemovesOutside, AddsOutside, RecordsAll}
use Rattle.writing.proofs.EffectRecords.{NewExceedance, exceedances_words}
use Rattle.writing.proofs.Growing.{SomeOf, placed, some_of, each_grows}
use Rattle.writing.proofs.Sets as sets
use Rattle.writing.proofs.Tables.{fit_after, inserts_keep, deletes_keep}
use Rattle.state_rows.proofs.Tests.{IsPlain, fails, others}
use Rattle.state_rows.proofs.Values.{text_is}

from_zero : (n : ℕ) → 0 + n ≡ n
from_zero n = omega arith

abbrev NewSegment : List ℕ → ℕ → BlockTimes → Row → Type 0
NewSegment id at t x = x ≡ row_of_outside_segment id at t

module _ (s : State) (who : List ℕ) (o : OutsidePlan) where
  abbrev entry : OutsideEntry
  entry = record { crew = who; period = o }

  abbrev flown : State
  flown = record s { outsides = fin.insert s.outsides o.id entry }

  abbrev new_at : At flown.outsides
  new_at = record { name = o.id; value = entry; there = insert_here s.outsides o.id entry }

  abbrev still : (h : At s.outsides) → (h.name ≡ o.id → ⊥) → At flown.outsides
  still h other = record { name = h.name; value = h.value; there = insert_elsewhere s.outsides o.id entry h.name other ∙ h.there }

  abbrev of_id : Row → Bool
  of_id = begins_with (Text o.id ∷ [])

  -- a row that the test leaves is of another period
  is_other : (name : List ℕ) (row : Row) → column row 0 ≡ Text name → of_id row ≡ false → name ≡ o.id → ⊥
  is_other name row first failed same = others (Text o.id ∷ []) row failed (first ∙ ap Text same, tt)

  is_left : (name : List ℕ) (row : Row) → column row 0 ≡ Text name → (name ≡ o.id → ⊥) → of_id row ≡ false
  is_left name row first other = fails (Text o.id ∷ []) row (subst IsPlain (sym first) tt, tt, tt) (λ c. other (text_is (sym first ∙ c.0)))

  periods_words : (row : Row) → ((row ≡ row_of_outside o.id entry) ⊎ (InOutside s row × (of_id row ≡ false))) ↔ InOutside flown row
  periods_words row = (
    λ h. elim h [
      | inl new ↦ (new_at, new)
      | inr was ↦ (still was.0.0 (is_other was.0.0.name row (ap (λ (r : Row). column r 0) was.0.1) was.1), was.0.1)
    ],
    λ h. elim (inserted s.outsides o.id entry h.0.name h.0.value h.0.there) [
      | inl new ↦ inl (h.1 ∙ (λ i. row_of_outside (new.0 i) (sym new.1 i)))
      | inr was ↦
          let at : At s.outsides = record { name = h.0.name; value = h.0.value; there = was.1 } in
          inr ((at, h.1), is_left h.0.name row (ap (λ (r : Row). column r 0) h.1) was.0)
    ],
  )

  segments_words : (row : Row) → (SomeOf (NewSegment o.id) 0 o.segments row ⊎ (InOutsideSegment s row × (of_id row ≡ false))) ↔ InOutsideSegment flown row
  segments_words row = (
    λ h. elim h [
      | inl new ↦
          let it = placed (NewSegment o.id) 0 o.segments row new in
          let of : OutsideSegmentOf o = record { place = it.place; times = it.value; flown = it.there } in
          (new_at, of, it.is ∙ ap (λ n. row_of_outside_segment o.id n it.value) (from_zero it.place))
      | inr was ↦ (still was.0.0 (is_other was.0.0.name row (ap (λ (r : Row). column r 0) was.0.2) was.1), was.0.1, was.0.2)
    ],
    λ h. elim (inserted s.outsides o.id entry h.0.name h.0.value h.0.there) [
      | inl new ↦
          let at : slice_get o.segments h.1.place ≡ Some h.1.times = ap (λ (e : OutsideEntry). slice_get e.period.segments h.1.place) new.1 ∙ h.1.flown in
          let is : row ≡ row_of_outside_segment o.id (0 + h.1.place) h.1.times =
          h.2 ∙ (λ i. row_of_outside_segment (new.0 i) (sym (from_zero h.1.place) i) h.1.times) in
          inl (some_of (NewSegment o.id) 0 o.segments row h.1.place h.1.times at is)
      | inr was ↦
          let at : At s.outsides = record { name = h.0.name; value = h.0.value; there = was.1 } in
          inr ((at, h.1, h.2), is_left h.0.name row (ap (λ (r : Row). column r 0) h.2) was.0)
    ],
  )

  -- ---- All of it

  abbrev Removed : sets.Sets
  Removed = sets.put outside (λ x. InOutside s x × (of_id x ≡ false)) (sets.put outside_segment (λ x. InOutsideSegment s x × (of_id x ≡ false)) (InTable s))

  removed : (old new : Database) → IsFit old → Rows s old → RemovesOutside o.id old new → IsFit new × sets.Shows Removed new
  removed old new fit rows is =
      let one = sets.deleted outside_segment old is.0 fit (InTable s) rows of_id is.1 in
      let mid_fit = deletes_keep outside_segment of_id old is.0 fit is.1 in
      (deletes_keep outside of_id is.0 new mid_fit is.2, sets.deleted outside is.0 new mid_fit _ one of_id is.2)

  abbrev Listed : sets.Sets
  Listed = sets.put outside (λ x. (x ≡ row_of_outside o.id entry) ⊎ Removed outside x) Removed

  abbrev Added : sets.Sets
  Added = sets.put outside_segment (λ x. SomeOf (NewSegment o.id) 0 o.segments x ⊎ Listed outside_segment x) Listed

  added : (old new : Database) → IsFit old → sets.Shows Removed old → AddsOutside who o old new → IsFit new × sets.Shows Added new
  added old new fit shows is =
      let mid = is.0 in
      let mid_fit = inserts_keep outside (row_of_outside o.id entry) old mid fit is.1 in
      let listed : sets.Shows Listed mid = sets.inserted outside old mid fit Removed shows (row_of_outside o.id entry) is.1 in
      let segments = each_grows outside_segment _ (NewSegment o.id) (λ _ _ _ _ _ h. h) 0 o.segments mid new mid_fit is.2 in (
        fit_after mid new mid_fit outside_segment _ segments,
        sets.changed outside_segment mid new mid_fit Listed listed _ _ segments (λ x. (
          λ h. elim h [ inl now ↦ inl now | inr was ↦ inr ((listed outside_segment x).0 was) ],
          λ h. elim h [ inl now ↦ inl now | inr was ↦ inr ((listed outside_segment x).1 was) ],
        )),
      )

  module _ (key : KeyParts) (es : List Exceedance) (fresh : (at : ExceedanceAt s.exceedances) → at.key ≡ key → ⊥) where
    abbrev the_period : DutyId
    the_period = duty_id.Outside o.id

    abbrev told : State
    told = record flown { exceedances = fold (recorded key the_period) s.exceedances es }

    abbrev Told : sets.Sets
    Told = sets.put exceedance (λ x. SomeOf (NewExceedance key the_period) 0 es x ⊎ InExceedance s x) Added

    told_words : (name : StateTable) (row : Row) → Told name row ↔ InTable told name row
    told_words outside row = periods_words row
    told_words outside_segment row = segments_words row
    told_words exceedance row = exceedances_words key the_period s.exceedances es fresh row
    told_words name row = (λ h. h, λ h. h)

    pub outside_recorded : (old new : Database) → IsFit old → Rows s old →
        Then (RemovesOutside o.id) (Then (AddsOutside who o) (RecordsAll key the_period es)) old new → Rows told new
    outside_recorded old new fit rows is =
        let gone = removed old is.0 fit rows is.1 in
        let mid = is.2.0 in
        let there = added is.0 mid gone.0 gone.1 is.2.1 in
        let records = each_grows exceedance _ (NewExceedance key the_period) (λ _ _ _ _ _ h. h) 0 es mid new there.0 is.2.2 in
        let shows : sets.Shows Told new = sets.changed exceedance mid new there.0 Added there.1 _ _ records (λ x. (
          λ h. elim h [ inl now ↦ inl now | inr was ↦ inr ((there.1 exceedance x).0 was) ],
          λ h. elim h [ inl now ↦ inl now | inr was ↦ inr ((there.1 exceedance x).1 was) ],
        )) in
        sets.shows_as Told (InTable told) new told_words shows
