-- What the actual times of a period make of the rows of a state.
use Rattle.std.proofs.Common.{◌≡◌, ◌⊎◌, ◌↔◌, inl, inr, refl, sym, ap, subst, ◌∙◌, arith, ℕ, pos, ◌+◌, ◌-◌, ◌<◌, List, [], ◌∷◌, length, Option, Some, None, Bool, true, false, slice_get, option_map}
use Rattle.std.specs.Prelude.{slice_set}
use Rattle.std.specs.FinMap as fin
use Rattle.std.specs.List.{fold}
use Rattle.std.proofs.lemmas.Bool.{cases_eq}
use Rattle.std.proofs.lemmas.Option.{slice_get_cases, slice_get_within}
use Rattle.values.specs.Name.{changed_at}
use Rattle.sqlite_value.specs.declared.value.Value.TheVariants.{Int, Text}
use Rattle.sqlite_value.specs.Order.{Row, column}
use Rattle.sqlite.specs.Effect.{Database}
use Rattle.duty.specs.Plans.{ActualTimes}
use Rattle.duty.specs.declared.fdp.Fdp.{Fdp}
use Rattle.duty.specs.declared.segment.BlockTimes.{BlockTimes}
use Rattle.duty.specs.declared.segment.Segment.{Segment}
use Rattle.command.specs.Keys.{KeyParts}
use Rattle.command.specs.declared.exceedance.Exceedance.{Exceedance}
use Rattle.command.specs.declared.member.Seat.{Seat}
use Rattle.command.specs.declared.member.Seat.TheVariants.{Captain, FirstOfficer}
use Rattle.roster.proofs.Accepted.{decide, changed, change_here, change_elsewhere}
use Rattle.roster.proofs.Sound.Flown.{set_here, set_other}
use Rattle.roster.specs.Pairings.{holder}
use Rattle.roster.specs.State.{State}
use Rattle.roster.specs.Steps.{with_actual, recorded}
use Rattle.roster.specs.declared.state.DutyId.{DutyId}
use Rattle.roster.specs.declared.state.DutyId.TheVariants as duty_id
use Rattle.roster.specs.declared.state.PairingEntry.{PairingEntry}
use Rattle.tables.specs.Records.{with_period_times}
use Rattle.tables.specs.Rows.{begins_with}
use Rattle.tables.specs.declared.period.PeriodRecord.{PeriodRecord}
use Rattle.tables.proofs.PeriodTexts.{with_period_times_is}
use Rattle.writing.specs.Calls.{IsFit, Then}
use Rattle.state_rows.specs.Rows.{StateTable, pairing, period, segment, seat, exceedance, At, PeriodOf, SegmentOf, ExceedanceAt, InTable, InPairing, InPeriod, InSegment, InSeat, InExceedance, Rows, row_of_period, row_of_segment, times_flown}
use Rattle.writing.specs.Writing.{FliesPeriod, FliesSegments, RecordsAll}
use Rattle.writing.proofs.Growing.{SomeOf, each_grows}
use Rattle.writing.proofs.EffectRecords.{NewExceedance, exceedances_words}
use Rattle.state_rows.proofs.Lists.{one_value}
use Rattle.writing.proofs.Retiming.{Flown, after, all_flown, flown_to, flown_from, after_past, after_here, hit_none, hit_one, hit_other}
use Rattle.writing.proofs.Sets as sets
use Rattle.writing.proofs.Tables.{fit_after, updates_keep}
use Rattle.state_rows.proofs.Tests.{found, passes, fails, others}
use Rattle.state_rows.proofs.Values.{text_is, number_is}

-- ---- The pairing

holder_stays : (a : ActualTimes) (r : PairingEntry) (x : Seat) → holder x (with_actual a r) ≡ holder x r
holder_stays a r Captain = refl
holder_stays a r FirstOfficer = refl

module _ (s : State) (id : List ℕ) (a : ActualTimes) (r : PairingEntry) (there : fin.get s.pairings id ≡ Some r)
    (place : ℕ) (number_is_next : a.period ≡ place + 1) (fdp : Fdp) (planned : slice_get r.plan.periods place ≡ Some fdp)
    (count : length fdp.segments ≡ length a.segments) (room : place < length r.actuals) where
  abbrev now : PairingEntry
  now = with_actual a r

  abbrev flown : State
  flown = record s { pairings = changed_at s.pairings id (with_actual a) }

  at_place : a.period - 1 ≡ place
  at_place = omega (arith, number_is_next)

  there_now : fin.get flown.pairings id ≡ Some now
  there_now = change_here s.pairings id (with_actual a) ∙ ap (option_map (with_actual a)) there

  abbrev now_at : (name : List ℕ) → name ≡ id → At flown.pairings
  now_at name same = record { name = name; value = now; there = ap (fin.get flown.pairings) same ∙ there_now }

  abbrev still : (h : At s.pairings) → (h.name ≡ id → ⊥) → At flown.pairings
  still h other = record { name = h.name; value = h.value; there = change_elsewhere s.pairings id (with_actual a) h.name other ∙ h.there }

  same_here : (h : At s.pairings) → h.name ≡ id → h.value ≡ r
  same_here h same = one_value (ap (fin.get s.pairings) (sym same) ∙ h.there) there

  set_is : slice_get now.actuals place ≡ Some (Some a)
  set_is = ap (λ n. slice_get (slice_set r.actuals n (Some a)) place) at_place ∙ set_here r.actuals place (Some a) room

  set_not : (n : ℕ) → (n ≡ place → ⊥) → slice_get now.actuals n ≡ slice_get r.actuals n
  set_not n other = set_other r.actuals (a.period - 1) (Some a) n (λ e. other (e ∙ at_place))

  -- the period with its new times, and another period
  abbrev flown_period : PeriodOf now
  flown_period = record { place = place; fdp = fdp; actual = Some a; planned = planned; flown = set_is }

  abbrev other_period : (h : At s.pairings) → h.name ≡ id → (p : PeriodOf h.value) → (p.place ≡ place → ⊥) → PeriodOf now
  other_period h same p other = record {
    place = p.place;
    fdp = p.fdp;
    actual = p.actual;
    planned = ap (λ (x : PairingEntry). slice_get x.plan.periods p.place) (sym (same_here h same)) ∙ p.planned;
    flown = set_not p.place other ∙ ap (λ (x : PairingEntry). slice_get x.actuals p.place) (sym (same_here h same)) ∙ p.flown;
  }

  -- the period as it was
  was_flown : (o : Option ActualTimes) × (slice_get r.actuals place ≡ Some o)
  was_flown = elim (slice_get_cases r.actuals place).1 [
    | inl it ↦ (it.0, it.2)
    | inr past ↦ absurd (let short = past.0 in omega (arith, short, room))
  ]

  abbrev was_at : At s.pairings
  was_at = record { name = id; value = r; there = there }

  abbrev was_period : PeriodOf r
  was_period = record { place = place; fdp = fdp; actual = was_flown.0; planned = planned; flown = was_flown.1 }

  -- a period of the pairing after the change, before it
  abbrev before_period : (p : PeriodOf now) → (p.place ≡ place → ⊥) → PeriodOf r
  before_period p other = record { place = p.place; fdp = p.fdp; actual = p.actual; planned = p.planned; flown = sym (set_not p.place other) ∙ p.flown }

  abbrev as_now : (x : PairingEntry) → x ≡ now → PeriodOf x → PeriodOf now
  as_now x same p = record {
    place = p.place;
    fdp = p.fdp;
    actual = p.actual;
    planned = ap (λ (y : PairingEntry). slice_get y.plan.periods p.place) (sym same) ∙ p.planned;
    flown = ap (λ (y : PairingEntry). slice_get y.actuals p.place) (sym same) ∙ p.flown;
  }

  this_period : (p : PeriodOf now) → p.place ≡ place → (p.fdp ≡ fdp) × (p.actual ≡ Some a)
  this_period p same = (
    one_value p.planned (ap (slice_get r.plan.periods) same ∙ planned),
    one_value p.flown (ap (slice_get now.actuals) same ∙ set_is),
  )

  -- ---- Pairings and seats

  pairings_stay : (row : Row) → InPairing s row ↔ InPairing flown row
  pairings_stay row = (
    λ h. elim (decide h.0.name id) [ inl same ↦ (now_at h.0.name same, h.1) | inr other ↦ (still h.0 other, h.1) ],
    λ h. elim (changed s.pairings id (with_actual a) h.0.name h.0.value h.0.there) [
      | inl it ↦ (record { name = h.0.name; value = it.1; there = ap (fin.get s.pairings) it.0 ∙ it.2 }, h.1)
      | inr it ↦ (record { name = h.0.name; value = h.0.value; there = it.1 }, h.1)
    ],
  )

  seats_stay : (row : Row) → InSeat s row ↔ InSeat flown row
  seats_stay row = (
    λ h. elim (decide h.0.name id) [
      | inl same ↦ (
        now_at h.0.name same,
        record { seat = h.1.seat; crew = h.1.crew; held = holder_stays a r h.1.seat ∙ ap (holder h.1.seat) (sym (same_here h.0 same)) ∙ h.1.held },
        h.2,
      )
      | inr other ↦ (still h.0 other, h.1, h.2)
    ],
    λ h. elim (changed s.pairings id (with_actual a) h.0.name h.0.value h.0.there) [
      | inl it ↦ (
        record { name = h.0.name; value = it.1; there = ap (fin.get s.pairings) it.0 ∙ it.2 },
        record { seat = h.1.seat; crew = h.1.crew; held = sym (holder_stays a it.1 h.1.seat) ∙ ap (holder h.1.seat) it.3 ∙ h.1.held },
        h.2,
      )
      | inr it ↦ (record { name = h.0.name; value = h.0.value; there = it.1 }, h.1, h.2)
    ],
  )

  -- ---- Periods

  abbrev of_period : Row → Bool
  of_period = begins_with (Text id ∷ Int (pos a.period) ∷ [])

  period_retimed : (name : List ℕ) (n : ℕ) (f : Fdp) (o : Option ActualTimes) →
      with_period_times a.report a.release (row_of_period name n f o) ≡ row_of_period name n f (Some a)
  period_retimed name n f o =
      let it : PeriodRecord = record {
        pairing = name;
        number = n + 1;
        report_at = f.report;
        release_at = f.release;
        act_report = option_map (λ (t : ActualTimes). t.report) o;
        act_release = option_map (λ (t : ActualTimes). t.release) o;
      } in
      with_period_times_is it a.report a.release

  period_other : (name : List ℕ) (n : ℕ) (f : Fdp) (o : Option ActualTimes) → (name ≡ id → n ≡ place → ⊥) → of_period (row_of_period name n f o) ≡ false
  period_other name n f o other = fails (Text id ∷ Int (pos a.period) ∷ []) (row_of_period name n f o) (tt, tt, (tt, tt, tt))
      (λ c. other (text_is c.0) (let e : n + 1 ≡ a.period = number_is c.1.0 in omega (arith, e, number_is_next)))

  abbrev Retimed : Row → Type 0
  Retimed x = ((was : Row) × InPeriod s was × (of_period was ≡ true) × (x ≡ with_period_times a.report a.release was)) ⊎ (InPeriod s x × (of_period x ≡ false))

  period_before : (row : Row) (name : List ℕ) → name ≡ id → (p : PeriodOf now) → row ≡ row_of_period name p.place p.fdp p.actual → Retimed row
  period_before row name same p is = elim (cases_eq p.place place) [
    | inl here ↦
        let t = this_period p here in
        let was = row_of_period id place fdp was_flown.0 in
        inl (
          was,
          (was_at, was_period, refl),
          passes (Text id ∷ Int (pos a.period) ∷ []) was (refl, (ap (λ n. Int (pos n)) (sym number_is_next), tt)),
          is ∙ (λ i. row_of_period (same i) (here i) (t.0 i) (t.1 i)) ∙ sym (period_retimed id place fdp was_flown.0),
        )
    | inr other ↦
        let at : At s.pairings = record { name = name; value = r; there = ap (fin.get s.pairings) same ∙ there } in
        inr ((at, before_period p other, is), ap of_period is ∙ period_other name p.place p.fdp p.actual (λ _. other))
  ]

  periods_words : (row : Row) → Retimed row ↔ InPeriod flown row
  periods_words row = (
    λ h. elim h [
      | inl it ↦
          let w = it.1 in
          let hit = found (Text id ∷ Int (pos a.period) ∷ []) (row_of_period w.0.name w.1.place w.1.fdp w.1.actual) (tt, tt, (tt, tt, tt)) (ap of_period (sym w.2) ∙ it.2) in
          let name : w.0.name ≡ id = text_is hit.0 in
          let next : w.1.place + 1 ≡ a.period = number_is hit.1.0 in
          let same_place : w.1.place ≡ place = omega (arith, next, number_is_next) in
          let f : w.1.fdp ≡ fdp = one_value (ap (λ (x : PairingEntry). slice_get x.plan.periods w.1.place) (sym (same_here w.0 name)) ∙ w.1.planned) (ap (slice_get r.plan.periods) same_place ∙ planned) in
          let is : row ≡ row_of_period w.0.name place fdp (Some a) =
          it.3 ∙ ap (with_period_times a.report a.release) w.2 ∙ period_retimed w.0.name w.1.place w.1.fdp w.1.actual ∙ (λ i. row_of_period w.0.name (same_place i) (f i) (Some a)) in
          (now_at w.0.name name, flown_period, is)
      | inr it ↦
          let w = it.0 in
          elim (decide w.0.name id) [
            | inl same ↦
                let other : w.1.place ≡ place → ⊥ = λ e. others (Text id ∷ Int (pos a.period) ∷ []) row it.1
                (ap (λ (x : Row). column x 0) w.2 ∙ ap Text same, (ap (λ (x : Row). column x 1) w.2 ∙ ap (λ n. Int (pos n)) (let n : w.1.place + 1 ≡ a.period = omega (arith, e, number_is_next) in n), tt)) in
                (now_at w.0.name same, other_period w.0 same w.1 other, w.2)
            | inr other ↦ (still w.0 other, w.1, w.2)
          ]
    ],
    λ h. elim (changed s.pairings id (with_actual a) h.0.name h.0.value h.0.there) [
      | inl it ↦
          let value : h.0.value ≡ now = sym it.3 ∙ ap (with_actual a) (one_value it.2 there) in
          period_before row h.0.name it.0 (as_now h.0.value value h.1) h.2
      | inr it ↦
          let at : At s.pairings = record { name = h.0.name; value = h.0.value; there = it.1 } in
          inr ((at, h.1, h.2), ap of_period h.2 ∙ period_other h.0.name h.1.place h.1.fdp h.1.actual (λ e _. it.0 e))
    ],
  )

  -- ---- Segments

  abbrev Reflown : Row → Type 0
  Reflown x = (was : Row) × InSegment s was × Flown id a.period 0 a.segments was x

  -- a segment of the period has times in the actual
  its_times : (n : ℕ) (g : Segment) → slice_get fdp.segments n ≡ Some g → (t : BlockTimes) × (slice_get a.segments n ≡ Some t)
  its_times n g at =
      let inside = slice_get_within fdp.segments n g at in
      elim (slice_get_cases a.segments n).1 [
        | inl it ↦ (it.0, it.2)
        | inr past ↦ absurd (let short = past.0 in omega (arith, short, inside, count))
      ]

  -- what the changes make of a segment of the period, and of another one
  retimed_here : (name : List ℕ) (p n : ℕ) (g : Segment) (tf : Option BlockTimes) → name ≡ id → p ≡ place → slice_get fdp.segments n ≡ Some g →
      after id a.period name p n g 0 a.segments tf ≡ times_flown (Some a) n
  retimed_here name p n g tf same here at =
      let t = its_times n g at in
      let zero_and : 0 + n ≡ n = omega arith in
      let next : p + 1 ≡ a.period = omega (arith, here, number_is_next) in
      after_here id a.period name p n g 0 a.segments tf n t.0 t.1
      (subst (λ m. begins_with (Text id ∷ Int (pos a.period) ∷ Int (pos (m + 1)) ∷ []) (row_of_segment name p n g None) ≡ true) (sym zero_and) (hit_one id a.period name p n g same next))
      (λ m apart. hit_other id a.period name p n g m (λ e. apart (e ∙ sym zero_and))) ∙ sym t.1

  retimed_not : (name : List ℕ) (p n : ℕ) (g : Segment) (tf : Option BlockTimes) → (name ≡ id → p ≡ place → ⊥) → after id a.period name p n g 0 a.segments tf ≡ tf
  retimed_not name p n g tf other = after_past id a.period name p n g 0 a.segments tf
      (λ m _. hit_none id a.period name p n g (λ same next. other same (omega (arith, next, number_is_next))) m)

  segment_after : (row : Row) → Reflown row → InSegment flown row
  segment_after row h =
      let w = h.1 in
      let tf = times_flown w.1.actual w.2.place in
      let is : row ≡ row_of_segment w.0.name w.1.place w.2.place w.2.segment (after id a.period w.0.name w.1.place w.2.place w.2.segment 0 a.segments tf) =
      flown_to id a.period w.0.name w.1.place w.2.place w.2.segment 0 a.segments tf row (subst (λ x. Flown id a.period 0 a.segments x row) w.3 h.2) in
      let stays_is = λ (other : w.0.name ≡ id → w.1.place ≡ place → ⊥).
      is ∙ ap (row_of_segment w.0.name w.1.place w.2.place w.2.segment) (retimed_not w.0.name w.1.place w.2.place w.2.segment tf other) in
      elim (decide w.0.name id) [
        | inl same ↦ elim (cases_eq w.1.place place) [
          | inl here ↦
              let f : w.1.fdp ≡ fdp = one_value (ap (λ (x : PairingEntry). slice_get x.plan.periods w.1.place) (sym (same_here w.0 same)) ∙ w.1.planned) (ap (slice_get r.plan.periods) here ∙ planned) in
              let at : slice_get fdp.segments w.2.place ≡ Some w.2.segment = ap (λ (x : Fdp). slice_get x.segments w.2.place) (sym f) ∙ w.2.planned in
              let g : SegmentOf fdp = record { place = w.2.place; segment = w.2.segment; planned = at } in
              (now_at w.0.name same, flown_period, g, is ∙ (λ i. row_of_segment w.0.name (here i) w.2.place w.2.segment (retimed_here w.0.name w.1.place w.2.place w.2.segment tf same here at i)))
          | inr other ↦ (now_at w.0.name same, other_period w.0 same w.1 other, w.2, stays_is (λ _. other))
        ]
        | inr other ↦ (still w.0 other, w.1, w.2, stays_is (λ e _. other e))
      ]

  -- a segment that is as it was
  segment_same : (row : Row) (name : List ℕ) (p n : ℕ) (g : Segment) (tf : Option BlockTimes) → (name ≡ id → p ≡ place → ⊥) → row ≡ row_of_segment name p n g tf →
      InSegment s (row_of_segment name p n g tf) → Reflown row
  segment_same row name p n g tf other is was = (
    row_of_segment name p n g tf,
    was,
    subst (Flown id a.period 0 a.segments (row_of_segment name p n g tf)) (ap (row_of_segment name p n g) (retimed_not name p n g tf other) ∙ sym is)
        (flown_from id a.period name p n g 0 a.segments tf),
  )

  segment_before : (row : Row) (name : List ℕ) → name ≡ id → (p : PeriodOf now) (g : SegmentOf p.fdp) → row ≡ row_of_segment name p.place g.place g.segment (times_flown p.actual g.place) → Reflown row
  segment_before row name same p g is = elim (cases_eq p.place place) [
    | inl here ↦
        let t = this_period p here in
        let at : slice_get fdp.segments g.place ≡ Some g.segment = ap (λ (x : Fdp). slice_get x.segments g.place) (sym t.0) ∙ g.planned in
        let of : SegmentOf fdp = record { place = g.place; segment = g.segment; planned = at } in
        let tf = times_flown was_flown.0 g.place in
        let to : row_of_segment id place g.place g.segment (after id a.period id place g.place g.segment 0 a.segments tf) ≡ row =
        ap (row_of_segment id place g.place g.segment) (retimed_here id place g.place g.segment tf refl refl at)
        ∙ sym (is ∙ (λ i. row_of_segment (same i) (here i) g.place g.segment (times_flown (t.1 i) g.place))) in (
          row_of_segment id place g.place g.segment tf,
          (was_at, was_period, of, refl),
          subst (Flown id a.period 0 a.segments (row_of_segment id place g.place g.segment tf)) to (flown_from id a.period id place g.place g.segment 0 a.segments tf),
        )
    | inr other ↦
        let at : At s.pairings = record { name = name; value = r; there = ap (fin.get s.pairings) same ∙ there } in
        segment_same row name p.place g.place g.segment (times_flown p.actual g.place) (λ _. other) is (at, before_period p other, g, refl)
  ]

  segments_words : (row : Row) → Reflown row ↔ InSegment flown row
  segments_words row = (
    segment_after row,
    λ h. elim (changed s.pairings id (with_actual a) h.0.name h.0.value h.0.there) [
      | inl it ↦
          let value : h.0.value ≡ now = sym it.3 ∙ ap (with_actual a) (one_value it.2 there) in
          segment_before row h.0.name it.0 (as_now h.0.value value h.1) h.2 h.3
      | inr it ↦
          let at : At s.pairings = record { name = h.0.name; value = h.0.value; there = it.1 } in
          segment_same row h.0.name h.1.place h.2.place h.2.segment (times_flown h.1.actual h.2.place) (λ e _. it.0 e) h.3 (at, h.1, h.2, refl)
    ],
  )

  -- ---- All of it

  module _ (key : KeyParts) (es : List Exceedance) (fresh : (at : ExceedanceAt s.exceedances) → at.key ≡ key → ⊥) where
    abbrev the_period : DutyId
    the_period = duty_id.Period (record { pairing = id; number = a.period })

    abbrev reflown : State
    reflown = record s { pairings = changed_at s.pairings id (with_actual a); exceedances = fold (recorded key the_period) s.exceedances es }

    abbrev first : sets.Sets
    first = sets.put period Retimed (InTable s)

    abbrev second : sets.Sets
    second = sets.put segment Reflown first

    abbrev third : sets.Sets
    third = sets.put exceedance (λ x. SomeOf (NewExceedance key the_period) 0 es x ⊎ InExceedance s x) second

    flown_words : (name : StateTable) (row : Row) → third name row ↔ InTable reflown name row
    flown_words pairing row = pairings_stay row
    flown_words period row = periods_words row
    flown_words segment row = segments_words row
    flown_words seat row = seats_stay row
    flown_words exceedance row = exceedances_words key the_period s.exceedances es fresh row
    flown_words name row = (λ h. h, λ h. h)

    pub actual_flown : (old new : Database) → IsFit old → Rows s old →
        Then (FliesPeriod id a) (Then (FliesSegments id a.period a.segments) (RecordsAll key the_period es)) old new → Rows reflown new
    actual_flown old new fit rows is =
        let one = is.0 in
        let two = is.2.0 in
        let fit_one = updates_keep period of_period (with_period_times a.report a.release) old one fit is.1 in
        let shows_one : sets.Shows first one = sets.updated period old one fit (InTable s) rows of_period (with_period_times a.report a.release) is.1 in
        let segments = all_flown id a.period 0 a.segments one two fit_one is.2.1 in
        let fit_two = fit_after one two fit_one segment _ segments in
        let shows_two : sets.Shows second two = sets.changed segment one two fit_one first shows_one _ _ segments (λ x. (
          λ h. (h.0, (shows_one segment h.0).0 h.1, h.2),
          λ h. (h.0, (shows_one segment h.0).1 h.1, h.2),
        )) in
        let records = each_grows exceedance _ (NewExceedance key the_period) (λ _ _ _ _ _ h. h) 0 es two new fit_two is.2.2 in
        let shows_three : sets.Shows third new = sets.changed exceedance two new fit_two second shows_two _ _ records (λ x. (
          λ h. elim h [ inl new ↦ inl new | inr was ↦ inr ((shows_two exceedance x).0 was) ],
          λ h. elim h [ inl new ↦ inl new | inr was ↦ inr ((shows_two exceedance x).1 was) ],
        )) in
        sets.shows_as third (InTable reflown) new flown_words shows_three
