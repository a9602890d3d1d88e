-- Pairings of sound states with the same rows are equal.
use Rattle.std.proofs.Common.{◌≡◌, inl, inr, refl, sym, ap, ap₂, ◌∙◌, arith, ℕ, ◌+◌, List, length, map, Option, Some, None, slice_get}
use Rattle.std.specs.FinMap as fin
use Rattle.std.specs.Option.{option_map}
use Rattle.std.proofs.lemmas.Option.{slice_get-map, slice_get_within, slice_get_cases}
use Rattle.sqlite_value.specs.Order.{Row, column}
use Rattle.duty.specs.Plans.{ActualTimes, as_planned}
use Rattle.duty.specs.declared.fdp.Fdp.{Fdp}
use Rattle.duty.specs.declared.segment.BlockTimes.{BlockTimes}
use Rattle.duty.specs.declared.segment.Segment.{Segment}
use Rattle.command.specs.declared.member.Seat.{Seat}
use Rattle.command.specs.declared.member.Seat.TheVariants.{Captain, FirstOfficer}
use Rattle.roster.specs.Pairings.{holder}
use Rattle.roster.specs.Sound.{IsActual, SoundPairing}
use Rattle.roster.specs.State.{State}
use Rattle.roster.specs.declared.state.PairingEntry.{PairingEntry}
use Rattle.state_rows.specs.Rows.{InPeriod, InSegment, InSeat, At, PeriodOf, SegmentOf, HeldSeat, row_of_period, row_of_segment, row_of_seat, seat_number, times_flown}
use Rattle.state_rows.proofs.Lists.{Answers, same_list, same_option, one_value}
use Rattle.state_rows.proofs.Values.{seats_same, numbers_same, times_same, text_is, number_is}

-- ---- What the rows of one state say of another, which has them too

module _ (s t : State) (id : List ℕ) (r q : PairingEntry) (here : fin.get s.pairings id ≡ Some r) (there : fin.get t.pairings id ≡ Some q) where
  pub record Period (place : ℕ) (fdp : Fdp) (actual : Option ActualTimes) : Type 0 where
    pub its : Fdp
    pub flight : Option ActualTimes
    pub planned : slice_get q.plan.periods place ≡ Some its
    pub flown : slice_get q.actuals place ≡ Some flight
    pub report : fdp.report ≡ its.report
    pub release : fdp.release ≡ its.release
    pub act_report : option_map (λ a. a.report) actual ≡ option_map (λ a. a.report) flight
    pub act_release : option_map (λ a. a.release) actual ≡ option_map (λ a. a.release) flight

  pub period_told : ((row : Row) → InPeriod s row → InPeriod t row) → (place : ℕ) (fdp : Fdp) (actual : Option ActualTimes) →
      slice_get r.plan.periods place ≡ Some fdp → slice_get r.actuals place ≡ Some actual → Period place fdp actual
  period_told told place fdp actual planned flown =
      let at : At s.pairings = record { name = id; value = r; there = here } in
      let p : PeriodOf r = record { place = place; fdp = fdp; actual = actual; planned = planned; flown = flown } in
      let it = told (row_of_period id place fdp actual) (at, p, refl) in
      let e = it.2 in
      let at_column = λ (k : ℕ). ap (λ (row : Row). column row k) e in
      let same_id : id ≡ it.0.name = text_is (at_column 0) in
      let n : place + 1 ≡ it.1.place + 1 = number_is (at_column 1) in
      let same_place : place ≡ it.1.place = omega (arith, n) in
      let same : it.0.value ≡ q = one_value (ap (fin.get t.pairings) same_id ∙ it.0.there) there in
      record {
        its = it.1.fdp;
        flight = it.1.actual;
        planned = ap₂ (λ (x : PairingEntry) i. slice_get x.plan.periods i) (sym same) same_place ∙ it.1.planned;
        flown = ap₂ (λ (x : PairingEntry) i. slice_get x.actuals i) (sym same) same_place ∙ it.1.flown;
        report = number_is (at_column 2);
        release = number_is (at_column 3);
        act_report = numbers_same _ _ (at_column 4);
        act_release = numbers_same _ _ (at_column 5);
      }

  pub record InFlight (its : Fdp) (actual flight : Option ActualTimes) (at : ℕ) (segment : Segment) : Type 0 where
    pub planned : slice_get its.segments at ≡ Some segment
    pub flown : times_flown actual at ≡ times_flown flight at

  pub segment_told : ((row : Row) → InSegment s row → InSegment t row) → (place : ℕ) (fdp its : Fdp) (actual flight : Option ActualTimes) →
      slice_get r.plan.periods place ≡ Some fdp → slice_get r.actuals place ≡ Some actual →
      slice_get q.plan.periods place ≡ Some its → slice_get q.actuals place ≡ Some flight →
      (at : ℕ) (segment : Segment) → slice_get fdp.segments at ≡ Some segment → InFlight its actual flight at segment
  segment_told told place fdp its actual flight planned flown its_planned its_flown number segment there_is =
      let at : At s.pairings = record { name = id; value = r; there = here } in
      let p : PeriodOf r = record { place = place; fdp = fdp; actual = actual; planned = planned; flown = flown } in
      let g : SegmentOf fdp = record { place = number; segment = segment; planned = there_is } in
      let it = told (row_of_segment id place number segment (times_flown actual number)) (at, p, g, refl) in
      let e = it.3 in
      let at_column = λ (k : ℕ). ap (λ (row : Row). column row k) e in
      let same_id : id ≡ it.0.name = text_is (at_column 0) in
      let n : place + 1 ≡ it.1.place + 1 = number_is (at_column 1) in
      let m : number + 1 ≡ it.2.place + 1 = number_is (at_column 2) in
      let same_place : place ≡ it.1.place = omega (arith, n) in
      let same_number : number ≡ it.2.place = omega (arith, m) in
      let same : it.0.value ≡ q = one_value (ap (fin.get t.pairings) same_id ∙ it.0.there) there in
      let same_fdp : its ≡ it.1.fdp =
      one_value its_planned (ap₂ (λ (x : PairingEntry) i. slice_get x.plan.periods i) (sym same) same_place ∙ it.1.planned) in
      let same_flight : flight ≡ it.1.actual =
      one_value its_flown (ap₂ (λ (x : PairingEntry) i. slice_get x.actuals i) (sym same) same_place ∙ it.1.flown) in
      let same_segment : it.2.segment ≡ segment = λ i. record {
        flight = text_is (sym (at_column 3)) i;
        from = text_is (sym (at_column 4)) i;
        block_out = number_is (sym (at_column 6)) i;
        to = text_is (sym (at_column 5)) i;
        block_in = number_is (sym (at_column 7)) i;
      } in
      record {
        planned = ap₂ (λ (f : Fdp) i. slice_get f.segments i) same_fdp same_number ∙ it.2.planned ∙ ap Some same_segment;
        flown = times_same _ _ (numbers_same _ _ (at_column 8)) (numbers_same _ _ (at_column 9)) ∙ ap₂ times_flown (sym same_flight) (sym same_number);
      }

  pub holder_told : ((row : Row) → InSeat s row → InSeat t row) → (seat : Seat) → Answers (holder seat r) (holder seat q)
  holder_told told seat crew held =
      let at : At s.pairings = record { name = id; value = r; there = here } in
      let h : HeldSeat r = record { seat = seat; crew = crew; held = held } in
      let it = told (row_of_seat id seat crew) (at, h, refl) in
      let e = it.2 in
      let same_id : id ≡ it.0.name = text_is (ap (λ (row : Row). column row 0) e) in
      let n : seat_number seat ≡ seat_number it.1.seat = number_is (ap (λ (row : Row). column row 1) e) in
      let who : it.1.crew ≡ crew = text_is (sym (ap (λ (row : Row). column row 2) e)) in
      let same : it.0.value ≡ q = one_value (ap (fin.get t.pairings) same_id ∙ it.0.there) there in
      ap₂ holder (seats_same _ _ n) (sym same) ∙ it.1.held ∙ ap Some who

-- ---- The parts of a period

-- a period of a plan reports as it is planned
pub planned_report : (periods : List Fdp) → map as_planned periods ≡ periods → (place : ℕ) (fdp : Fdp) → slice_get periods place ≡ Some fdp →
    fdp.planned_report ≡ fdp.report
planned_report periods all place fdp here =
    let is : slice_get (map as_planned periods) place ≡ Some (as_planned fdp) = slice_get-map as_planned periods place ∙ ap (option_map as_planned) here in
    let same : fdp ≡ as_planned fdp = one_value here (ap (λ l. slice_get l place) (sym all) ∙ is) in
    ap (λ (f : Fdp). f.planned_report) same

pub fdps_same : (a b : Fdp) → a.planned_report ≡ a.report → b.planned_report ≡ b.report → a.report ≡ b.report → a.release ≡ b.release →
    a.segments ≡ b.segments → a ≡ b
fdps_same a b first second report release segments = λ i. record {
  planned_report = (first ∙ report ∙ sym second) i;
  report = report i;
  release = release i;
  segments = segments i;
}

-- a segment of an actual is one of the plan's
within : (fdp : Fdp) (a : ActualTimes) → length fdp.segments ≡ length a.segments → (i : ℕ) (v : BlockTimes) → slice_get a.segments i ≡ Some v →
    (segment : Segment) × (slice_get fdp.segments i ≡ Some segment)
within fdp a count i v e =
    let inside = slice_get_within a.segments i v e in
    elim (slice_get_cases fdp.segments i).1 [
      | inl p ↦ (p.0, p.2)
      | inr p ↦ absurd (omega (arith, inside, count, p.0))
    ]

-- ---- The whole pairing

-- a plan as it was made, with a place for the actual of each period
pub record Planned (id : List ℕ) (r : PairingEntry) : Type 0 where
  pub named : r.plan.id ≡ id
  pub planned : map as_planned r.plan.periods ≡ r.plan.periods
  pub places : length r.actuals ≡ length r.plan.periods
  pub actuals : (i : ℕ) (a : ActualTimes) → slice_get r.actuals i ≡ Some (Some a) → IsActual r.plan i a

module _ (s t : State) (id : List ℕ) (r q : PairingEntry) (here : fin.get s.pairings id ≡ Some r) (there : fin.get t.pairings id ≡ Some q)
    (sr : Planned id r) (sq : Planned id q)
    (periods : (row : Row) → InPeriod s row → InPeriod t row) (periods' : (row : Row) → InPeriod t row → InPeriod s row)
    (segments : (row : Row) → InSegment s row → InSegment t row) (segments' : (row : Row) → InSegment t row → InSegment s row) where
  -- a period of one is the same in the other, and so is its actual
  same_fdp : (place : ℕ) (fdp its : Fdp) (actual flight : Option ActualTimes) →
      slice_get r.plan.periods place ≡ Some fdp → slice_get r.actuals place ≡ Some actual →
      slice_get q.plan.periods place ≡ Some its → slice_get q.actuals place ≡ Some flight →
      fdp.report ≡ its.report → fdp.release ≡ its.release → fdp ≡ its
  same_fdp place fdp its actual flight a b c d report release = fdps_same fdp its
      (planned_report r.plan.periods sr.planned place fdp a) (planned_report q.plan.periods sq.planned place its c) report release
      (same_list fdp.segments its.segments
      (λ i v e. (segment_told s t id r q here there segments place fdp its actual flight a b c d i v e).planned)
      (λ i v e. (segment_told t s id q r there here segments' place its fdp flight actual c d a b i v e).planned))

  same_actual : (place : ℕ) (fdp its : Fdp) (actual flight : Option ActualTimes) →
      slice_get r.plan.periods place ≡ Some fdp → slice_get r.actuals place ≡ Some actual →
      slice_get q.plan.periods place ≡ Some its → slice_get q.actuals place ≡ Some flight →
      option_map (λ a. a.report) actual ≡ option_map (λ a. a.report) flight →
      option_map (λ a. a.release) actual ≡ option_map (λ a. a.release) flight → actual ≡ flight
  same_actual place fdp its None None a b c d report release = refl
  same_actual place fdp its None (Some y) a b c d report release = absurd (cc)
  same_actual place fdp its (Some x) None a b c d report release = absurd (cc)
  same_actual place fdp its (Some x) (Some y) a b c d report release =
      let ix = sr.actuals place x b in
      let iy = sq.actuals place y d in
      let count : length fdp.segments ≡ length x.segments = ap (λ (f : Fdp). length f.segments) (one_value a ix.planned) ∙ ix.count in
      let count' : length its.segments ≡ length y.segments = ap (λ (f : Fdp). length f.segments) (one_value c iy.planned) ∙ iy.count in
      let report_is : x.report ≡ y.report = cc in
      let release_is : x.release ≡ y.release = cc in
      let segments_are : x.segments ≡ y.segments = same_list x.segments y.segments
      (λ i v e.
      let g = within fdp x count i v e in
      sym (segment_told s t id r q here there segments place fdp its (Some x) (Some y) a b c d i g.0 g.1).flown ∙ e)
      (λ i v e.
      let g = within its y count' i v e in
      sym (segment_told t s id q r there here segments' place its fdp (Some y) (Some x) c d a b i g.0 g.1).flown ∙ e) in
      let same : x ≡ y = λ i. record {
        period = (ix.number ∙ sym iy.number) i;
        report = report_is i;
        release = release_is i;
        segments = segments_are i;
      } in
      ap Some same

  -- each place of one has the same period and actual in the other
  pub record AsHere (place : ℕ) (fdp : Fdp) (actual : Option ActualTimes) : Type 0 where
    pub planned : slice_get q.plan.periods place ≡ Some fdp
    pub flown : slice_get q.actuals place ≡ Some actual

  pub as_here : (place : ℕ) (fdp : Fdp) (actual : Option ActualTimes) → slice_get r.plan.periods place ≡ Some fdp → slice_get r.actuals place ≡ Some actual → AsHere place fdp actual
  as_here place fdp actual a b =
      let it = period_told s t id r q here there periods place fdp actual a b in
      record {
        planned = it.planned ∙ ap Some (sym (same_fdp place fdp it.its actual it.flight a b it.planned it.flown it.report it.release));
        flown = it.flown ∙ ap Some (sym (same_actual place fdp it.its actual it.flight a b it.planned it.flown it.act_report it.act_release));
      }

-- a period has a place for its actual, and a place is of a period
beside : {X Y : Type 0} (xs : List X) (ys : List Y) → length xs ≡ length ys → (i : ℕ) (x : X) → slice_get xs i ≡ Some x → (y : Y) × (slice_get ys i ≡ Some y)
beside xs ys count i x e =
    let inside = slice_get_within xs i x e in
    elim (slice_get_cases ys i).1 [
      | inl p ↦ (p.0, p.2)
      | inr p ↦ absurd (omega (arith, inside, count, p.0))
    ]

-- two pairings, but for who holds their seats
pub record SamePlan (r q : PairingEntry) : Type 0 where
  pub plan : r.plan ≡ q.plan
  pub actuals : r.actuals ≡ q.actuals

pub same_plan : (s t : State) (id : List ℕ) (r q : PairingEntry) → fin.get s.pairings id ≡ Some r → fin.get t.pairings id ≡ Some q →
    Planned id r → Planned id q →
    ((row : Row) → InPeriod s row → InPeriod t row) → ((row : Row) → InPeriod t row → InPeriod s row) →
    ((row : Row) → InSegment s row → InSegment t row) → ((row : Row) → InSegment t row → InSegment s row) → SamePlan r q
same_plan s t id r q here there sr sq periods periods' segments segments' =
    let to = as_here s t id r q here there sr sq periods periods' segments segments' in
    let back = as_here t s id q r there here sq sr periods' periods segments' segments in
    let plans : r.plan.periods ≡ q.plan.periods = same_list r.plan.periods q.plan.periods
    (λ i v e. let o = beside r.plan.periods r.actuals (sym sr.places) i v e in (to i v o.0 e o.1).planned)
    (λ i v e. let o = beside q.plan.periods q.actuals (sym sq.places) i v e in (back i v o.0 e o.1).planned) in
    record {
      plan = λ i. record { id = (sr.named ∙ sym sq.named) i; periods = plans i };
      actuals = same_list r.actuals q.actuals
          (λ i v e. let o = beside r.actuals r.plan.periods sr.places i v e in (to i o.0 v o.1 e).flown)
          (λ i v e. let o = beside q.actuals q.plan.periods sq.places i v e in (back i o.0 v o.1 e).flown);
    }

of_sound : (s : State) (id : List ℕ) (r : PairingEntry) → SoundPairing s.crew id r → Planned id r
of_sound s id r is = record { named = is.named; planned = is.planned; places = is.places; actuals = is.actuals }

pub same_pairing : (s t : State) (id : List ℕ) (r q : PairingEntry) → fin.get s.pairings id ≡ Some r → fin.get t.pairings id ≡ Some q →
    SoundPairing s.crew id r → SoundPairing t.crew id q →
    ((row : Row) → InPeriod s row → InPeriod t row) → ((row : Row) → InPeriod t row → InPeriod s row) →
    ((row : Row) → InSegment s row → InSegment t row) → ((row : Row) → InSegment t row → InSegment s row) →
    ((row : Row) → InSeat s row → InSeat t row) → ((row : Row) → InSeat t row → InSeat s row) → r ≡ q
same_pairing s t id r q here there sr sq periods periods' segments segments' seats seats' =
    let same = same_plan s t id r q here there (of_sound s id r sr) (of_sound t id q sq) periods periods' segments segments' in
    let holds : (seat : Seat) → holder seat r ≡ holder seat q = λ seat.
    same_option _ _ (holder_told s t id r q here there seats seat) (holder_told t s id q r there here seats' seat) in
    λ i. record { plan = same.plan i; actuals = same.actuals i; captain = holds Captain i; first_officer = holds FirstOfficer i }
