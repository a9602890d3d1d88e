-- A duty is inside the times of its period, in a sound state and of a command that is made.
use Rattle.std.proofs.Common.{◌≡◌, ℕ, zero, suc, ◌+◌, ◌≤◌, Bool, true, false, not, nat_le, nat_lt, ◌&&◌, List, [], ◌∷◌, length, map, Contains, Option, Some, None, option_map, slice_get, refl, sym, ap, subst, ◌∙◌, inl, inr, arith}
use Rattle.std.specs.Prelude.{ℤ, pos, negsuc, ◌≤ℤ◌, ◌<ℤ◌}
use Rattle.std.specs.FinMap as fin
use Rattle.std.specs.List.{list_all, list_any, position_from, zip}
use Rattle.std.proofs.lemmas.Int.{ints}
use Rattle.std.proofs.lemmas.Bool.{false≢true, and_parts, cases_Bool, or_cases, leb-true, ltb-true}
use Rattle.std.proofs.lemmas.Option.{same_Some}
use Rattle.duty.specs.DutiesInForce.{fdp_times, in_force, outside_times, span_between, span_of}
use Rattle.duty.specs.FdpTimes.{FdpTimes}
use Rattle.duty.specs.Minutes.{covers, last_in, minutes_of, spans_of}
use Rattle.duty.proofs.SpanFacts.{covers-true}
use Rattle.duty.specs.Pairings.{pairing_fault, count_fault, times_fault, chain_fault, outside_fault, actual_fault, are_shaped, block_times, is_in_order, is_segment_count, is_timely, is_within_duty}
use Rattle.duty.specs.Plans.{ActualTimes, OutsidePlan, Plan, flown_at, retimed}
use Rattle.duty.specs.Shape.{is_id, is_within}
use Rattle.duty.specs.Words.{beside, first_fault, first_failing, unless}
use Rattle.duty.specs.declared.duty_in_force.DutyInForce.{DutyInForce}
use Rattle.duty.specs.declared.duty_in_force.DutyInForce.TheVariants as times
use Rattle.duty.specs.declared.fault.DutyFault.{DutyFault}
use Rattle.duty.specs.declared.fault.DutyFault.TheVariants.{BadField, BadTimes, SegmentCount}
use Rattle.duty.specs.declared.fault.Field.TheVariants as field
use Rattle.duty.specs.declared.fdp.Fdp.{Fdp}
use Rattle.duty.specs.declared.kind.Kind.{Kind}
use Rattle.duty.specs.declared.kind.Kind.TheVariants.{Flight, FlightDuty, Duty}
use Rattle.duty.specs.declared.placed_duty.Duty.TheVariants as duty
use Rattle.duty.specs.declared.segment.BlockTimes.{BlockTimes}
use Rattle.duty.specs.declared.segment.Segment.{Segment}
use Rattle.duty.specs.declared.span.Span.{Span}
use Rattle.roster.specs.Pairings.{flown, periods_in_force}
use Rattle.roster.specs.Sound.{IsActual, Sound}
use Rattle.roster.specs.State.{State}
use Rattle.roster.specs.declared.state.PairingEntry.{PairingEntry}
use Rattle.roster.proofs.Members.{in_map, is_first, is_later}
use Rattle.roster.proofs.Standing.{IsPeriod}
use Rattle.limits.specs.Reach.{IsDuring}
use Rattle.roster.specs.Near.{period_times}

-- ---- Periods by their block times

-- a minute that a span covers
covered : (i : ℤ) (s : Span) → covers i s ≡ true → (pos s.from ≤ℤ i) × (i <ℤ pos s.to)
covered (pos n) s is =
    let c = covers-true n s is in
    let a = c.0 in
    let b = c.1 in
    (omega (arith, ints), omega (arith, ints))
covered (negsuc n) s is = absurd (false≢true is)

-- a minute of one span
pub of_one : (i : ℤ) (s : Span) → list_any (covers i) (s ∷ []) ≡ true → (pos s.from ≤ℤ i) × (i <ℤ pos s.to)
of_one i s is =
    elim (or_cases _ _ is) [
      | inl here ↦ covered i s here
      | inr none ↦ absurd (false≢true none)
    ]

-- the times of a segment in order are inside
timely : (report release : ℕ) (s : BlockTimes) → is_within_duty report release s ≡ true → (report ≤ s.block_out) × (s.block_in ≤ release)
timely report release s is =
    let p = and_parts (nat_le report s.block_out && nat_lt s.block_out s.block_in) (nat_le s.block_in release) is in
    let q = and_parts (nat_le report s.block_out) (nat_lt s.block_out s.block_in) p.0 in
    (leb-true report s.block_out q.0, leb-true s.block_in release p.1)

-- block times that are between report and release
abbrev AreWithin : ℕ → ℕ → List BlockTimes → Type 0
AreWithin report release blocks = list_all (is_within_duty report release) blocks ≡ true

in_turn : (report release : ℕ) (b : BlockTimes) (blocks : List BlockTimes) → AreWithin report release (b ∷ blocks) →
    (is_within_duty report release b ≡ true) × AreWithin report release blocks
in_turn report release b blocks all =
    and_parts (is_within_duty report release b) (list_all (is_within_duty report release) blocks) all

in_blocks : (report release : ℕ) (blocks : List BlockTimes) (i : ℤ) → AreWithin report release blocks →
    list_any (covers i) (map span_between blocks) ≡ true → (pos report ≤ℤ i) × (i <ℤ pos release)
in_blocks report release [] i all is = absurd (false≢true is)
in_blocks report release (b ∷ blocks) i all is =
    let parts = in_turn report release b blocks all in
    elim (or_cases _ _ is) [
      | inl here ↦ (let c = covered i (span_between b) here in
          let t = timely report release b parts.0 in
          let low = c.0 in
          let high = c.1 in
          let begin = t.0 in
          let end = t.1 in
          (omega (arith, ints), omega (arith, ints)))
      | inr there ↦ in_blocks report release blocks i parts.1 there
    ]

last_block : (report release at : ℕ) (blocks : List BlockTimes) → at ≤ release → AreWithin report release blocks →
    last_in at (map span_between blocks) ≤ release
last_block report release at [] by all = by
last_block report release at (b ∷ blocks) by all =
    let parts = in_turn report release b blocks all in
    last_block report release b.block_in blocks (timely report release b parts.0).1 parts.1

-- a report is by the release, where there is a segment
in_time : (report release : ℕ) (blocks : List BlockTimes) → 1 ≤ length blocks → AreWithin report release blocks →
    report ≤ release
in_time report release [] some all = absurd (omega arith)
in_time report release (b ∷ blocks) some all =
    let within = (in_turn report release b blocks all).0 in
    let p = and_parts (nat_le report b.block_out && nat_lt b.block_out b.block_in) (nat_le b.block_in release) within in
    let q = and_parts (nat_le report b.block_out) (nat_lt b.block_out b.block_in) p.0 in
    let low = leb-true report b.block_out q.0 in
    let middle = ltb-true b.block_out b.block_in q.1 in
    let high = leb-true b.block_in release p.1 in
    omega arith

fdp_minutes : (t : FdpTimes) (blocks : List BlockTimes) → t.segments ≡ map span_between blocks → t.report ≤ t.release →
    AreWithin t.report t.release blocks → (kind : Kind) (i : ℤ) → minutes_of (spans_of kind (times.Fdp t)) i ≡ true →
    (pos t.report ≤ℤ i) × (i <ℤ pos t.release)
fdp_minutes t blocks same order all Flight i is =
    in_blocks t.report t.release blocks i all (ap (λ spans. list_any (covers i) spans) (sym same) ∙ is)
fdp_minutes t blocks same order all FlightDuty i is =
    let m = of_one i (record { from = t.report; to = last_in t.report t.segments }) is in
    let last = last_block t.report t.release t.report blocks order all in
    let e : last_in t.report t.segments ≡ last_in t.report (map span_between blocks) = ap (last_in t.report) same in
    let low = m.0 in
    let high = m.1 in
    (omega (arith, ints), omega (arith, ints))
fdp_minutes t blocks same order all Duty i is = of_one i (record { from = t.report; to = t.release }) is

abbrev report_of : DutyInForce → ℕ
report_of (times.Fdp fdp) = fdp.report
report_of (times.Ground span) = 0

fdp_inside : (t : FdpTimes) (blocks : List BlockTimes) → t.segments ≡ map span_between blocks → t.report ≤ t.release →
    AreWithin t.report t.release blocks →
    IsDuring (record { from = t.report; to = t.release }) (times.Fdp t)
fdp_inside t blocks same order all = record {
  minutes = λ kind i is. fdp_minutes t blocks same order all kind i is;
  report = λ fdp is. (let e : t.report ≡ fdp.report = ap report_of is in (omega arith, omega arith));
}

spans_are : (segments : List Segment) → map span_of segments ≡ map span_between (map block_times segments)
spans_are [] = refl
spans_are (s ∷ segments) = ap (λ rest. span_of s ∷ rest) (spans_are segments)

period_inside : (zone : List ℕ) (f : Fdp) → f.report ≤ f.release → AreWithin f.report f.release (map block_times f.segments) →
    IsDuring (record { from = f.report; to = f.release }) (in_force zone (duty.Fdp f))
period_inside zone f order all = fdp_inside (fdp_times zone f) (map block_times f.segments) (spans_are f.segments) order all

-- ---- Flown times

retimed_within : (report release : ℕ) (segments : List Segment) (blocks : List BlockTimes) → AreWithin report release blocks →
    AreWithin report release (map block_times (map retimed (zip segments blocks)))
retimed_within report release [] blocks all = refl
retimed_within report release (s ∷ segments) [] all = refl
retimed_within report release (s ∷ segments) (b ∷ blocks) all =
    let parts = in_turn report release b blocks all in
    ap (λ t. t && list_all (is_within_duty report release) (map block_times (map retimed (zip segments blocks)))) parts.0
    ∙ retimed_within report release segments blocks parts.1

pub no_first : (fault : Option DutyFault) (rest : List (Option DutyFault)) → first_fault (fault ∷ rest) ≡ None → (fault ≡ None) × (first_fault rest ≡ None)
no_first None rest e = (refl, e)
no_first (Some fault) rest e = absurd (cc)

passed_is : (passed : Bool) (fault : DutyFault) → unless passed fault ≡ None → passed ≡ true
passed_is true fault e = refl
passed_is false fault e = absurd (cc)

some : (n : ℕ) → is_segment_count n ≡ true → 1 ≤ n
some n is = leb-true 1 n (and_parts (nat_le 1 n) (nat_le n 12) is).0

actual_times : (a : ActualTimes) → actual_fault a ≡ None → (a.report ≤ a.release) × AreWithin a.report a.release a.segments
unfolding actual_fault
actual_times a e =
    let one = no_first (unless (is_segment_count (length a.segments)) (SegmentCount a.period)) (unless (is_in_order a.report a.release a.segments) (BadTimes a.period) ∷ []) e in
    let counted = passed_is (is_segment_count (length a.segments)) (SegmentCount a.period) one.0 in
    let two = no_first (unless (is_in_order a.report a.release a.segments) (BadTimes a.period)) [] one.1 in
    let order = passed_is (is_in_order a.report a.release a.segments) (BadTimes a.period) two.0 in
    let all = (and_parts (list_all (is_within_duty a.report a.release) a.segments) _ order).0 in
    (in_time a.report a.release a.segments (some (length a.segments) counted) all, all)

pub outside_inside : (o : OutsidePlan) → outside_fault o ≡ None →
    IsDuring (record { from = o.report; to = o.release }) (times.Fdp (outside_times o))
unfolding outside_fault
outside_inside o e =
    let zero = no_first (unless (is_id o.id) (BadField field.Outside)) (unless (is_segment_count (length o.segments)) (SegmentCount 0) ∷ unless (is_in_order o.report o.release o.segments) (BadTimes 0) ∷ []) e in
    let one = no_first (unless (is_segment_count (length o.segments)) (SegmentCount 0)) (unless (is_in_order o.report o.release o.segments) (BadTimes 0) ∷ []) zero.1 in
    let counted = passed_is (is_segment_count (length o.segments)) (SegmentCount 0) one.0 in
    let two = no_first (unless (is_in_order o.report o.release o.segments) (BadTimes 0)) [] one.1 in
    let order = passed_is (is_in_order o.report o.release o.segments) (BadTimes 0) two.0 in
    let all = (and_parts (list_all (is_within_duty o.report o.release) o.segments) _ order).0 in
    fdp_inside (outside_times o) o.segments refl (in_time o.report o.release o.segments (some (length o.segments) counted) all) all

pub flown_inside : (zone : List ℕ) (f : Fdp) (a : ActualTimes) → actual_fault a ≡ None →
    IsDuring (record { from = a.report; to = a.release }) (in_force zone (duty.Fdp (flown_at f a)))
flown_inside zone f a e =
    let t = actual_times a e in
    period_inside zone (flown_at f a) t.0 (retimed_within a.report a.release f.segments a.segments t.1)

-- ---- Planned times

timely_at : (before n : ℕ) (fs : List Fdp) → position_from (λ p. not (is_timely p)) n (beside before (λ f. f.release) fs) ≡ None →
    (k : ℕ) (f : Fdp) → slice_get fs k ≡ Some f → AreWithin f.report f.release (map block_times f.segments)
timely_at before n [] e k f there = absurd (let no : None ≡ Some f = there in cc)
timely_at before n (x ∷ fs) e k f there = elim (cases_Bool (is_timely (before, x))) [
  | inl passed ↦ here k there passed (λ j found. timely_at x.release (n + 1) fs (rw passed at e) j f found)
  | inr failed ↦ absurd (let no = rw failed at e in cc)
]
  where
    here : (k : ℕ) → slice_get (x ∷ fs) k ≡ Some f → is_timely (before, x) ≡ true →
        ((j : ℕ) → slice_get fs j ≡ Some f → AreWithin f.report f.release (map block_times f.segments)) →
        AreWithin f.report f.release (map block_times f.segments)
    here zero there passed rest =
        let all = (and_parts (list_all (is_within_duty x.report x.release) (map block_times x.segments)) _
        (and_parts (nat_le before x.report) (is_in_order x.report x.release (map block_times x.segments)) passed).1).0 in
        subst (λ (g : Fdp). AreWithin g.report g.release (map block_times g.segments)) (same_Some x f there) all
    here (suc k) there passed rest = rest k there

counted_at : (n : ℕ) (fs : List Fdp) → position_from (λ (f : Fdp). not (is_segment_count (length f.segments))) n fs ≡ None →
    (k : ℕ) (f : Fdp) → slice_get fs k ≡ Some f → 1 ≤ length f.segments
counted_at n [] e k f there = absurd (let no : None ≡ Some f = there in cc)
counted_at n (x ∷ fs) e k f there = elim (cases_Bool (is_segment_count (length x.segments))) [
  | inl passed ↦ here k there passed (λ j found. counted_at (n + 1) fs (rw passed at e) j f found)
  | inr failed ↦ absurd (let no = rw failed at e in cc)
]
  where
    here : (k : ℕ) → slice_get (x ∷ fs) k ≡ Some f → is_segment_count (length x.segments) ≡ true →
        ((j : ℕ) → slice_get fs j ≡ Some f → 1 ≤ length f.segments) → 1 ≤ length f.segments
    here zero there passed rest = subst (λ (g : Fdp). 1 ≤ length g.segments) (same_Some x f there) (some (length x.segments) passed)
    here (suc k) there passed rest = rest k there

none_of : {A B : Type 0} (f : A → B) (o : Option A) → option_map f o ≡ None → o ≡ None
none_of f None e = refl
none_of f (Some a) e = absurd (cc)

counts : (p : Plan) → pairing_fault p ≡ None → (count_fault p.periods ≡ None) × (times_fault p.periods ≡ None)
unfolding pairing_fault
counts p e =
    let a = no_first (unless (is_id p.id) (BadField field.Pairing)) (unless (list_all are_shaped p.periods) (BadField field.Periods) ∷ count_fault p.periods ∷ times_fault p.periods ∷ chain_fault p.periods ∷ []) e in
    let b = no_first (unless (list_all are_shaped p.periods) (BadField field.Periods)) (count_fault p.periods ∷ times_fault p.periods ∷ chain_fault p.periods ∷ []) a.1 in
    let c = no_first (count_fault p.periods) (times_fault p.periods ∷ chain_fault p.periods ∷ []) b.1 in
    let d = no_first (times_fault p.periods) (chain_fault p.periods ∷ []) c.1 in
    (c.0, d.0)

none_miscounted : (periods : List Fdp) → count_fault periods ≡ None →
    position_from (λ (f : Fdp). not (is_segment_count (length f.segments))) 1 periods ≡ None
unfolding count_fault
none_miscounted periods e =
    none_of SegmentCount (first_failing (λ (f : Fdp). is_segment_count (length f.segments)) periods)
    (no_first (option_map SegmentCount (first_failing (λ (f : Fdp). is_segment_count (length f.segments)) periods)) []
    (no_first (unless (is_within 1 10 (length periods)) (SegmentCount 0)) (option_map SegmentCount (first_failing (λ (f : Fdp). is_segment_count (length f.segments)) periods) ∷ []) e).1).0

none_untimely : (periods : List Fdp) → times_fault periods ≡ None →
    position_from (λ p. not (is_timely p)) 1 (beside 0 (λ (f : Fdp). f.release) periods) ≡ None
unfolding times_fault
none_untimely periods e = none_of BadTimes (first_failing is_timely (beside 0 (λ (f : Fdp). f.release) periods)) e

planned_inside : (p : Plan) → pairing_fault p ≡ None → (zone : List ℕ) (k : ℕ) (f : Fdp) → slice_get p.periods k ≡ Some f →
    IsDuring (record { from = f.report; to = f.release }) (in_force zone (duty.Fdp f))
planned_inside p e zone k f there =
    let c = counts p e in
    let all = timely_at 0 1 p.periods (none_untimely p.periods c.1) k f there in
    let many = counted_at 1 p.periods (none_miscounted p.periods c.0) k f there in
    period_inside zone f (in_time f.report f.release (map block_times f.segments) (mapped f.segments many) all) all
  where
    mapped : (segments : List Segment) → 1 ≤ length segments → 1 ≤ length (map block_times segments)
    mapped [] many = absurd (omega arith)
    mapped (s ∷ segments) many = omega arith

-- ---- Periods in force

from_zip : (fs : List Fdp) (actuals : List (Option ActualTimes)) (k : ℕ) (f : Fdp) → slice_get (map flown (zip fs actuals)) k ≡ Some f →
    (g : Fdp) × (a : Option ActualTimes) × (slice_get fs k ≡ Some g) × (slice_get actuals k ≡ Some a) × (flown (g, a) ≡ f)
from_zip [] actuals k f there = absurd (let no : None ≡ Some f = there in cc)
from_zip (g ∷ fs) [] k f there = absurd (let no : None ≡ Some f = there in cc)
from_zip (g ∷ fs) (a ∷ actuals) zero f there = (g, a, refl, refl, same_Some (flown (g, a)) f there)
from_zip (g ∷ fs) (a ∷ actuals) (suc k) f there = from_zip fs actuals k f there

at_place : {X : Type 0} (xs : List X) (k : ℕ) (x : X) → slice_get xs k ≡ Some x → Contains xs x
at_place [] k x there = absurd (let no : None ≡ Some x = there in cc)
at_place (y ∷ xs) zero x there = is_first y xs x (same_Some y x there)
at_place (y ∷ xs) (suc k) x there = is_later y xs x (at_place xs k x there)

abbrev Inside : List ℕ → Fdp → Type 0
Inside zone f = IsDuring (record { from = f.report; to = f.release }) (in_force zone (duty.Fdp f))

in_force_inside : (zone : List ℕ) (r : PairingEntry) → pairing_fault r.plan ≡ None →
    ((i : ℕ) (a : ActualTimes) → slice_get r.actuals i ≡ Some (Some a) → IsActual r.plan i a) →
    (k : ℕ) (g : Fdp) (a : Option ActualTimes) → slice_get r.plan.periods k ≡ Some g → slice_get r.actuals k ≡ Some a →
    Inside zone (flown (g, a))
in_force_inside zone r plan actuals k g None planned there = planned_inside r.plan plan zone k g planned
in_force_inside zone r plan actuals k g (Some a) planned there = flown_inside zone g a (actuals k a there).in_order

-- a period of a pairing is inside one of the pairing's times
pub stands_inside : (s : State) → Sound s → (id : List ℕ) (r : PairingEntry) → fin.get s.pairings id ≡ Some r →
    (zone : List ℕ) (number : ℕ) (d : DutyInForce) → IsPeriod zone r number d → (times : Span) × Contains (period_times r) times × IsDuring times d
stands_inside s sound id r there zone number d is =
    let p = sound.pairings id r there in
    let z = from_zip r.plan.periods r.actuals is.place is.fdp is.found in
    let inside = subst (Inside zone) z.4 (in_force_inside zone r p.plan p.actuals is.place z.0 z.1 z.2 z.3) in
    let times : Span = record { from = is.fdp.report; to = is.fdp.release } in (
      times,
      in_map (λ (f : Fdp). record { from = f.report; to = f.release }) (periods_in_force r) is.fdp (at_place (periods_in_force r) is.place is.fdp is.found),
      subst (IsDuring times) is.is inside,
    )
