-- Where the tables are right, each row is a record of its table.
use Rattle.std.proofs.Common.{◌≡◌, inl, inr, refl, sym, subst, arith, ℕ, ◌<◌, ◌^◌, ◌+◌, true, List, Option, Some, None, slice_get, pos, ◌≤◌, IsUtf8, ◌⊎◌, zero, suc}
use Rattle.std.specs.Option.{option_map}
use Rattle.std.proofs.lemmas.Bool.{and_parts, cases_Bool}
use Rattle.std.proofs.lemmas.Option.{slice_get_within}
use Rattle.sqlite_value.specs.Order.{Row}
use Rattle.sqlite_rules.specs.Lists.{Has}
use Rattle.sqlite.specs.Effect.{Database}
use Rattle.duty.specs.Pairings.{are_shaped, has_shapes, ground_fault}
use Rattle.duty.specs.Plans.{ActualTimes, GroundPlan}
use Rattle.duty.specs.declared.segment.BlockTimes.{BlockTimes}
use Rattle.duty.specs.declared.segment.Segment.{Segment}
use Rattle.stored_json.specs.Instants.{period_has_instants, segment_has_instants, times_have_instants, is_instant}
use Rattle.roster.specs.State.{State}
use Rattle.tables.specs.Records.{IsNumberIfAny, IsSegmentRow, IsExceedanceRow, IsGroundRow, IsSeatRow, IsRequestRow, IsCrewRow, IsBookRow, segment_row}
use Rattle.tables.specs.Rows.{rows_of}
use Rattle.tables.specs.declared.segment.SegmentRecord.{SegmentRecord}
use Rattle.entries.proofs.Ascii.{id_utf8, flight_utf8, airport_utf8, zone_utf8}
use Rattle.state_rows.proofs.FewPeriods.{all_shaped, few_periods, few_segments}
use Rattle.entries.proofs.PlanStates.{all_at}
use Rattle.entries.specs.Right.{AreRight, IsPlanned, IsSegmentRight, IsDutyIn, IsSeatRight, IsInstantIfAny}
use Rattle.state_rows.specs.Rows.{At, PeriodOf, SegmentOf, crew, segment, row_of_segment, times_flown, named_id, named_number, exceedance, ground_duty, seat, table, seat_number, request, book, StateTable, row_of_period}
use Rattle.limits.specs.SectionText.{section_number}
use Rattle.limits.specs.declared.section.Section.{Section}
use Rattle.limits.specs.declared.section.Section.TheVariants.{FlightTime, FlightDutyPeriod, FlightTime672Hours, FlightTime365Days, FlightDutyPeriods168Hours, FlightDutyPeriods672Hours, ThirtyHourRest, TenHourRest}
use Rattle.roster.specs.declared.state.DutyId.{DutyId}
use Rattle.roster.specs.declared.state.DutyId.TheVariants.{Period, Outside}
use Rattle.entries.proofs.RecordedDuties.{period_fits as named_fits, recorded_in}
use Rattle.std.proofs.lemmas.Bool.Decides.{nat_tests}
use Rattle.duty.specs.Shape.{is_id}
use Rattle.command.specs.declared.member.Seat.{Seat}
use Rattle.command.specs.declared.member.Seat.TheVariants.{Captain, FirstOfficer}
use Rattle.roster.specs.Pairings.{holder}
use Rattle.roster.specs.Sound.{IsHolder}
use Rattle.command.specs.Keys.{key_name}
use Rattle.stored_json.specs.KeptText.{kept_text}
use Rattle.stored_json.specs.ReplyText.{reply_text}
use Rattle.entries.proofs.KeptTexts.{keys_same}
use Rattle.roster.specs.Bases.{home_zone}
use Rattle.state_rows.specs.Editions.{edition_number}
use Rattle.tables.specs.Schema.{segment_table}
use Rattle.entries.proofs.PlanLemmas.{there_within}
use Rattle.entries.specs.Keyed.{IsSegmentOf, IsSegmentTable}

-- ---- Values

-- the number of an instant has 32 bits
pub number_fits : (n : ℕ) → is_instant n ≡ true → n < 2 ^ 32
number_fits n e = grind (arith, nat_tests)

pub number_fits_if_any : (o : Option ℕ) → IsInstantIfAny o → IsNumberIfAny o
number_fits_if_any None is = tt
number_fits_if_any (Some n) is = number_fits n is

pub seat_fits : (seat : Seat) → seat_number seat < 2 ^ 32
seat_fits Captain = omega arith
seat_fits FirstOfficer = omega arith

section_fits : (section : Section) → section_number section < 2 ^ 32
section_fits FlightTime = omega arith
section_fits FlightDutyPeriod = omega arith
section_fits FlightTime672Hours = omega arith
section_fits FlightTime365Days = omega arith
section_fits FlightDutyPeriods168Hours = omega arith
section_fits FlightDutyPeriods672Hours = omega arith
section_fits ThirtyHourRest = omega arith
section_fits TenHourRest = omega arith

-- the shapes of its ids
ground_shapes : (g : GroundPlan) → ground_fault g ≡ None → (is_id g.id ≡ true) × (is_id g.crew ≡ true)
unfolding ground_fault
ground_shapes g e = elim (cases_Bool (is_id g.id)) [
  | inl first ↦ elim (cases_Bool (is_id g.crew)) [
    | inl second ↦ (first, second)
    | inr other ↦ absurd (let f = rw (first, other) at e in cc)
  ]
  | inr other ↦ absurd (let f = rw other at e in cc)
]

-- where the tables down to this one are right, each row of it is one of a record
abbrev pub HasRecords : StateTable → (Row → Type 0) → Type 0
HasRecords it IsRecord = (db : Database) (row : Row) → Has (rows_of (table it) db) row → AreRight it db → IsRecord row

pub book_rows : HasRecords book IsBookRow
book_rows db row h right = (
  record { one = pos 1; version = pos (edition_number right.1.0.1.0); zone = home_zone right.0.bases },
  zone_utf8 (home_zone right.0.bases) right.1.1,
  (right.1.0.1.1 row).0 h,
)

pub crew_rows : HasRecords crew IsCrewRow
crew_rows db row h right =
    let it = (right.1.1.1 row).0 h in
    let at = it.0 in
    let is = right.1.2 at.name at.value at.there in
    (record { id = at.name; seat = seat_number at.value.seat; name = at.value.name }, id_utf8 at.name is.id_shape, seat_fits at.value.seat, is.utf8, it.1)

pub seat_rows : HasRecords seat IsSeatRow
seat_rows db row h right =
    let it = (right.1.1.1 row).0 h in
    let at = it.0 in
    let held = it.1 in
    let seated = right.1.2 at.name at.value at.there in
    let kind : (seat : Seat) → IsHolder right.0.crew seat (holder seat at.value) = λ s. elim s as (λ k. IsHolder right.0.crew k (holder k at.value)) [ Captain ↦ seated.captain | FirstOfficer ↦ seated.first_officer ] in
    let m = kind held.seat held.crew held.held in
    let named = right.1.0.0.0.2 at.name at.value at.there in
    let member = right.1.0.0.0.0.2 held.crew m.0 m.1 in
    (record { pairing = at.name; seat = seat_number held.seat; crew = held.crew }, id_utf8 at.name named, seat_fits held.seat, id_utf8 held.crew member.id_shape, it.2)

pub ground_rows : HasRecords ground_duty IsGroundRow
ground_rows db row h right =
    let it = (right.1.1.1 row).0 h in
    let at = it.0 in
    let is = right.1.2 at.name at.value at.there in
    let shapes = ground_shapes at.value is.made in (
      record { id = at.name; crew = at.value.crew; task = at.value.task; begin_at = at.value.begin; end_at = at.value.end },
      subst IsUtf8 is.named (id_utf8 at.value.id shapes.0),
      id_utf8 at.value.crew shapes.1,
      is.utf8,
      number_fits at.value.begin is.begin,
      number_fits at.value.end is.end,
      it.1,
    )

-- the id of what is named is a text
id_is_text : (s : State) (db : Database) → IsSeatRight s db → (named : DutyId) → IsDutyIn s.pairings named → IsUtf8 (named_id named)
id_is_text s db down (Period p) is = id_utf8 p.pairing (down.0.0.0.2 p.pairing is.entry is.of_pairing)
id_is_text s db down (Outside id) is = is

pub exceedance_rows : HasRecords exceedance IsExceedanceRow
exceedance_rows db row h right =
    let it = recorded_in right.0 db right.1 row h in
    let id = it.0 in
    let named = it.1 in
    let is = it.3 in
    let down = right.1.0.0 in
    let part = is.is_key.2 in
    let fits = named_fits right.0 down.0.3 named is.of_duty in (
      record { number = pos id.key.number; part = id.key.part; crew = id.crew; section = section_number id.section; pairing = named_id named; period = named_number named },
      omega (arith, part),
      id_utf8 id.crew (down.0.0.0.0.2 id.crew is.member is.of_member).id_shape,
      section_fits id.section,
      id_is_text right.0 db down named is.of_duty,
      omega (arith, fits),
      it.2,
    )

pub request_rows : HasRecords request IsRequestRow
request_rows db row h right =
    let it = (right.1.1.1 row).0 h in
    let at = it.0 in
    let known = right.1.2.0 (key_name at.key) at.kept at.there in
    let is = known.2 in
    let same : at.key ≡ known.0 = keys_same at.key known.0 known.1 in
    let part : at.key.part ≤ 10_000 = subst (λ k. k.part ≤ 10_000) (sym same) is.is_key.2 in (
      record { number = pos at.key.number; part = at.key.part; command = kept_text at.kept.command; reply = reply_text at.kept.reply },
      omega (arith, part),
      is.utf8.0,
      is.utf8.1,
      it.1,
    )

-- ---- Those of `segment`

times_fit : (times : Option BlockTimes) → ((x : BlockTimes) → times ≡ Some x → times_have_instants x ≡ true) →
    IsNumberIfAny (option_map (λ t. t.block_out) times) × IsNumberIfAny (option_map (λ t. t.block_in) times)
times_fit None are = (tt, tt)
times_fit (Some x) are = let both = and_parts _ _ (are x refl) in (number_fits x.block_out both.0, number_fits x.block_in both.1)

abbrev told_segment : List ℕ → ℕ → ℕ → Segment → Option BlockTimes → SegmentRecord
told_segment id place number it times = record {
  pairing = id;
  period = place + 1;
  number = number + 1;
  flight = it.flight;
  origin = it.from;
  destination = it.to;
  out_at = it.block_out;
  in_at = it.block_in;
  act_out = option_map (λ t. t.block_out) times;
  act_in = option_map (λ t. t.block_in) times;
}

module _ (t : State) (db : Database) (right : IsSegmentRight t db) where
  module _ (at : At t.pairings) (p : PeriodOf at.value) where
    is : IsPlanned at.name at.value
    is = right.3 at.name at.value at.there

    flown_at : (actual : Option ActualTimes) → slice_get at.value.actuals p.place ≡ Some actual → (j : ℕ) (x : BlockTimes) → times_flown actual j ≡ Some x → times_have_instants x ≡ true
    flown_at None b j x e = absurd (cc)
    flown_at (Some a) b j x e = all_at times_have_instants a.segments (is.actuals p.place a b).1.2 j x e

    module _ (g : SegmentOf p.fdp) where
      shapes : has_shapes g.segment ≡ true
      shapes =
          all_at has_shapes p.fdp.segments (all_at are_shaped at.value.plan.periods (all_shaped at.value.plan is.plan) p.place p.fdp p.planned) g.place g.segment g.planned

      instants : segment_has_instants g.segment ≡ true
      instants =
          let all = and_parts _ _ (all_at period_has_instants at.value.plan.periods is.instants p.place p.fdp p.planned) in
          all_at segment_has_instants p.fdp.segments all.1 g.place g.segment g.planned

      period_fits : p.place + 1 < 2 ^ 32
      period_fits =
          let place = slice_get_within at.value.plan.periods p.place p.fdp p.planned in
          let few = few_periods at.value.plan is.plan in
          omega (arith, place, few)

      segment_fits : g.place + 1 < 2 ^ 32
      segment_fits =
          let place = slice_get_within p.fdp.segments g.place g.segment g.planned in
          let few = few_segments at.value.plan is.plan p.place p.fdp p.planned in
          omega (arith, place, few)

      is_record : IsSegmentRow (row_of_segment at.name p.place g.place g.segment (times_flown p.actual g.place))
      is_record =
          let codes = and_parts _ _ shapes in
          let times = times_fit (times_flown p.actual g.place) (λ x e. flown_at p.actual p.flown g.place x e) in (
            told_segment at.name p.place g.place g.segment (times_flown p.actual g.place),
            id_utf8 at.name (right.0.0.2 at.name at.value at.there),
            period_fits,
            segment_fits,
            flight_utf8 g.segment.flight (and_parts _ _ codes.0).0,
            airport_utf8 g.segment.from (and_parts _ _ codes.0).1,
            airport_utf8 g.segment.to codes.1,
            number_fits g.segment.block_out (and_parts _ _ instants).0,
            number_fits g.segment.block_in (and_parts _ _ instants).1,
            times.0,
            times.1,
            refl,
          )

      no_gap : (place : ℕ) → g.place ≡ place → (g.place + 1 ≡ 1) ⊎ ((before : SegmentRecord) × Has (rows_of segment_table db) (segment_row before)
          × (before.pairing ≡ at.name) × (before.period ≡ p.place + 1) × (before.number + 1 ≡ g.place + 1))
      no_gap zero e = inl (omega (arith, e))
      no_gap (suc j) e =
          let number = slice_get_within p.fdp.segments g.place g.segment g.planned in
          let before = there_within p.fdp.segments j (omega (arith, number, e)) in
          let it : SegmentOf p.fdp = record { place = j; segment = before.0; planned = before.1 } in
          inr (
            told_segment at.name p.place j before.0 (times_flown p.actual j),
            (right.2.1 (row_of_segment at.name p.place j before.0 (times_flown p.actual j))).1 (at, p, it, refl),
            refl,
            refl,
            omega (arith, e),
          )

      of_period : IsSegmentOf db (row_of_segment at.name p.place g.place g.segment (times_flown p.actual g.place))
      of_period = record {
        it = told_segment at.name p.place g.place g.segment (times_flown p.actual g.place);
        is = refl;
        of_period = (
          record {
            pairing = at.name;
            number = p.place + 1;
            report_at = p.fdp.report;
            release_at = p.fdp.release;
            act_report = option_map (λ a. a.report) p.actual;
            act_release = option_map (λ a. a.release) p.actual;
          },
          (right.1 (row_of_period at.name p.place p.fdp p.actual)).1 (at, p, refl),
          refl,
          refl,
        );
        no_gap = no_gap g.place refl;
      }

  pub segments_fit : IsSegmentTable db
  segments_fit = (
    right.2.0,
    λ row h. let it = (right.2.1 row).0 h in subst IsSegmentRow (sym it.3) (is_record it.0 it.1 it.2),
    λ row h. let it = (right.2.1 row).0 h in subst (IsSegmentOf db) (sym it.3) (of_period it.0 it.1 it.2),
  )

pub segment_rows : HasRecords segment IsSegmentRow
segment_rows db row h right = (segments_fit right.0 db right.1).1 row h
