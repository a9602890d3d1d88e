-- There is an answer of what is nearest to each limit, of all duties.
use Rattle.std.proofs.Common.{◌≡◌, ℕ, zero, suc, ◌+◌, ◌/◌, ◌<◌, ◌≤◌, Bool, true, List, [], ◌∷◌, Option, Some, None, length, refl, sym, ap, ◌∙◌, subst, arith, inl, inr, ◌⊎◌}
use Rattle.std.specs.Prelude.{ℤ, pos, negsuc, ◌+ℤ◌, ◌-ℤ◌, ◌*ℤ◌, ◌≤ℤ◌, ◌<ℤ◌, slice_get}
use Rattle.std.specs.List.{flat_map}
use Rattle.std.proofs.lemmas.Bool.{false≢true, cases_lt, or_cases}
use Rattle.std.proofs.lemmas.Int.{ints, by_lt_z}
use Rattle.duty.specs.FdpTimes.{FdpTimes}
use Rattle.duty.specs.declared.duty_in_force.DutyInForce.{DutyInForce}
use Rattle.duty.specs.declared.duty_in_force.DutyInForce.TheVariants.{Fdp, Ground}
use Rattle.duty.specs.declared.kind.Kind.TheVariants.{Flight, FlightDuty, Duty}
use Rattle.duty.specs.declared.span.Span.{Span}
use Rattle.duty.specs.Minutes.{count, minutes_of, minutes_in, spans_of, flight_time, fdp_length, Meets}
use Rattle.duty.proofs.Counting.{meets_or_free, meets-count, window_end}
use Rattle.duty.proofs.SpanFacts.{covers-true, no_negative}
use Rattle.nearness.specs.Fullest.{HasNoMinute}
use Rattle.nearness.specs.Nearest.{Counts, Touches, minutes_set, minutes_left, IsMeasured, IsNearest, HasNone}
use Rattle.nearness.specs.Nearness.{IsNearness, IsNearestPeriod, IsWindow, IsYear}
use Rattle.nearness.specs.declared.all_limits.Nearness.{Nearness}
use Rattle.nearness.specs.declared.periods.MeasuredPeriod.{MeasuredPeriod}
use Rattle.nearness.specs.declared.periods.PeriodLimit.{PeriodLimit}
use Rattle.nearness.specs.declared.periods.PeriodLimit.TheVariants.{TableA, TableB, ThirtyHours, TenHours}
use Rattle.nearness.specs.declared.windows.FullestWindow.{FullestWindow}
use Rattle.nearness.proofs.Extremes.{first_most}
use Rattle.nearness.proofs.FreeTime.{longest_of, free_of}
use Rattle.nearness.proofs.Measured.{kept_aside, kept_after, kept_none, taken_after, taken_first, same_fdp}
use Rattle.nearness.proofs.Years.{year_end}

-- ---- Windows

meets_or_not : (set : ℤ → Bool) (start : ℤ) (width : ℕ) → Meets set start width ⊎ (Meets set start width → ⊥)
meets_or_not set start width = elim (meets_or_free set start width) [
  | inl m ↦ inl m
  | inr free ↦ inr (λ m. let some = meets-count set start width m in absurd (omega arith))
]

-- all minutes of the spans are before some minute
ends : (spans : List Span) → (end : ℕ) × ((minute : ℕ) → minutes_of spans (pos minute) ≡ true → minute < end)
ends [] = (0, λ minute is. absurd (false≢true is))
ends (s ∷ spans) =
    let rest = ends spans in (
      s.to + rest.0,
      λ minute is. elim (or_cases _ _ is) [
        | inl here ↦ (let c = covers-true minute s here in omega arith)
        | inr later ↦ (let l = rest.1 minute later in omega arith)
      ],
    )

-- minutes in a row that meet the spans end with a natural number, less than `width` minutes after all spans
window_place : (spans : List Span) (width : ℕ) (start minute : ℤ) → start ≤ℤ minute → minute <ℤ (start +ℤ pos width) →
    minutes_of spans minute ≡ true → (end : ℕ) × (end < (ends spans).0 + width) × (start ≡ pos end -ℤ pos width)
window_place spans width start (pos n) from to is =
    let w = window_end start width n from to in
    let until = w.3 in
    let before = (ends spans).1 n is in
    (w.0, omega arith, w.1)
window_place spans width start (negsuc n) from to is = absurd (false≢true (sym (no_negative spans n) ∙ is))

each_window : (all : ℤ → Bool) (new : List Span) (width : ℕ) → 0 < width →
    (answer : Option FullestWindow) × IsWindow all (minutes_of new) width answer
each_window all new width some =
    let set = minutes_of new in
    elim (first_most (λ start. Meets set start width) (λ start. count all start width) width ((ends new).0 + width)
    (λ start. meets_or_not set start width)
    (λ start m. window_place new width start m.minute m.from_start m.before_end m.member)) [
      | inl best ↦ (
        Some (record { minutes = count all best.0 width; start = best.0 }),
        record {
          some = record { meets = best.1.is; holds = refl; most = best.1.most; first = best.1.first };
          none = tt;
        },
      )
      | inr none ↦ (
        None,
        record {
          some = tt;
          none = λ minute is. none minute (record {
            minute = minute;
            from_start = omega (arith, ints);
            before_end = omega (arith, ints);
            member = is;
          });
        },
      )
    ]

-- ---- Years

-- 365 days in a row that meet the spans end with a natural number of days, fewer than the minutes of a year and of all before the spans' end
year_place : (spans : List Span) (day minute : ℤ) → (day *ℤ pos 1_440) ≤ℤ minute → minute <ℤ (day *ℤ pos 1_440 +ℤ pos 525_600) →
    minutes_of spans minute ≡ true → (days : ℕ) × (days < (ends spans).0 + 525_600) × (day ≡ pos days -ℤ pos 365)
year_place spans day (pos n) from to is =
    let w = year_end day n from to in
    let until = w.4 in
    let before = (ends spans).1 n is in
    (w.0, omega arith, w.2)
year_place spans day (negsuc n) from to is = absurd (false≢true (sym (no_negative spans n) ∙ is))

-- each minute of the spans is one of a year
no_year : (spans : List Span) → ((day : ℤ) → Meets (minutes_of spans) (day *ℤ pos 1_440) 525_600 → ⊥) → HasNoMinute (minutes_of spans)
no_year spans none (negsuc n) is = false≢true (sym (no_negative spans n) ∙ is)
no_year spans none (pos n) is =
    let day : ℕ = n / 1_440 in
    none (pos day) (record {
      minute = pos n;
      from_start = omega (arith, ints);
      before_end = omega (arith, ints);
      member = is;
    })

each_year : (all : ℤ → Bool) (new : List Span) → (answer : Option FullestWindow) × IsYear all (minutes_of new) answer
each_year all new =
    let set = minutes_of new in
    elim (first_most (λ day. Meets set (day *ℤ pos 1_440) 525_600) (λ day. count all (day *ℤ pos 1_440) 525_600) 365
    ((ends new).0 + 525_600) (λ day. meets_or_not set (day *ℤ pos 1_440) 525_600)
    (λ day m. year_place new day m.minute m.from_start m.before_end m.member)) [
      | inl best ↦ (
        Some (record { minutes = count all (best.0 *ℤ pos 1_440) 525_600; start = best.0 *ℤ pos 1_440 }),
        record {
          some = record {
            day = best.0;
            begins = refl;
            meets = best.1.is;
            holds = refl;
            most = best.1.most;
            first = best.1.first;
          };
          none = tt;
        },
      )
      | inr none ↦ (None, record { some = tt; none = no_year new none })
    ]

-- ---- Periods

new_or_not : (others k : ℕ) → (others ≤ k) ⊎ (others ≤ k → ⊥)
new_or_not others k = elim (cases_lt k others) [ inl l ↦ inr (λ m. absurd (omega arith)) | inr l ↦ inl l ]

rest_or_not : (others k : ℕ) (new : ℤ → Bool) (start : ℤ) (width : ℕ) → ((others ≤ k) ⊎ Meets new start width) ⊎
    ((others ≤ k) ⊎ Meets new start width → ⊥)
rest_or_not others k new start width = elim (new_or_not others k) [
  | inl is ↦ inl (inl is)
  | inr not ↦ elim (meets_or_not new start width) [
    | inl m ↦ inl (inr m)
    | inr none ↦ inr (λ t. elim t [ inl is ↦ not is | inr m ↦ none m ])
  ]
]

touches_or_not : (limit : PeriodLimit) (others k : ℕ) (new : ℤ → Bool) (fdp : FdpTimes) → Touches limit others k new fdp ⊎
    (Touches limit others k new fdp → ⊥)
touches_or_not TableA others k new fdp = new_or_not others k
touches_or_not TableB others k new fdp = new_or_not others k
touches_or_not ThirtyHours others k new fdp = rest_or_not others k new (pos fdp.report -ℤ pos 10_080) 10_080
touches_or_not TenHours others k new fdp = rest_or_not others k new (pos fdp.report -ℤ pos 600) 600

-- a limit counts some minutes of each period
each_count : (limit : PeriodLimit) (duty : ℤ → Bool) (fdp : FdpTimes) → (minutes : ℕ) × Counts limit duty fdp minutes
each_count TableA duty fdp = (flight_time fdp, refl)
each_count TableB duty fdp = (fdp_length fdp, refl)
each_count ThirtyHours duty fdp = longest_of duty (pos fdp.report -ℤ pos 10_080) 10_080
each_count TenHours duty fdp = free_of duty (pos fdp.report) 10_080

-- the duty at an index is measured
abbrev IsMeasuredAt : PeriodLimit → (all new : List DutyInForce) → (others k : ℕ) → Type 0
IsMeasuredAt limit all new others k = (p : MeasuredPeriod) × (p.index ≡ k) × IsMeasured limit all new others k p.minutes p.limit

-- the duty at an index is not measured
abbrev IsAside : PeriodLimit → (all new : List DutyInForce) → (others k : ℕ) → Type 0
IsAside limit all new others k = (minutes set : ℕ) → IsMeasured limit all new others k minutes set → ⊥

no_some : {X : Type 0} (x : X) → None ≡ Some x → ⊥
no_some x e = cc

no_period : (span : Span) (fdp : FdpTimes) → Some (Ground span) ≡ Some (Fdp fdp) → ⊥
no_period span fdp e = cc

-- the period at an index is measured where new duties touch it, and the regulation sets minutes for it
set_or_not : (limit : PeriodLimit) (all new : List DutyInForce) (others k : ℕ) (fdp : FdpTimes) → slice_get all k ≡ Some (Fdp fdp) →
    Touches limit others k (minutes_in Duty new) fdp → (set : Option ℕ) → minutes_set limit fdp ≡ set →
    IsMeasuredAt limit all new others k ⊎ ((set : ℕ) → minutes_set limit fdp ≡ Some set → ⊥)
set_or_not limit all new others k fdp at touches (Some set) is =
    let counted = each_count limit (minutes_in Duty all) fdp in
    inl (
      record { index = k; minutes = counted.0; limit = set },
      refl,
      record {
        fdp = fdp;
        at = at;
        touches = touches;
        counts = counted.1;
        sets = is;
      },
    )
set_or_not limit all new others k fdp at touches None is = inr (λ set e. no_some set (sym is ∙ e))

measured_or_aside : (limit : PeriodLimit) (all new : List DutyInForce) (others k : ℕ) (duty : Option DutyInForce) → slice_get all k ≡ duty →
    IsMeasuredAt limit all new others k ⊎ IsAside limit all new others k
measured_or_aside limit all new others k None at = inr (λ minutes set m. no_some (Fdp m.fdp) (sym at ∙ m.at))
measured_or_aside limit all new others k (Some (Ground span)) at =
    inr (λ minutes set m. no_period span m.fdp (sym at ∙ m.at))
measured_or_aside limit all new others k (Some (Fdp fdp)) at =
    let one : (minutes set : ℕ) (m : IsMeasured limit all new others k minutes set) → m.fdp ≡ fdp =
    λ minutes set m. same_fdp m.fdp fdp (sym m.at ∙ at) in
    elim (touches_or_not limit others k (minutes_in Duty new) fdp) [
      | inr not ↦ inr (λ minutes set m. not (subst (Touches limit others k (minutes_in Duty new)) (one minutes set m) m.touches))
      | inl touches ↦ elim (set_or_not limit all new others k fdp at touches (minutes_set limit fdp) refl) [
        | inl is ↦ inl is
        | inr none ↦ inr (λ minutes set m. none set (sym (ap (minutes_set limit) (one minutes set m)) ∙ m.sets))
      ]
    ]

-- of the first n duties one is nearest, or none is measured
nearest_or_none : (limit : PeriodLimit) (all new : List DutyInForce) (others n : ℕ) →
    ((p : MeasuredPeriod) × IsNearest n limit all new others p) ⊎ HasNone n limit all new others
nearest_or_none limit all new others zero = inr (λ k minutes set l m. absurd (omega arith))
nearest_or_none limit all new others (suc n) = rw next (elim (measured_or_aside limit all new others n (slice_get all n) refl) [
  | inr aside ↦ elim (nearest_or_none limit all new others n) [
    | inl old ↦ inl (old.0, kept_aside n limit all new others old.0 old.1 aside)
    | inr none ↦ inr (kept_none n limit all new others none aside)
  ]
  | inl here ↦ elim (nearest_or_none limit all new others n) [
    | inl old ↦ by_lt_z (minutes_left limit here.0.minutes here.0.limit) (minutes_left limit old.0.minutes old.0.limit)
        (λ nearer. inl (here.0, taken_after n limit all new others old.0 here.0 old.1 here.1 here.2 nearer))
        (λ no_nearer. inl (old.0, kept_after n limit all new others old.0 here.0 old.1 here.2 no_nearer))
    | inr none ↦ inl (here.0, taken_first n limit all new others here.0 none here.1 here.2)
  ]
])
  where
    next : suc n ≡ n + 1
    next = omega arith

each_period : (limit : PeriodLimit) (all new : List DutyInForce) (others : ℕ) → (answer : Option MeasuredPeriod) × IsNearestPeriod limit all new others answer
each_period limit all new others = elim (nearest_or_none limit all new others (length all)) [
  | inl nearest ↦ (Some nearest.0, record { some = nearest.1; none = tt })
  | inr none ↦ (None, record { some = tt; none = none })
]

-- ---- All

pub each_nearness : (all new : List DutyInForce) (others : ℕ) → (n : Nearness) × IsNearness all new others n
each_nearness all new others =
    let in_flight = minutes_in Flight all in
    let in_period = minutes_in FlightDuty all in
    let new_flights : List Span = flat_map (spans_of Flight) new in
    let new_periods : List Span = flat_map (spans_of FlightDuty) new in
    let a = each_period TableA all new others in
    let b = each_period TableB all new others in
    let month = each_window in_flight new_flights 40_320 (omega arith) in
    let year = each_year in_flight new_flights in
    let week = each_window in_period new_periods 10_080 (omega arith) in
    let weeks = each_window in_period new_periods 40_320 (omega arith) in
    let thirty = each_period ThirtyHours all new others in
    let ten = each_period TenHours all new others in (
      record {
        flight_time = a.0;
        flight_duty_period = b.0;
        flight_time_672_hours = month.0;
        flight_time_365_days = year.0;
        flight_duty_periods_168_hours = week.0;
        flight_duty_periods_672_hours = weeks.0;
        thirty_hour_rest = thirty.0;
        ten_hour_rest = ten.0;
      },
      record {
        flight_time = a.1;
        flight_duty_period = b.1;
        flight_time_672_hours = month.1;
        flight_time_365_days = year.1;
        flight_duty_periods_168_hours = week.1;
        flight_duty_periods_672_hours = weeks.1;
        thirty_hour_rest = thirty.1;
        ten_hour_rest = ten.1;
      },
    )
