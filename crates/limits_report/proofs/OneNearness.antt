-- There is one answer of what is nearest to each limit.
use Rattle.std.proofs.Common.{◌≡◌, ◌∙◌, ℕ, ◌<◌, Bool, List, length, Option, Some, None, refl, sym, ap, subst, inl, inr, arith}
use Rattle.std.specs.Prelude.{ℤ, pos, negsuc, ◌*ℤ◌, ◌<ℤ◌, ◌≤ℤ◌, slice_get}
use Rattle.std.proofs.lemmas.Bool.{cases_lt}
use Rattle.std.proofs.lemmas.Int.{ints}
use Rattle.std.proofs.lemmas.Option.{same_Some, slice_get_within}
use Rattle.duty.specs.FdpTimes.{FdpTimes}
use Rattle.duty.specs.Minutes.{count, Meets, minutes_in}
use Rattle.duty.specs.declared.duty_in_force.DutyInForce.{DutyInForce}
use Rattle.duty.specs.declared.duty_in_force.DutyInForce.TheVariants.{Fdp}
use Rattle.duty.specs.declared.kind.Kind.TheVariants.{Flight, FlightDuty, Duty}
use Rattle.nearness.specs.Fullest.{IsFullest, IsFullestYear}
use Rattle.nearness.specs.Nearest.{Counts, IsNearest, HasNone, minutes_left, minutes_set}
use Rattle.nearness.specs.Nearness.{IsNearness, IsNearestPeriod, IsWindow, IsYear}
use Rattle.nearness.specs.declared.all_limits.Nearness.{Nearness}
use Rattle.nearness.specs.declared.periods.MeasuredPeriod.{MeasuredPeriod}
use Rattle.nearness.specs.declared.periods.PeriodLimit.{PeriodLimit}
use Rattle.nearness.specs.declared.periods.PeriodLimit.TheVariants.{TableA, TableB, ThirtyHours, TenHours}
use Rattle.nearness.specs.declared.windows.FullestWindow.{FullestWindow}

-- numbers of which neither is below the other
one_number : (a b : ℤ) → (a <ℤ b → ⊥) → (b <ℤ a → ⊥) → a ≡ b
one_number (pos a) (pos b) x y = elim (cases_lt a b) [
  | inl l ↦ absurd (let m : pos a <ℤ pos b = omega (arith, ints) in x m)
  | inr l ↦ elim (cases_lt b a) [
    | inl m ↦ absurd (let n : pos b <ℤ pos a = omega (arith, ints) in y n)
    | inr m ↦ (let e : a ≡ b = omega arith in ap pos e)
  ]
]
one_number (negsuc a) (negsuc b) x y = elim (cases_lt a b) [
  | inl l ↦ absurd (let m : negsuc b <ℤ negsuc a = omega (arith, ints) in y m)
  | inr l ↦ elim (cases_lt b a) [
    | inl m ↦ absurd (let n : negsuc a <ℤ negsuc b = omega (arith, ints) in x n)
    | inr m ↦ (let e : a ≡ b = omega arith in ap negsuc e)
  ]
]
one_number (pos a) (negsuc b) x y = absurd (let m : negsuc b <ℤ pos a = omega (arith, ints) in y m)
one_number (negsuc a) (pos b) x y = absurd (let m : negsuc a <ℤ pos b = omega (arith, ints) in x m)

-- ---- Windows

no_some : {X : Type 0} (x : X) → None ≡ Some x → ⊥
no_some x e = cc

one_fullest : (all new : ℤ → Bool) (width : ℕ) (v w : FullestWindow) → IsFullest all new width v.minutes v.start →
    IsFullest all new width w.minutes w.start → v ≡ w
one_fullest all new width v w x y =
    let xh = x.holds in let yh = y.holds in
    let xm = y.most v.start x.meets in let ym = x.most w.start y.meets in
    let minutes : v.minutes ≡ w.minutes = omega (arith, xh, yh, xm, ym) in
    let start : v.start ≡ w.start = one_number v.start w.start
    (λ l. let f = y.first v.start l x.meets in absurd (omega (arith, f, xh, minutes)))
    (λ l. let f = x.first w.start l y.meets in absurd (omega (arith, f, yh, minutes))) in
    λ i. record { minutes = minutes i; start = start i }

one_fullest_year : (all new : ℤ → Bool) (v w : FullestWindow) → IsFullestYear all new v.minutes v.start →
    IsFullestYear all new w.minutes w.start → v ≡ w
one_fullest_year all new v w x y =
    let xh : count all (x.day *ℤ pos 1_440) 525_600 ≡ v.minutes = ap (λ s. count all s 525_600) (sym x.begins) ∙ x.holds in
    let yh : count all (y.day *ℤ pos 1_440) 525_600 ≡ w.minutes = ap (λ s. count all s 525_600) (sym y.begins) ∙ y.holds in
    let xs : Meets new (x.day *ℤ pos 1_440) 525_600 = subst (λ s. Meets new s 525_600) x.begins x.meets in
    let ys : Meets new (y.day *ℤ pos 1_440) 525_600 = subst (λ s. Meets new s 525_600) y.begins y.meets in
    let xm = y.most x.day xs in let ym = x.most y.day ys in
    let minutes : v.minutes ≡ w.minutes = omega (arith, xh, yh, xm, ym) in
    let day : x.day ≡ y.day = one_number x.day y.day
    (λ l. let f = y.first x.day l xs in absurd (omega (arith, f, xh, minutes)))
    (λ l. let f = x.first y.day l ys in absurd (omega (arith, f, yh, minutes))) in
    let start : v.start ≡ w.start = x.begins ∙ ap (λ d. d *ℤ pos 1_440) day ∙ sym y.begins in
    λ i. record { minutes = minutes i; start = start i }

one_window : (all new : ℤ → Bool) (width : ℕ) (a b : Option FullestWindow) → IsWindow all new width a → IsWindow all new width b → a ≡ b
one_window all new width None None x y = refl
one_window all new width (Some v) (Some w) x y = ap Some (one_fullest all new width v w x.some y.some)
one_window all new width (Some v) None x y = absurd (y.none x.some.meets.minute x.some.meets.member)
one_window all new width None (Some w) x y = absurd (x.none y.some.meets.minute y.some.meets.member)

one_year : (all new : ℤ → Bool) (a b : Option FullestWindow) → IsYear all new a → IsYear all new b → a ≡ b
one_year all new None None x y = refl
one_year all new (Some v) (Some w) x y = ap Some (one_fullest_year all new v w x.some y.some)
one_year all new (Some v) None x y = absurd (y.none x.some.meets.minute x.some.meets.member)
one_year all new None (Some w) x y = absurd (x.none y.some.meets.minute y.some.meets.member)

-- ---- Periods

-- a limit counts the minutes of a period in one way
one_count : (limit : PeriodLimit) (duty : ℤ → Bool) (fdp : FdpTimes) (m n : ℕ) → Counts limit duty fdp m → Counts limit duty fdp n → m ≡ n
one_count TableA duty fdp m n x y = x ∙ sym y
one_count TableB duty fdp m n x y = x ∙ sym y
one_count ThirtyHours duty fdp m n x y = let a = x.longest n y.runs in let b = y.longest m x.runs in omega (arith, a, b)
one_count TenHours duty fdp m n x y =
    let a = x.longest n y.within y.is_free in let b = y.longest m x.within x.is_free in omega (arith, a, b)

same_fdp : (f g : FdpTimes) → ◌≡◌ {A = DutyInForce} (Fdp f) (Fdp g) → f ≡ g
same_fdp f g e = cc

-- a number that neither is below
one_index : (a b : ℕ) → (a < b → ⊥) → (b < a → ⊥) → a ≡ b
one_index a b x y = elim (cases_lt a b) [
  | inl l ↦ absurd (x l)
  | inr l ↦ elim (cases_lt b a) [ inl m ↦ absurd (y m) | inr m ↦ omega (arith, l, m) ]
]

-- the period of an index is not before the nearest one
not_before : (limit : PeriodLimit) (all new : List DutyInForce) (others : ℕ) (p q : MeasuredPeriod) → IsNearest (length all) limit all new others p →
    IsNearest (length all) limit all new others q → q.index < p.index → ⊥
not_before limit all new others p q x y l =
    let more = x.first q.index q.minutes q.limit l y.measured in
    let within : p.index < length all = slice_get_within all p.index (Fdp x.measured.fdp) x.measured.at in
    let least = y.least p.index p.minutes p.limit within x.measured in
    apart (minutes_left limit p.minutes p.limit) (minutes_left limit q.minutes q.limit) more least
  where
    apart : (a b : ℤ) → a <ℤ b → b ≤ℤ a → ⊥
    apart a b l m = absurd (omega (arith, ints, l, m))

one_nearest : (limit : PeriodLimit) (all new : List DutyInForce) (others : ℕ) (p q : MeasuredPeriod) → IsNearest (length all) limit all new others p →
    IsNearest (length all) limit all new others q → p ≡ q
one_nearest limit all new others p q x y =
    let index : p.index ≡ q.index = one_index p.index q.index (not_before limit all new others q p y x) (not_before limit all new others p q x y) in
    let same : ◌≡◌ {A = DutyInForce} (Fdp x.measured.fdp) (Fdp y.measured.fdp) =
    same_Some (Fdp x.measured.fdp) (Fdp y.measured.fdp) (sym x.measured.at ∙ ap (slice_get all) index ∙ y.measured.at) in
    let fdp : x.measured.fdp ≡ y.measured.fdp = same_fdp x.measured.fdp y.measured.fdp same in
    let minutes : p.minutes ≡ q.minutes = one_count limit (minutes_in Duty all) y.measured.fdp p.minutes q.minutes
    (subst (λ (f : FdpTimes). Counts limit (minutes_in Duty all) f p.minutes) fdp x.measured.counts) y.measured.counts in
    let set : p.limit ≡ q.limit = same_Some p.limit q.limit (sym x.measured.sets ∙ ap (minutes_set limit) fdp ∙ y.measured.sets) in
    λ i. record { index = index i; minutes = minutes i; limit = set i }

no_period : (limit : PeriodLimit) (all new : List DutyInForce) (others : ℕ) (p : MeasuredPeriod) → IsNearest (length all) limit all new others p →
    HasNone (length all) limit all new others → ⊥
no_period limit all new others p x none =
    none p.index p.minutes p.limit (slice_get_within all p.index (Fdp x.measured.fdp) x.measured.at) x.measured

one_period : (limit : PeriodLimit) (all new : List DutyInForce) (others : ℕ) (a b : Option MeasuredPeriod) → IsNearestPeriod limit all new others a →
    IsNearestPeriod limit all new others b → a ≡ b
one_period limit all new others None None x y = refl
one_period limit all new others (Some p) (Some q) x y = ap Some (one_nearest limit all new others p q x.some y.some)
one_period limit all new others (Some p) None x y = absurd (no_period limit all new others p x.some y.none)
one_period limit all new others None (Some q) x y = absurd (no_period limit all new others q y.some x.none)

-- ---- All

pub one_nearness : (all new : List DutyInForce) (others : ℕ) (a b : Nearness) → IsNearness all new others a → IsNearness all new others b → a ≡ b
one_nearness all new others a b x y =
    let flight = one_period TableA all new others a.flight_time b.flight_time x.flight_time y.flight_time in
    let fdp = one_period TableB all new others a.flight_duty_period b.flight_duty_period x.flight_duty_period y.flight_duty_period in
    let month = one_window (minutes_in Flight all) (minutes_in Flight new) 40_320 a.flight_time_672_hours b.flight_time_672_hours
    x.flight_time_672_hours y.flight_time_672_hours in
    let year = one_year (minutes_in Flight all) (minutes_in Flight new) a.flight_time_365_days b.flight_time_365_days
    x.flight_time_365_days y.flight_time_365_days in
    let week = one_window (minutes_in FlightDuty all) (minutes_in FlightDuty new) 10_080 a.flight_duty_periods_168_hours b.flight_duty_periods_168_hours
    x.flight_duty_periods_168_hours y.flight_duty_periods_168_hours in
    let weeks = one_window (minutes_in FlightDuty all) (minutes_in FlightDuty new) 40_320 a.flight_duty_periods_672_hours b.flight_duty_periods_672_hours
    x.flight_duty_periods_672_hours y.flight_duty_periods_672_hours in
    let thirty = one_period ThirtyHours all new others a.thirty_hour_rest b.thirty_hour_rest x.thirty_hour_rest y.thirty_hour_rest in
    let ten = one_period TenHours all new others a.ten_hour_rest b.ten_hour_rest x.ten_hour_rest y.ten_hour_rest in
    λ i. record {
      flight_time = flight i;
      flight_duty_period = fdp i;
      flight_time_672_hours = month i;
      flight_time_365_days = year i;
      flight_duty_periods_168_hours = week i;
      flight_duty_periods_672_hours = weeks i;
      thirty_hour_rest = thirty i;
      ten_hour_rest = ten i;
    }
