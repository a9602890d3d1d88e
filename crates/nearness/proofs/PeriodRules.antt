-- The nearest period exceeds its limit if and only if the new duties break the limit's rule.
use Rattle.std.proofs.Common.{◌≡◌, ℕ, zero, suc, ◌+◌, ◌-◌, ◌<◌, ◌≤◌, false, List, [], ◌∷◌, Option, Some, None, length, drop, length-drop, get_or, refl, sym, ap, ◌∙◌, subst, arith, inl, inr, ◌⊎◌}
use Rattle.std.specs.Prelude.{pos, ◌-ℤ◌, ◌↔◌, IsTrue, nat_lt, slice_get}
use Rattle.std.specs.List.{Contains}
use Rattle.std.specs.Option.{option_map}
use Rattle.std.proofs.lemmas.Int.{ints}
use Rattle.std.proofs.lemmas.Bool.{false≢true, cases_lt, ltb-true, lt-ltb}
use Rattle.std.proofs.lemmas.Option.{slice_get_read, slice_get_within, get_or_from_slice_get}
use Rattle.duty.specs.FdpTimes.{FdpTimes}
use Rattle.duty.specs.Minutes.{Meets, HasFreeRun, minutes_in, flight_time, fdp_length}
use Rattle.duty.specs.declared.duty_in_force.DutyInForce.{DutyInForce}
use Rattle.duty.specs.declared.duty_in_force.DutyInForce.TheVariants.{Fdp}
use Rattle.duty.specs.declared.kind.Kind.TheVariants.{Duty}
use Rattle.duty.proofs.Counting.{meets_or_free, meets-count}
use Rattle.limits.specs.Judgement.{IsWithin}
use Rattle.limits.specs.Rules.{IsOverTableA, IsOverTableB, IsTouched, ThirtyHourRest, TenHourRest}
use Rattle.limits.specs.Tables.{table_a, table_b}
use Rattle.nearness.specs.Nearest.{IsNearest, HasNone, IsMeasured}
use Rattle.nearness.specs.Nearness.{IsNearestPeriod, is_over_table, has_too_little_rest}
use Rattle.nearness.specs.declared.periods.MeasuredPeriod.{MeasuredPeriod}
use Rattle.nearness.specs.declared.periods.PeriodLimit.TheVariants.{TableA, TableB, ThirtyHours, TenHours}
use Rattle.nearness.proofs.FreeTime.{longest_of, free_of, meets_more, worked_short}

-- a test of two numbers that is tied to a rule
pub by_test : (a b : ℕ) (R : Type 0) → (a < b) ↔ R → IsTrue (nat_lt a b) ↔ R
by_test a b R tie = (λ is. tie.0 (ltb-true a b is), λ r. lt-ltb a b (tie.1 r))

-- a rule that is never broken
pub never : (R : Type 0) → (R → ⊥) → IsTrue false ↔ R
never R none = (λ is. absurd (false≢true is), λ r. absurd (none r))

-- the new duties are those of the history from `others` on
new_at : {X : Type 0} (xs : List X) (n k : ℕ) (d : X) → get_or (drop n xs) k d ≡ get_or xs (n + k) d
new_at xs zero k d = ap (λ j. get_or xs j d) (omega arith)
new_at [] (suc n) k d = refl
new_at (x ∷ xs) (suc n) k d = let e : suc n + k ≡ suc (n + k) = omega arith in rw e (new_at xs n k d)

-- the new duties are duties of the history
pub new_within : (all new : List DutyInForce) (others : ℕ) → drop others all ≡ new → IsWithin new all
new_within all new others is duty c =
    let d : Contains (drop others all) duty = subst (λ ds. Contains ds duty) (sym is) c in
    let n : length (drop others all) ≡ length all - others = length-drop others all in
    let l : d.0 < length (drop others all) = d.1 in
    (others + d.0, omega arith, sym (new_at all others d.0 duty) ∙ d.2)

-- a duty at a place from `others` on is new
new_from : (all new : List DutyInForce) (others k : ℕ) (fdp : FdpTimes) → drop others all ≡ new → slice_get all k ≡ Some (Fdp fdp) → others ≤ k →
    Contains new (Fdp fdp)
new_from all new others k fdp is at l =
    let x : DutyInForce = Fdp fdp in
    let within : k < length all = slice_get_within all k x at in
    let here_at : get_or all k x ≡ x = get_or_from_slice_get all k x x at in
    let back : others + (k - others) ≡ k = omega arith in
    let e : get_or (drop others all) (k - others) x ≡ x = new_at all others (k - others) x ∙ ap (λ j. get_or all j x) back ∙ here_at in
    let n : length (drop others all) ≡ length all - others = length-drop others all in
    let here : Contains (drop others all) x = (k - others, omega arith, e) in
    subst (λ ds. Contains ds x) is here

-- the place of a period in the history
record IsPlace (all new : List DutyInForce) (others width : ℕ) (fdp : FdpTimes) : Type 0 where
  pub k : ℕ
  pub within : k < length all
  pub at : slice_get all k ≡ Some (Fdp fdp)
  pub touches : (others ≤ k) ⊎ Meets (minutes_in Duty new) (pos fdp.report -ℤ pos width) width

-- the place of a new period
place_new : (all new : List DutyInForce) (others : ℕ) (fdp : FdpTimes) → drop others all ≡ new → Contains new (Fdp fdp) →
    (k : ℕ) × (k < length all) × (slice_get all k ≡ Some (Fdp fdp)) × (others ≤ k)
place_new all new others fdp is c =
    let x : DutyInForce = Fdp fdp in
    let d : Contains (drop others all) x = subst (λ ds. Contains ds x) (sym is) c in
    let j : ℕ = d.0 in
    let n : length (drop others all) ≡ length all - others = length-drop others all in
    let l : j < length (drop others all) = d.1 in
    let within : others + j < length all = omega arith in
    let here : get_or all (others + j) x ≡ x = sym (new_at all others j x) ∙ d.2 in
    (others + j, within, slice_get_read all (length all) (others + j) x refl within (sym here), omega arith)

-- the place of a touched period
place_touched : (all new : List DutyInForce) (others width : ℕ) (fdp : FdpTimes) → drop others all ≡ new → IsTouched all new fdp width →
    IsPlace all new others width fdp
place_touched all new others width fdp is touched = elim touched [
  | inl c ↦ (let p = place_new all new others fdp is c in record { k = p.0; within = p.1; at = p.2; touches = inl p.3 })
  | inr old ↦ (let c = old.0 in record {
    k = c.0;
    within = c.1;
    at = slice_get_read all (length all) c.0 (Fdp fdp) refl c.1 (sym c.2);
    touches = inr old.1;
  })
]

-- a period at a place that new duties touch
touched_at : (all new : List DutyInForce) (others k width : ℕ) (fdp : FdpTimes) → drop others all ≡ new → slice_get all k ≡ Some (Fdp fdp) →
    (others ≤ k) ⊎ Meets (minutes_in Duty new) (pos fdp.report -ℤ pos width) width → IsTouched all new fdp width
touched_at all new others k width fdp is at touches = elim touches [
  | inl l ↦ inl (new_from all new others k fdp is at l)
  | inr m ↦ inr ((k, slice_get_within all k (Fdp fdp) at, get_or_from_slice_get all k (Fdp fdp) (Fdp fdp) at), m)
]

-- a start by which a table sets minutes
entered : (table : ℕ → ℕ) (start : Option ℕ) (set : ℕ) → option_map table start ≡ Some set → (n : ℕ) × (start ≡ Some n) × (set ≡ table n)
entered table None set is = absurd (no_some set is)
  where
    no_some : (x : ℕ) → None ≡ Some x → ⊥
    no_some x e = cc
entered table (Some n) set is = (n, refl, cc)

over_a : (all new : List DutyInForce) (others : ℕ) (p : MeasuredPeriod) → drop others all ≡ new →
    IsNearest (length all) TableA all new others p → (p.limit < p.minutes) ↔ IsOverTableA all new
over_a all new others p same is = (
  λ more. (let m = is.measured in
      let counts = m.counts in
      let e = entered table_a m.fdp.start p.limit m.sets in
      let set : p.limit ≡ table_a e.0 = e.2 in
      record { fdp = m.fdp; is_new = new_from all new others p.index m.fdp same m.at m.touches; start = e.0; entered = e.1; over = omega arith }),
  λ rule. (let c = place_new all new others rule.fdp same rule.is_new in
      let m : IsMeasured TableA all new others c.0 (flight_time rule.fdp) (table_a rule.start) = record {
        fdp = rule.fdp;
        at = c.2;
        touches = c.3;
        counts = refl;
        sets = ap (option_map table_a) rule.entered;
      } in
      let l = is.least c.0 (flight_time rule.fdp) (table_a rule.start) c.1 m in
      let o = rule.over in omega (arith, ints)),
)

over_b : (all new : List DutyInForce) (others : ℕ) (p : MeasuredPeriod) → drop others all ≡ new →
    IsNearest (length all) TableB all new others p → (p.limit < p.minutes) ↔ IsOverTableB all new
over_b all new others p same is = (
  λ more. (let m = is.measured in
      let counts = m.counts in
      let e = entered (λ start. table_b start (length m.fdp.segments)) m.fdp.start p.limit m.sets in
      let set : p.limit ≡ table_b e.0 (length m.fdp.segments) = e.2 in
      record { fdp = m.fdp; is_new = new_from all new others p.index m.fdp same m.at m.touches; start = e.0; entered = e.1; over = omega arith }),
  λ rule. (let c = place_new all new others rule.fdp same rule.is_new in
      let set : ℕ = table_b rule.start (length rule.fdp.segments) in
      let m : IsMeasured TableB all new others c.0 (fdp_length rule.fdp) set = record {
        fdp = rule.fdp;
        at = c.2;
        touches = c.3;
        counts = refl;
        sets = ap (option_map (λ start. table_b start (length rule.fdp.segments))) rule.entered;
      } in
      let l = is.least c.0 (fdp_length rule.fdp) set c.1 m in
      let o = rule.over in omega (arith, ints)),
)

same_number : (a b : ℕ) → Some a ≡ Some b → a ≡ b
same_number a b e = cc

lacks_thirty : (all new : List DutyInForce) (others : ℕ) (p : MeasuredPeriod) → drop others all ≡ new →
    IsNearest (length all) ThirtyHours all new others p → (p.minutes < p.limit) ↔ ThirtyHourRest all new
lacks_thirty all new others p same is = (
  λ less. (let is_measured = is.measured in
      let report : ℕ = is_measured.fdp.report in
      let set = same_number 1_800 p.limit is_measured.sets in record {
        fdp = is_measured.fdp;
        touched = touched_at all new others p.index 10_080 is_measured.fdp same is_measured.at is_measured.touches;
        worked = λ start from to. elim (meets_or_free (minutes_in Duty all) start 1_800) [
          | inl m ↦ m
          | inr free ↦ (let run : HasFreeRun (minutes_in Duty all) (pos report -ℤ pos 10_080) 10_080 1_800 = record {
            start = start;
            from_start = from;
            to_end = omega (arith, ints);
            free = free;
          } in let l = is_measured.counts.longest 1_800 run in absurd (omega arith))
        ];
      }),
  λ rule. (let c = place_touched all new others 10_080 rule.fdp same rule.touched in
      let set = minutes_in Duty all in
      let run = longest_of set (pos rule.fdp.report -ℤ pos 10_080) 10_080 in
      let short = worked_short set (pos rule.fdp.report) 10_080 1_800 run.0 rule.worked run.1.runs in
      let m : IsMeasured ThirtyHours all new others c.k run.0 1_800 = record {
        fdp = rule.fdp;
        at = c.at;
        touches = c.touches;
        counts = run.1;
        sets = refl;
      } in
      let l = is.least c.k run.0 1_800 c.within m in
      omega (arith, ints)),
)

lacks_ten : (all new : List DutyInForce) (others : ℕ) (p : MeasuredPeriod) → drop others all ≡ new →
    IsNearest (length all) TenHours all new others p → (p.minutes < p.limit) ↔ TenHourRest all new
lacks_ten all new others p same is = (
  λ less. (let is_measured = is.measured in
      let set = same_number 600 p.limit is_measured.sets in record {
        fdp = is_measured.fdp;
        touched = touched_at all new others p.index 600 is_measured.fdp same is_measured.at is_measured.touches;
        worked = elim (meets_or_free (minutes_in Duty all) (pos is_measured.fdp.report -ℤ pos 600) 600) [
          | inl m ↦ m
          | inr free ↦ (let l = is_measured.counts.longest 600 (omega arith) free in absurd (omega arith))
        ];
      }),
  λ rule. (let c = place_touched all new others 600 rule.fdp same rule.touched in
      let set = minutes_in Duty all in
      let free = free_of set (pos rule.fdp.report) 10_080 in
      let short : free.0 < 600 = elim (cases_lt free.0 600) [
        | inl less ↦ less
        | inr long ↦ (let m = meets_more set (pos rule.fdp.report) 600 free.0 long rule.worked in
            let some = meets-count set (pos rule.fdp.report -ℤ pos free.0) free.0 m in
            let none = free.1.is_free in absurd (omega arith))
      ] in
      let m : IsMeasured TenHours all new others c.k free.0 600 = record {
        fdp = rule.fdp;
        at = c.at;
        touches = c.touches;
        counts = free.1;
        sets = refl;
      } in
      let l = is.least c.k free.0 600 c.within m in
      omega (arith, ints)),
)

none_a : (all new : List DutyInForce) (others : ℕ) → drop others all ≡ new → HasNone (length all) TableA all new others →
    IsOverTableA all new → ⊥
none_a all new others same none rule =
    let c = place_new all new others rule.fdp same rule.is_new in
    none c.0 (flight_time rule.fdp) (table_a rule.start) c.1 (record {
      fdp = rule.fdp;
      at = c.2;
      touches = c.3;
      counts = refl;
      sets = ap (option_map table_a) rule.entered;
    })

none_b : (all new : List DutyInForce) (others : ℕ) → drop others all ≡ new → HasNone (length all) TableB all new others →
    IsOverTableB all new → ⊥
none_b all new others same none rule =
    let c = place_new all new others rule.fdp same rule.is_new in
    none c.0 (fdp_length rule.fdp) (table_b rule.start (length rule.fdp.segments)) c.1 (record {
      fdp = rule.fdp;
      at = c.2;
      touches = c.3;
      counts = refl;
      sets = ap (option_map (λ start. table_b start (length rule.fdp.segments))) rule.entered;
    })

none_thirty : (all new : List DutyInForce) (others : ℕ) → drop others all ≡ new → HasNone (length all) ThirtyHours all new others →
    ThirtyHourRest all new → ⊥
none_thirty all new others same none rule =
    let c = place_touched all new others 10_080 rule.fdp same rule.touched in
    let run = longest_of (minutes_in Duty all) (pos rule.fdp.report -ℤ pos 10_080) 10_080 in
    none c.k run.0 1_800 c.within (record { fdp = rule.fdp; at = c.at; touches = c.touches; counts = run.1; sets = refl })

none_ten : (all new : List DutyInForce) (others : ℕ) → drop others all ≡ new → HasNone (length all) TenHours all new others →
    TenHourRest all new → ⊥
none_ten all new others same none rule =
    let c = place_touched all new others 600 rule.fdp same rule.touched in
    let free = free_of (minutes_in Duty all) (pos rule.fdp.report) 10_080 in
    none c.k free.0 600 c.within (record { fdp = rule.fdp; at = c.at; touches = c.touches; counts = free.1; sets = refl })

pub a_rule : (all new : List DutyInForce) (others : ℕ) (p : Option MeasuredPeriod) → drop others all ≡ new → IsNearestPeriod TableA all new others p →
    IsTrue (is_over_table p) ↔ IsOverTableA all new
a_rule all new others (Some p) same is = by_test p.limit p.minutes _ (over_a all new others p same is.some)
a_rule all new others None same is = never _ (none_a all new others same is.none)

pub b_rule : (all new : List DutyInForce) (others : ℕ) (p : Option MeasuredPeriod) → drop others all ≡ new → IsNearestPeriod TableB all new others p →
    IsTrue (is_over_table p) ↔ IsOverTableB all new
b_rule all new others (Some p) same is = by_test p.limit p.minutes _ (over_b all new others p same is.some)
b_rule all new others None same is = never _ (none_b all new others same is.none)

pub thirty_rule : (all new : List DutyInForce) (others : ℕ) (p : Option MeasuredPeriod) → drop others all ≡ new →
    IsNearestPeriod ThirtyHours all new others p → IsTrue (has_too_little_rest p) ↔ ThirtyHourRest all new
thirty_rule all new others (Some p) same is = by_test p.minutes p.limit _ (lacks_thirty all new others p same is.some)
thirty_rule all new others None same is = never _ (none_thirty all new others same is.none)

pub ten_rule : (all new : List DutyInForce) (others : ℕ) (p : Option MeasuredPeriod) → drop others all ≡ new →
    IsNearestPeriod TenHours all new others p → IsTrue (has_too_little_rest p) ↔ TenHourRest all new
ten_rule all new others (Some p) same is = by_test p.minutes p.limit _ (lacks_ten all new others p same is.some)
ten_rule all new others None same is = never _ (none_ten all new others same is.none)
