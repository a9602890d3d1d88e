-- The fullest 365 days that meet new minutes: each that meets them has been tried.
use Rattle.std.proofs.Common.{◌≡◌, ℕ, suc, ◌+◌, ◌-◌, ◌*◌, ◌/◌, ◌<◌, ◌≤◌, true, List, sym, ap, ◌∙◌, subst, arith}
use Rattle.std.specs.Prelude.{ℤ, pos, negsuc, ◌+ℤ◌, ◌-ℤ◌, ◌*ℤ◌, ◌≤ℤ◌, ◌<ℤ◌}
use Rattle.std.proofs.lemmas.Int.{ints}
use Rattle.std.proofs.lemmas.Bool.{false≢true}
use Rattle.duty.specs.declared.span.Span.{Span}
use Rattle.duty.specs.Minutes.{count, minutes_of, Meets}
use Rattle.duty.proofs.Counting.{meets-count}
use Rattle.duty.proofs.SpanFacts.{no_negative}
use Rattle.limits.specs.Laws.Windows.{held}
use Rattle.limits.specs.Laws.SumRule.{members}
use Rattle.limits.specs.Laws.Parts.{IsPart, meets-part}
use Rattle.nearness.specs.declared.windows.Window.{Window}
use Rattle.nearness.specs.Searches.{IsCounted, IsAsGood, IsMet}
use Rattle.nearness.specs.Fullest.{IsFullestYear, HasNoMinute}

-- the years that may meet the new minutes, from the one that ends with the day of the first to the one that begins with that of the last
pub record AreYearsTried (all new : List Span) (best : Window) (from to first last : ℕ) : Type 0 where
  pub inside : (m : ℕ) → members new m ≡ true → (from ≤ m) × (m < to)
  pub first_is : first * 1_440 ≤ from
  pub last_is : to + 525_600 ≤ last * 1_440 + 1_439
  pub tried : (d : ℕ) → first ≤ d → d < last → Meets (minutes_of new) (pos ((d + 1) * 1_440) -ℤ pos 525_600) 525_600 →
      IsAsGood all 525_600 best ((d + 1) * 1_440)

-- a year that reaches a natural minute ends with a natural number of days
pub year_end : (day : ℤ) (minute : ℕ) → (day *ℤ pos 1_440) ≤ℤ pos minute → pos minute <ℤ (day *ℤ pos 1_440 +ℤ pos 525_600) →
    (days : ℕ) × (day *ℤ pos 1_440 ≡ pos (days * 1_440) -ℤ pos 525_600) × (day ≡ pos days -ℤ pos 365) × (minute < days * 1_440) ×
    (days * 1_440 ≤ minute + 525_600)
year_end (pos n) minute from to = (n + 365, omega (arith, ints), omega (arith, ints), omega (arith, ints), omega (arith, ints))
year_end (negsuc n) minute from to = (365 - suc n, omega (arith, ints), omega (arith, ints), omega (arith, ints), omega (arith, ints))

good_from : (all new : List Span) (best : Window) (from to first last : ℕ) → AreYearsTried all new best from to first last →
    (day : ℤ) → Meets (minutes_of new) (day *ℤ pos 1_440) 525_600 → (minute : ℤ) → (day *ℤ pos 1_440) ≤ℤ minute →
    minute <ℤ (day *ℤ pos 1_440 +ℤ pos 525_600) → minutes_of new minute ≡ true →
    (days : ℕ) × (day *ℤ pos 1_440 ≡ pos (days * 1_440) -ℤ pos 525_600) × (day ≡ pos days -ℤ pos 365) ×
    IsAsGood all 525_600 best (days * 1_440)
good_from all new best from to first last are day meets (pos n) low high member =
    let w = year_end day n low high in
    let days : ℕ = w.0 in
    let in' = are.inside n member in
    let a : from ≤ n = in'.0 in
    let b : n < to = in'.1 in
    let f = are.first_is in
    let l = are.last_is in
    let after : n < days * 1_440 = w.3 in
    let until : days * 1_440 ≤ n + 525_600 = w.4 in
    let e : days - 1 + 1 ≡ days = omega arith in
    let M : ℕ → Type 0 = λ d. Meets (minutes_of new) (pos (d * 1_440) -ℤ pos 525_600) 525_600 in
    let moved : M days = subst (λ s. Meets (minutes_of new) s 525_600) w.1 meets in
    let good = are.tried (days - 1) (omega arith) (omega arith) (subst M (sym e) moved) in
    (days, w.1, w.2, subst (λ d. IsAsGood all 525_600 best (d * 1_440)) e good)
good_from all new best from to first last are day meets (negsuc n) low high member = absurd (false≢true (sym (no_negative new n) ∙ member))

good_year : (all new : List Span) (best : Window) (from to first last : ℕ) → AreYearsTried all new best from to first last →
    (day : ℤ) → Meets (minutes_of new) (day *ℤ pos 1_440) 525_600 →
    (days : ℕ) × (day *ℤ pos 1_440 ≡ pos (days * 1_440) -ℤ pos 525_600) × (day ≡ pos days -ℤ pos 365) ×
    IsAsGood all 525_600 best (days * 1_440)
good_year all new best from to first last are day m =
    good_from all new best from to first last are day m m.minute m.from_start m.before_end m.member

year_back : (days : ℕ) → pos (days * 1_440) -ℤ pos 525_600 ≡ (pos days -ℤ pos 365) *ℤ pos 1_440
year_back days = omega (arith, ints)

pub is_fullest_year : (all new : List Span) (best : Window) (from to first last : ℕ) →
    AreYearsTried all new best from to first last → IsCounted all 525_600 best → IsMet (minutes_of new) 525_600 best → (q : ℕ) →
    best.end ≡ q * 1_440 → 0 < best.minutes →
    IsFullestYear (minutes_of all) (minutes_of new) best.minutes (pos best.end -ℤ pos 525_600)
is_fullest_year all new best from to first last are is met q aligned some = let held_there = is.holds in record {
  day = pos q -ℤ pos 365;
  begins = ap (λ e. pos e -ℤ pos 525_600) aligned ∙ year_back q;
  meets = met some;
  holds = held_there;
  most = λ other m. (let g = good_year all new best from to first last are other m in
      let e : count (minutes_of all) (other *ℤ pos 1_440) 525_600 ≡ held all (g.0 * 1_440) 525_600 =
      ap (λ s. count (minutes_of all) s 525_600) g.1 in
      let most = g.3.most in omega arith);
  first = λ other sooner m. (let g = good_year all new best from to first last are other m in
      let s = g.2 in
      let l : g.0 < q = omega (arith, ints) in
      let e : count (minutes_of all) (other *ℤ pos 1_440) 525_600 ≡ held all (g.0 * 1_440) 525_600 =
      ap (λ s. count (minutes_of all) s 525_600) g.1 in
      let first = g.3.first (omega arith) in omega arith);
}

-- where the best year is empty, there is no new minute
pub no_minute : (all new : List Span) (best : Window) (from to first last : ℕ) → AreYearsTried all new best from to first last →
    IsPart (minutes_of new) (minutes_of all) → best.minutes ≡ 0 → HasNoMinute (minutes_of new)
no_minute all new best from to first last are part none (negsuc n) is = false≢true (sym (no_negative new n) ∙ is)
no_minute all new best from to first last are part none (pos n) is =
    let day : ℕ = n / 1_440 in
    let m : Meets (minutes_of new) (pos day *ℤ pos 1_440) 525_600 = record {
      minute = pos n;
      from_start = omega (arith, ints);
      before_end = omega (arith, ints);
      member = is;
    } in
    let g = good_year all new best from to first last are (pos day) m in
    let e : count (minutes_of all) (pos day *ℤ pos 1_440) 525_600 ≡ held all (g.0 * 1_440) 525_600 =
    ap (λ s. count (minutes_of all) s 525_600) g.1 in
    let most = g.3.most in
    let more = meets-count (minutes_of all) (pos day *ℤ pos 1_440) 525_600
    (meets-part (minutes_of new) (minutes_of all) (pos day *ℤ pos 1_440) 525_600 part m) in
    absurd (omega arith)

-- where no natural number is a new minute, there is none
pub none_at_all : (new : List Span) → ((m : ℕ) → members new m ≡ true → ⊥) → HasNoMinute (minutes_of new)
none_at_all new none (pos n) member = none n member
none_at_all new none (negsuc n) member = false≢true (sym (no_negative new n) ∙ member)
