-- The fullest window that meets new minutes ends where a span ends or begins where one begins, or ends with the first minute of a new
-- span: any other may be moved to one of these, as far as it meets the new span, and then holds no less; and where it has to be moved to a
-- later one, that one holds more.
use Rattle.std.proofs.Common.{◌≡◌, ℕ, suc, ◌+◌, ◌-◌, ◌<◌, ◌≤◌, Bool, true, false, List, length, get_or, refl, sym, ap, ◌∙◌, subst, arith, inl, inr, ◌⊎◌}
use Rattle.std.specs.Prelude.{ℤ, pos, negsuc, ◌+ℤ◌, ◌-ℤ◌, ◌≤ℤ◌, ◌<ℤ◌, nat_eq}
use Rattle.std.specs.List.{list_any, flat_map}
use Rattle.std.proofs.lemmas.Int.{ints}
use Rattle.std.proofs.lemmas.Bool.{false≢true, cases_Bool, cases_lt, cases_eq, eq-eqb, eqb-true}
use Rattle.std.proofs.lemmas.List.Folds.{Any-from_list_any}
use Rattle.duty.specs.declared.kind.Kind.{Kind}
use Rattle.duty.specs.declared.span.Span.{Span}
use Rattle.duty.specs.declared.duty_in_force.DutyInForce.{DutyInForce}
use Rattle.duty.specs.Minutes.{count, covers, minutes_of, spans_of, Meets}
use Rattle.duty.proofs.Counting.{below, below-zero, below-full, below-empty, below-member, before, meets-count, window_end}
use Rattle.duty.proofs.Scans.{list_any-flat_map}
use Rattle.duty.proofs.SpanFacts.{covers-true, covers-from, no_negative, some_span}
use Rattle.limits.specs.Laws.Windows.{held}
use Rattle.limits.specs.Laws.SumRule.{members, held-before, trimmed}
use Rattle.limits.specs.Laws.Parts.{IsPart, meets-part}
use Rattle.nearness.specs.declared.windows.Window.{Window}
use Rattle.nearness.specs.Searches.{IsCounted, IsAsGood, IsNoWorse, IsMet, IsTried}
use Rattle.nearness.specs.Fullest.{IsFullest, HasNoMinute}
use Rattle.nearness.proofs.Slides.{below-le, begun, span_begin, span_end, slid, earlier, later}

-- what was tried stays so
pub kept_tried : (all : List Span) (new : ℤ → Bool) (width : ℕ) (old best : Window) (after_begin : ℕ) (span : Span) →
    IsNoWorse all width old best → IsTried all new width old after_begin span →
    IsTried all new width best after_begin span
kept_tried all new width old best after_begin span kept tried = record {
  at_begin = λ m. kept (span.from + after_begin) (tried.at_begin m);
  at_end = λ m. kept span.to (tried.at_end m);
}

-- some span of the list that passes a test has been tried
abbrev pub AreTried : List Span → (ℤ → Bool) → ℕ → Window → ℕ → List Span → Type 0
AreTried all new width best after_begin spans = (P : Span → Bool) → list_any P spans ≡ true →
    (s : Span) × (P s ≡ true) × IsTried all new width best after_begin s

pub all_tried : (kind : Kind) (duties : List DutyInForce) (all : List Span) (new : ℤ → Bool) (width : ℕ) (best : Window)
    (after_begin : ℕ) →
    ((j : ℕ) (e : DutyInForce) (k : ℕ) (d : Span) → j < length duties → k < length (spans_of kind (get_or duties j e)) →
    IsTried all new width best after_begin (get_or (spans_of kind (get_or duties j e)) k d)) →
    AreTried all new width best after_begin (flat_map (spans_of kind) duties)
all_tried kind duties all new width best after_begin tried P is =
    let one = Any-from_list_any (λ duty. list_any P (spans_of kind duty)) duties (sym (list_any-flat_map P (spans_of kind) duties) ∙ is) in
    let j : ℕ = one.0 in
    let duty : DutyInForce = one.1 in
    let at : get_or duties j duty ≡ duty = one.3 in
    let two = Any-from_list_any P (spans_of kind duty) one.4 in
    let k : ℕ = two.0 in
    let span : Span = two.1 in
    let there : get_or (spans_of kind duty) k span ≡ span = two.3 in
    let T : DutyInForce → Type 0 = λ x. k < length (spans_of kind x) →
    IsTried all new width best after_begin (get_or (spans_of kind x) k span) in
    let t : T duty = subst T at (tried j duty k span one.2) in
    (span, two.4, subst (IsTried all new width best after_begin) there (t two.2))

-- a window that ends between the two edges of a new span meets it
meets_at : (new : List Span) (s : Span) (width y : ℕ) → ((P : Span → Bool) → P s ≡ true → list_any P new ≡ true) →
    0 < width → s.from < s.to → s.from + 1 ≤ y → y + 1 ≤ s.to + width → Meets (minutes_of new) (pos y -ℤ pos width) width
meets_at new s width y lift some full low high = elim (cases_lt (s.from + width) y) [
  | inl past ↦ (let m : ℕ = y - width in record {
    minute = pos m;
    from_start = omega (arith, ints);
    before_end = omega (arith, ints);
    member = lift (covers (pos m)) (covers-from m s (omega arith) (omega arith));
  })
  | inr near ↦ record {
    minute = pos s.from;
    from_start = omega (arith, ints);
    before_end = omega (arith, ints);
    member = lift (covers (pos s.from)) (covers-from s.from s (omega arith) (omega arith));
  }
]

-- all that was tried round a new span: the windows that end from `low` to `high` meet it, and the last of them begins with a member
pub record IsRound (all : List Span) (new : ℤ → Bool) (width : ℕ) (best : Window) (low high : ℕ) : Type 0 where
  pub tried : AreTried all new width best width all
  pub meets : (y : ℕ) → low ≤ y → y ≤ high → Meets new (pos y -ℤ pos width) width
  pub at_low : IsAsGood all width best low
  pub fits : width ≤ high
  pub last : members all (high - width) ≡ true

ends_good : (all : List Span) (new : ℤ → Bool) (width : ℕ) (best : Window) (low high : ℕ) → IsRound all new width best low high →
    (n : ℕ) → low ≤ n + 1 → n + 1 ≤ high → members all n ≡ true → members all (n + 1) ≡ false → IsAsGood all width best (n + 1)
ends_good all new width best low high round n l h is ends =
    let P : Span → Bool = λ s. nat_eq s.to (n + 1) in
    let t = round.tried P (span_end all n is ends P (λ s e. eq-eqb _ _ e)) in
    let e : t.0.to ≡ n + 1 = eqb-true _ _ t.1 in
    let T : ℕ → Type 0 = λ y. Meets new (pos y -ℤ pos width) width → IsAsGood all width best y in
    let good : T (n + 1) = subst T e t.2.at_end in
    good (round.meets (n + 1) l h)

begins_good : (all : List Span) (new : ℤ → Bool) (width : ℕ) (best : Window) (low high : ℕ) → IsRound all new width best low high →
    (n : ℕ) → low ≤ n + width → n + width ≤ high → members all n ≡ true → (n ≡ 0) ⊎ (members all (n - 1) ≡ false) →
    IsAsGood all width best (n + width)
begins_good all new width best low high round n l h is first =
    let P : Span → Bool = λ s. nat_eq s.from n in
    let t = round.tried P (span_begin all n is first P (λ s e. eq-eqb _ _ e)) in
    let e : t.0.from + width ≡ n + width = (let x : t.0.from ≡ n = eqb-true _ _ t.1 in omega arith) in
    let T : ℕ → Type 0 = λ y. Meets new (pos y -ℤ pos width) width → IsAsGood all width best y in
    let good : T (n + width) = subst T e t.2.at_begin in
    good (round.meets (n + width) l h)

-- a window that begins with a member
from_member : (all : List Span) (new : ℤ → Bool) (width : ℕ) (best : Window) (low high : ℕ) → IsRound all new width best low high →
    (e : ℕ) → low ≤ e → e ≤ high → width ≤ e → members all (e - width) ≡ true → IsAsGood all width best e
from_member all new width best low high round e l h fits is =
    let set = members all in
    let s : ℕ = e - width in
    let r = begun set s is in
    let f : ℕ = r.0 in
    let y : ℕ = f + width in
    elim (cases_lt y low) [
      | inl cut ↦ (let full = below-full set (low - width) s (omega arith) (λ i a b. r.2 i (omega arith) b) in
          let up = below-le set low e l in
          earlier all width best low e round.at_low l (omega arith))
      | inr whole ↦ (let full = below-full set f s r.1 r.2 in
          let back : y - width ≡ f = omega arith in
          let low_same : below set (y - width) ≡ below set f = ap (below set) back in
          let up = below-le set y e (omega arith) in
          earlier all width best y e (begins_good all new width best low high round f whole (omega arith) r.3 r.4) (omega arith)
          (omega arith))
    ]

-- a window that slides on over free minutes at its begin and members at its end
sliding : (all : List Span) (new : ℤ → Bool) (width : ℕ) (best : Window) (low high : ℕ) → IsRound all new width best low high →
    (e : ℕ) → low ≤ e → e ≤ high → (e < width) ⊎ (members all (e - width) ≡ false) → members all e ≡ true → IsAsGood all width best e
sliding all new width best low high round e l h starts on =
    let set = members all in
    let r = slid set width e (high - e) in
    let n : ℕ = r.0 in
    let y : ℕ = e + n in
    let moved : 0 < n → before set e width < before set y width = λ positive.
    (let full = below-full set e y (omega arith) r.2 in
    let clear = below-empty set (e - width) (y - width) (omega arith) (λ i a b. r.3 i (omega arith) (omega arith)) in
    let rises = below-le set (e - width) e (omega arith) in
    omega arith) in
    elim r.4 [
      | inl whole ↦ (let at_high : y ≡ high = omega arith in
          let at_last = from_member all new width best low high round high (omega arith) (omega arith) round.fits round.last in
          let good : IsAsGood all width best y = subst (IsAsGood all width best) (sym at_high) at_last in
          elim (cases_eq n 0) [
            | inl none ↦ (let same : y ≡ e = omega arith in subst (IsAsGood all width best) same good)
            | inr other ↦ later all width best y e good (moved (omega arith))
          ])
      | inr stop ↦ elim (cases_eq n 0) [
        | inl none ↦ (let same : y ≡ e = omega arith in
            elim stop [
              | inl ends ↦ absurd (false≢true (sym (rw same at ends) ∙ on))
              | inr begins ↦ elim starts [
                | inl early ↦ absurd (let b = begins.0 in omega arith)
                | inr free ↦ absurd (false≢true (sym free ∙ rw same at begins.1))
              ]
            ])
        | inr other ↦ elim stop [
          | inl ends ↦ (let p : y - 1 + 1 ≡ y = omega arith in
              let within : n ≤ high - e = r.1 in
              let good = ends_good all new width best low high round (y - 1) (omega arith) (omega arith)
              (r.2 (y - 1) (omega arith) (omega arith)) (rw p ends) in
              later all width best y e (subst (IsAsGood all width best) p good) (moved (omega arith)))
          | inr begins ↦ (let g : ℕ = y - width in
              let b = begins.0 in
              let within : n ≤ high - e = r.1 in
              let p : g + width ≡ y = omega arith in
              let first : (g ≡ 0) ⊎ (set (g - 1) ≡ false) = elim (cases_eq g 0) [
                | inl zero_at ↦ inl zero_at
                | inr above ↦ inr (r.3 (g - 1) (omega arith) (omega arith))
              ] in
              let good = begins_good all new width best low high round g (omega arith) (omega arith) begins.1 first in
              later all width best y e (subst (IsAsGood all width best) p good) (moved (omega arith)))
        ]
      ]
    ]

-- a window that does not begin with a member
from_other : (all : List Span) (new : ℤ → Bool) (width : ℕ) (best : Window) (low high : ℕ) → IsRound all new width best low high →
    (e : ℕ) → low ≤ e → e ≤ high → (e < width) ⊎ (members all (e - width) ≡ false) → IsAsGood all width best e
from_other all new width best low high round e l h starts =
    let set = members all in
    let r = trimmed set low (e - low) in
    let t : ℕ = r.0 in
    let above : low ≤ t = r.1 in
    let whole : low + (e - low) ≡ e = omega arith in
    let within : t ≤ e = (let x = r.2 in omega arith) in
    let same : below set t ≡ below set e = r.3 ∙ ap (below set) whole in
    let front = below-le set (t - width) (e - width) (omega arith) in
    elim r.4 [
      | inl least ↦ earlier all width best t e (subst (IsAsGood all width best) (sym least) round.at_low) within (omega arith)
      | inr last ↦ elim (cases_eq t low) [
        | inl least ↦ earlier all width best t e (subst (IsAsGood all width best) (sym least) round.at_low) within (omega arith)
        | inr past ↦ elim (cases_Bool (set t)) [
          | inr ends ↦ (let p : t - 1 + 1 ≡ t = omega arith in
              let good = ends_good all new width best low high round (t - 1) (omega arith) (omega arith) last (rw p ends) in
              earlier all width best t e (subst (IsAsGood all width best) p good) within (omega arith))
          | inl on ↦ elim (cases_eq t e) [
            | inl all_of ↦ sliding all new width best low high round e l h starts (ap set (sym all_of) ∙ on)
            | inr cut ↦ (let one = below-member set t on in
                let up = below-le set (suc t) e (omega arith) in
                absurd (omega arith))
          ]
        ]
      ]
    ]

good_round : (all : List Span) (new : ℤ → Bool) (width : ℕ) (best : Window) (low high : ℕ) → IsRound all new width best low high →
    (e : ℕ) → low ≤ e → e ≤ high → IsAsGood all width best e
good_round all new width best low high round e l h =
    elim (cases_lt e width) [
      | inl early ↦ from_other all new width best low high round e l h (inl early)
      | inr late ↦ elim (cases_Bool (members all (e - width))) [
        | inl is ↦ from_member all new width best low high round e l h late is
        | inr free ↦ from_other all new width best low high round e l h (inr free)
      ]
    ]

-- all spans, and the first minute of each new one, have been tried; the new minutes are among all
pub record AreAllTried (all new : List Span) (width : ℕ) (best : Window) : Type 0 where
  pub spans : AreTried all (minutes_of new) width best width all
  pub edges : AreTried all (minutes_of new) width best 1 new
  pub within : IsPart (minutes_of new) (minutes_of all)

good_near : (all new : List Span) (width : ℕ) (best : Window) → 0 < width → AreAllTried all new width best → (e m : ℕ) →
    members new m ≡ true → m < e → e ≤ m + width → IsAsGood all width best e
good_near all new width best some are e m member from to =
    let r = some_span (covers (pos m)) new member in
    let s = r.0 in
    let c = covers-true m s r.1 in
    let sl : s.from ≤ m = c.0 in
    let sh : m < s.to = c.1 in
    let low : ℕ = s.from + 1 in
    let high : ℕ = s.to + (width - 1) in
    let begins : Span → Bool = λ other. nat_eq other.from s.from in
    let t = are.edges begins (r.2 begins (eq-eqb s.from s.from refl)) in
    let from_same : t.0.from + 1 ≡ low = (let x : t.0.from ≡ s.from = eqb-true _ _ t.1 in omega arith) in
    let T : ℕ → Type 0 = λ y. Meets (minutes_of new) (pos y -ℤ pos width) width → IsAsGood all width best y in
    let good_low : T low = subst T from_same t.2.at_begin in
    let meets : (y : ℕ) → low ≤ y → y ≤ high → Meets (minutes_of new) (pos y -ℤ pos width) width =
    λ y a b. meets_at new s width y r.2 some (omega arith) a (omega arith) in
    let round : IsRound all (minutes_of new) width best low high = record {
      tried = are.spans;
      meets = meets;
      at_low = good_low (meets low (omega arith) (omega arith));
      fits = omega arith;
      last = (let e : high - width ≡ s.to - 1 = omega arith in
          are.within (pos (high - width)) (r.2 (covers (pos (high - width))) (covers-from (high - width) s (omega arith) (omega arith))));
    } in
    good_round all (minutes_of new) width best low high round e (omega arith) (omega arith)

good_from : (all new : List Span) (width : ℕ) (best : Window) → 0 < width → AreAllTried all new width best → (start minute : ℤ) →
    start ≤ℤ minute → minute <ℤ (start +ℤ pos width) → minutes_of new minute ≡ true →
    (end : ℕ) × (start ≡ pos end -ℤ pos width) × IsAsGood all width best end
good_from all new width best some are start (pos n) from to member =
    let w = window_end start width n from to in
    (w.0, w.1, good_near all new width best some are w.0 n member w.2 w.3)
good_from all new width best some are start (negsuc n) from to member = absurd (false≢true (sym (no_negative new n) ∙ member))

good_meeting : (all new : List Span) (width : ℕ) (best : Window) → 0 < width → AreAllTried all new width best → (start : ℤ) →
    Meets (minutes_of new) start width →
    (end : ℕ) × (start ≡ pos end -ℤ pos width) × IsAsGood all width best end
good_meeting all new width best some are start m = good_from all new width best some are start m.minute m.from_start m.before_end m.member

pub is_fullest : (all new : List Span) (width : ℕ) (best : Window) → 0 < width → AreAllTried all new width best →
    IsCounted all width best → IsMet (minutes_of new) width best → 0 < best.minutes →
    IsFullest (minutes_of all) (minutes_of new) width best.minutes (pos best.end -ℤ pos width)
is_fullest all new width best some are is met more = let held_there = is.holds in record {
  meets = met more;
  holds = held_there;
  most = λ other m. (let g = good_meeting all new width best some are other m in
      let e : count (minutes_of all) other width ≡ held all g.0 width = ap (λ s. count (minutes_of all) s width) g.1 in
      let most = g.2.most in omega arith);
  first = λ other sooner m. (let g = good_meeting all new width best some are other m in
      let s = g.1 in
      let l : g.0 < best.end = omega (arith, ints) in
      let e : count (minutes_of all) other width ≡ held all g.0 width = ap (λ s. count (minutes_of all) s width) g.1 in
      let first = g.2.first l in omega arith);
}

-- where the best window is empty, there is no new minute
pub no_minute : (all new : List Span) (width : ℕ) (best : Window) → 0 < width → AreAllTried all new width best → best.minutes ≡ 0 →
    HasNoMinute (minutes_of new)
no_minute all new width best some are none minute is =
    let m : Meets (minutes_of new) minute width = record {
      minute = minute;
      from_start = omega (arith, ints);
      before_end = omega (arith, ints);
      member = is;
    } in
    let g = good_meeting all new width best some are minute m in
    let e : count (minutes_of all) minute width ≡ held all g.0 width = ap (λ s. count (minutes_of all) s width) g.1 in
    let most = g.2.most in
    let more = meets-count (minutes_of all) minute width (meets-part (minutes_of new) (minutes_of all) minute width are.within m) in
    absurd (omega arith)

-- the window that ends with the year 1999 is empty
pub nothing_held : (all : List Span) (width : ℕ) → IsCounted all width (record { minutes = 0; end = 0 })
nothing_held all width =
    let z : below (members all) 0 ≡ 0 = below-zero (members all) in
    let e = held-before all 0 width in
    record { holds = omega arith; near = omega arith }
