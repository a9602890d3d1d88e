-- A span that takes in the intervals from a place on which it meets or touches.
use Rattle.std.proofs.Common.{◌≡◌, ℕ, suc, ◌+◌, ◌<◌, ◌≤◌, ◌||◌, List, length, take, drop, get_or, refl, sym, ap, ◌∙◌, arith}
use Rattle.std.specs.Prelude.{ℤ}
use Rattle.std.specs.List.{remove, insert}
use Rattle.std.proofs.lemmas.List.{length-map, map-append, take-map, drop-map, take-take, length-take-le, take_at, get_or-take}
use Rattle.std.proofs.lemmas.List.Edits.{length-remove, get_or-remove_below, get_or-remove_above}
use Rattle.duty.specs.declared.span.Span.{Span}
use Rattle.duty.specs.declared.intervals.Interval.{Interval}
use Rattle.duty.specs.Minutes.{covers, minutes_of}
use Rattle.duty.specs.Intervals.{AreApart, AreSummed, spans_in, joined, lengths}
use Rattle.duty.proofs.Apart.{apart-from, apart-order, apart-remove, apart-insert, joined-minutes, span_at}

pub spans-remove : (xs : List Interval) (i : ℕ) → spans_in (remove xs i) ≡ remove (spans_in xs) i
spans-remove xs i = simp (map-append, take-map, drop-map)

pub spans-length : (xs : List Interval) → length (spans_in xs) ≡ length xs
spans-length xs = length-map xs (λ i. i.span)

pub record IsAbsorbing (old : List Interval) (place : ℕ) (span : Span) (items : List Interval) (merged : Span) : Type 0 where
  pub apart : AreApart 0 (spans_in items)
  pub some : merged.from < merged.to
  pub within : place ≤ length items
  pub before : (k : ℕ) (d : Span) → k < place → (get_or (spans_in items) k d).to < merged.from
  pub after : (k : ℕ) (d : Span) → place ≤ k → k < length items → merged.from ≤ (get_or (spans_in items) k d).to
  pub minutes : (minute : ℤ) → (covers minute merged || minutes_of (spans_in items) minute) ≡
      (covers minute span || minutes_of (spans_in old) minute)
  pub front : take place items ≡ take place old

pub absorbing-begun :
    (old : List Interval) (place : ℕ) (span : Span) → AreApart 0 (spans_in old) → span.from < span.to → place ≤ length old →
    ((k : ℕ) (d : Interval) → k < place → (get_or old k d).span.to < span.from) →
    ((k : ℕ) (d : Interval) → place ≤ k → k < length old → span.from ≤ (get_or old k d).span.to) →
    IsAbsorbing old place span old span
absorbing-begun old place span apart some within before after = record {
  apart = apart;
  some = some;
  within = within;
  before = λ k d l. (let i : Interval = record { span = d; total = 0 } in rw (span_at old k i d (omega arith)) (before k i l));
  after = λ k d l m. (let i : Interval = record { span = d; total = 0 } in rw (span_at old k i d m) (after k i l m));
  minutes = λ minute. refl;
  front = refl;
}

pub absorbing-more :
    (old : List Interval) (place : ℕ) (span : Span) (items : List Interval) (merged : Span) (next : Interval) →
    IsAbsorbing old place span items merged → place < length items → get_or items place next ≡ next →
    next.span.from ≤ merged.to →
    IsAbsorbing old place span (remove items place) (joined merged next.span)
absorbing-more old place span items merged next now l is begins =
    let n : length (spans_in items) ≡ length items = spans-length items in
    let m : length (remove items place) + 1 ≡ length items = length-remove items place l in
    let here : get_or (spans_in items) place next.span ≡ next.span =
    span_at items place next next.span l ∙ ap (λ i. i.span) is in
    let reach : merged.from ≤ next.span.to = rw here at (now.after place next.span (omega arith) l) in
    let ok : next.span.from < next.span.to =
    rw here at (apart-from 0 (spans_in items) place next.span now.apart (omega arith)).1 in
    let some = now.some in
    record {
      apart = rw spans-remove (apart-remove 0 (spans_in items) place now.apart);
      some = omega arith;
      within = omega arith;
      before = λ k d h. (let e = get_or-remove_below (spans_in items) place d k h (omega arith) in
          let b = now.before k d h in
          let at : get_or (spans_in items) place d ≡ next.span = span_at items place next d l ∙ ap (λ i. i.span) is in
          let o : (get_or (spans_in items) k d).to < next.span.from =
          rw at at (apart-order 0 (spans_in items) k place d now.apart h (omega arith)) in
          rw (spans-remove, e) (omega arith));
      after = λ k d h f. (let e = get_or-remove_above (spans_in items) place d k h (omega arith) in
          let b = now.after (k + 1) d (omega arith) (omega arith) in
          rw (spans-remove, e) (omega arith));
      minutes = λ minute. (let j = joined-minutes minute (spans_in items) place next.span merged (omega arith)
          (rw here reach) (rw here begins) in
          let f = rw here at j in
          rw spans-remove (f ∙ now.minutes minute));
      front = take_at (take place items) (drop (suc place) items) place (length-take-le place items now.within) ∙ now.front;
    }

-- where nothing more meets or touches it, the span may be put in
pub absorbed :
    (old : List Interval) (place : ℕ) (span : Span) (items : List Interval) (merged : Span) →
    IsAbsorbing old place span items merged →
    ((d : Interval) → place < length items → merged.to < (get_or items place d).span.from) →
    AreApart 0 (insert (spans_in items) place merged)
absorbed old place span items merged now none =
    let n : length (spans_in items) ≡ length items = spans-length items in
    let within = now.within in
    apart-insert 0 (spans_in items) place merged now.apart (omega arith) now.some (omega arith) now.before
    (λ d l. let i : Interval = record { span = d; total = 0 } in
    rw (span_at items place i d (omega arith)) (none i (omega arith)))

-- the sums of those before the place stand
pub front-sums : (old items : List Interval) (place : ℕ) → take place items ≡ take place old → place ≤ length items → place ≤ length old →
    AreSummed place old → AreSummed place items
front-sums old items place front l m sums k d h =
    let a : get_or items k d ≡ get_or old k d =
    sym (get_or-take place items k d h) ∙ ap (λ xs. get_or xs k d) front ∙ get_or-take place old k d h in
    let b : take (k + 1) (spans_in items) ≡ take (k + 1) (spans_in old) =
    take-map (λ i. i.span) (k + 1) items ∙ ap spans_in (sym (take-take (k + 1) place items (omega arith)) ∙ ap (take (k + 1)) front ∙
    take-take (k + 1) place old (omega arith)) ∙ sym (take-map (λ i. i.span) (k + 1) old) in
    ap (λ i. i.total) a ∙ sums k d h ∙ ap lengths (sym b)
