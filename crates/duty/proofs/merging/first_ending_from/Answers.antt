use Rattle.std.proofs.Common.{rules, of_calls, List, ◌≡◌, ℕ, ◌≤◌, length, get_or, arith, nat_lt, sym, ◌∙◌, inl, inr}
use Rattle.std.proofs.lemmas.Bool.{ltb-true, lt-ltb, cases_lt, false≢true}
use Rattle.std.proofs.lemmas.Fn.{always_returns_same}
use Rattle.std.proofs.lemmas.List.{length-map}
use Rattle.std.specs.List.Sorted.{IsPartitionedBy}
use Rattle.duty.specs.Intervals.{spans_in, AreApart}
use Rattle.duty.specs.declared.intervals.Interval.{Interval}
use Rattle.duty.proofs.Apart.{apart-ends, span_at}
use Rattle.duty.proofs.merging.first_ending_from.Goals as goal

partitioned : (xs : List Interval) (minute : ℕ) → AreApart 0 (spans_in xs) →
    IsPartitionedBy (λ i. nat_lt i.span.to minute) xs
partitioned xs minute h i j d l m up =
    let n : length (spans_in xs) ≡ length xs = length-map xs (λ i. i.span) in
    let e = apart-ends 0 (spans_in xs) i j d.span h l (omega arith) in
    let a = span_at xs i d d.span (omega arith) in
    let b = span_at xs j d d.span m in
    let f : (get_or xs i d).span.to ≤ (get_or xs j d).span.to = rw (a, b) at e in
    let u = ltb-true _ _ up in
    lt-ltb _ _ (omega arith)

pub returns-clause-before : goal.returns-clause-before
returns-clause-before c k d l =
    let xs = c.args.intervals.now in
    let point = c.partition_point.ensures.partitioned (λ i. nat_lt i.span.to c.args.minute)
    (always_returns_same _ _ _ (λ a r f k. search (rules, of_calls))) (partitioned xs c.args.minute c.requires) in
    ltb-true _ _ (point.0 k d (omega arith) l)

pub returns-clause-after : goal.returns-clause-after
returns-clause-after c k d l h =
    let xs = c.args.intervals.now in
    let point = c.partition_point.ensures.partitioned (λ i. nat_lt i.span.to c.args.minute)
    (always_returns_same _ _ _ (λ a r f k. search (rules, of_calls))) (partitioned xs c.args.minute c.requires) in
    let no = point.1 k d l h in
    elim (cases_lt (get_or xs k d).span.to c.args.minute) [
      | inl less ↦ absurd (false≢true (sym no ∙ lt-ltb _ _ less))
      | inr more ↦ more
    ]
