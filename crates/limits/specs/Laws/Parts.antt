-- Sets of minutes of which one is part of another, or two together are a third.
use Rattle.std.proofs.Common.{◌≡◌, ℕ, zero, suc, ◌+◌, ◌≤◌, Bool, true, false, List, refl, sym, ap}
use Rattle.std.proofs.Common.{◌∙◌, arith, inl, inr, ◌⊎◌}
use Rattle.std.specs.Prelude.{ℤ, pos, ◌+ℤ◌}
use Rattle.std.specs.List.{list_any, Contains}
use Rattle.std.proofs.lemmas.List.Folds.{Any-from_list_any, list_any_at}
use Rattle.duty.specs.declared.duty_in_force.DutyInForce.{DutyInForce}
use Rattle.duty.specs.declared.kind.Kind.{Kind}
use Rattle.duty.specs.Minutes.{Meets, count, covers, spans_of, minutes_in}
use Rattle.duty.proofs.Counting.{count-none, count-more, one_if, meets-count}
use Rattle.duty.proofs.Scans.{list_any-flat_map}
use Rattle.limits.specs.Judgement.{IsWithin, IsJoined}

-- Each minute of the first set is a minute of the second.
abbrev pub IsPart : (ℤ → Bool) → (ℤ → Bool) → Type 0
IsPart some all = (i : ℤ) → some i ≡ true → all i ≡ true

-- Each minute of the first set is a minute of at least one of the other two.
abbrev pub IsUnion : (ℤ → Bool) → (ℤ → Bool) → (ℤ → Bool) → Type 0
IsUnion all others added = (i : ℤ) → all i ≡ true → (others i ≡ true) ⊎ (added i ≡ true)

-- a duty of the history that holds the minute
pub from_minutes : (kind : Kind) (history : List DutyInForce) (i : ℤ) →
    minutes_in kind history i ≡ true →
    (duty : DutyInForce) × Contains history duty × (list_any (covers i) (spans_of kind duty) ≡ true)
from_minutes kind history i is =
    let test : DutyInForce → Bool = λ d. list_any (covers i) (spans_of kind d) in
    let a = Any-from_list_any test history
    (sym (list_any-flat_map (covers i) (spans_of kind) history) ∙ is) in
    (a.1, (a.0, a.2, a.3), a.4)

-- what a duty of the history holds is a minute of the history
pub in_minutes : (kind : Kind) (history : List DutyInForce) (i : ℤ) (duty : DutyInForce) →
    Contains history duty →
    list_any (covers i) (spans_of kind duty) ≡ true → minutes_in kind history i ≡ true
in_minutes kind history i duty in' is =
    let test : DutyInForce → Bool = λ d. list_any (covers i) (spans_of kind d) in
    list_any-flat_map (covers i) (spans_of kind) history ∙
    list_any_at test history in'.0 duty in'.1 (ap test in'.2 ∙ is)

-- The minutes of fewer duties are minutes of all the duties.
pub part-minutes : (kind : Kind) (fewer duties : List DutyInForce) → IsWithin fewer duties →
    IsPart (minutes_in kind fewer) (minutes_in kind duties)
part-minutes kind fewer duties within i is =
    let h = from_minutes kind fewer i is in
    in_minutes kind duties i h.0 (within h.0 h.1) h.2

-- Each minute of all duties is a minute of the other duties or of the added duties.
pub union-minutes : (kind : Kind) (all others added : List DutyInForce) →
    IsJoined all others added →
    IsUnion (minutes_in kind all) (minutes_in kind others) (minutes_in kind added)
union-minutes kind all others added joined i is =
    let h = from_minutes kind all i is in
    elim (joined.0 h.0 h.1) [
      | inl other ↦ inl (in_minutes kind others i h.0 other h.2)
      | inr new ↦ inr (in_minutes kind added i h.0 new h.2)
    ]

-- a truth that follows from another counts no less
pub one_if-part : (a b : Bool) → (a ≡ true → b ≡ true) → one_if a ≤ one_if b
one_if-part false b h = omega arith
one_if-part true b h = rw (h refl) (omega arith)

-- a part of a set has no more minutes in a window than the whole
pub count-part : (some all : ℤ → Bool) → IsPart some all → (start : ℤ) (width : ℕ) →
    count some start width ≤ count all start width
count-part some all part start zero = let a = count-none some start in omega arith
count-part some all part start (suc width) =
    let rest = count-part some all part (start +ℤ pos 1) width in
    let here = one_if-part (some start) (all start) (part start) in
    let a = count-more some start width in
    let b = count-more all start width in
    omega arith

-- a truth that gives one of two others counts no more than both
one_if-union : (a b c : Bool) → (a ≡ true → (b ≡ true) ⊎ (c ≡ true)) →
    one_if a ≤ one_if b + one_if c
one_if-union false b c h = omega arith
one_if-union true b c h =
    elim (h refl) [ inl is ↦ rw is (omega arith) | inr is ↦ rw is (omega arith) ]

-- a union has no more minutes in a window than its two sets together
pub count-union : (all others added : ℤ → Bool) → IsUnion all others added →
    (start : ℤ) (width : ℕ) →
    count all start width ≤ count others start width + count added start width
count-union all others added union start zero = let a = count-none all start in omega arith
count-union all others added union start (suc width) =
    let rest = count-union all others added union (start +ℤ pos 1) width in
    let here = one_if-union (all start) (others start) (added start) (union start) in
    let a = count-more all start width in
    let b = count-more others start width in
    let c = count-more added start width in
    omega arith

-- what meets a part of a set meets the set
pub meets-part : (some all : ℤ → Bool) (start : ℤ) (width : ℕ) → IsPart some all →
    Meets some start width →
    Meets all start width
meets-part some all start width part m = record {
  minute = m.minute;
  from_start = m.from_start;
  before_end =
      m.before_end;
  member = part m.minute m.member;
}

-- If a window holds no minute of the added set, a minute of the union that it meets is of the other
-- set.
pub meets-other : (all others added : ℤ → Bool) (start : ℤ) (width : ℕ) → IsUnion all others added →
    count added start width ≡ 0 → Meets all start width → Meets others start width
meets-other all others added start width union none m =
    elim (union m.minute m.member) [
      | inl other ↦ record {
        minute = m.minute;
        from_start = m.from_start;
        before_end = m.before_end;
        member = other;
      }
      | inr new ↦ (let some = meets-count added start width
          (record {
            minute = m.minute;
            from_start = m.from_start;
            before_end = m.before_end;
            member = new;
          }) in
          absurd (omega arith))
    ]
