-- New duties fit all duties and these without far ones alike.
use Rattle.std.proofs.Common.{◌≡◌, ℕ, ◌++◌, Bool, true, false, List, map, inl, inr, sym, ap, refl, ◌↔◌}
use Rattle.std.proofs.lemmas.Bool.{false≢true}
use Rattle.std.proofs.lemmas.List.Elements.{Contains-append_left, Contains-append_right, Contains-append_cases}
use Rattle.duty.specs.declared.duty_in_force.DutyInForce.{DutyInForce}
use Rattle.duty.specs.declared.span.Span.{Span}
use Rattle.duty.specs.Minutes.{Overlap}
use Rattle.duty.specs.Overlaps.{overlaps}
use Rattle.duty.proofs.Overlapping.{overlaps_is}
use Rattle.limits.specs.Reach.{AreAllButFar, AreIn}
use Rattle.limits.proofs.Far.{far_changes_nothing, far_overlaps_nothing}
use Rattle.limits.specs.declared.section.Section.{Section}
use Rattle.roster.specs.Refusals.{broken_by}
use Rattle.part.proofs.Alike.{SameFit}

same_test : (a b : Bool) (P : Type 0) → (a ≡ true) ↔ P → (b ≡ true) ↔ P → a ≡ b
same_test true true P p q = refl
same_test false false P p q = refl
same_test true false P p q = absurd (false≢true (q.1 (p.0 refl)))
same_test false true P p q = absurd (false≢true (p.1 (q.0 refl)))

turned : (a b : List DutyInForce) → Overlap a b → Overlap b a
turned a b o = record { minute = o.minute; in_history = o.in_other; in_other = o.in_history }

-- the new duties beside both
with_new : (all near new : List DutyInForce) (spans : List Span) → AreAllButFar spans all near →
    AreAllButFar spans (all ++ new) (near ++ new)
with_new all near new spans rest = record {
  within = λ duty c. elim (Contains-append_cases near new duty c) [
    | inl c ↦ Contains-append_left all new duty (rest.within duty c)
    | inr c ↦ Contains-append_right all new duty c
  ];
  others = λ duty c. elim (Contains-append_cases all new duty c) [
    | inl c ↦ elim (rest.others duty c) [
      | inl kept ↦ inl (Contains-append_left near new duty kept)
      | inr far ↦ inr far
    ]
    | inr c ↦ inl (Contains-append_right near new duty c)
  ];
}

same_overlap : (all near new : List DutyInForce) (spans : List Span) → AreIn spans new →
    AreAllButFar spans all near → overlaps new near ≡ overlaps new all
same_overlap all near new spans inside rest =
    let law = far_overlaps_nothing all near new spans inside rest in
    let a = overlaps_is new all in
    let b = overlaps_is new near in
    same_test (overlaps new near) (overlaps new all) (Overlap new near) b (
      λ is. turned near new (law.0 (turned new all (a.0 is))),
      λ o. a.1 (turned all new (law.1 (turned new near o))),
    )

same_broken : (who : List ℕ) (all near new : List DutyInForce) (spans : List Span) →
    AreIn spans new → AreAllButFar spans all near → broken_by who near new ≡ broken_by who all new
unfolding broken_by
same_broken who all near new spans inside rest =
    ap (map (λ (section : Section). record { crew = who; section = section }))
    (sym (far_changes_nothing (all ++ new) (near ++ new) new spans inside (with_new all near new spans rest)))

pub same_fit : (who : List ℕ) (all near new : List DutyInForce) (spans : List Span) →
    AreIn spans new → AreAllButFar spans all near → SameFit who new near all
same_fit who all near new spans inside rest =
    (same_overlap all near new spans inside rest, same_broken who all near new spans inside rest)
