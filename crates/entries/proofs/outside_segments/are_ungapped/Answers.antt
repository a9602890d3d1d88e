use Rattle.std.proofs.Common.{rules, ◌≡◌, refl, sym, subst, ◌∙◌, ◌∷◌}
use Rattle.entries.specs.OutsideRows.{name_of_outside_segment}
use Rattle.entries.proofs.Entries.{Passed, next_passed, is_there, all_passed}
use Rattle.entries.proofs.KeyedOutsideSegments.{names_same}
use Rattle.entries.proofs.outside_segments.are_ungapped.Goals as goal

pub returns-then-not-branch : goal.returns-then-not-branch
returns-then-not-branch c =
    let key = c.in-Some.key.now in
    let left : c.loop-key.key-iterator ≡ (key, c.in-Some.field-0-1.now) ∷ c.next.new.self = search rules in
    let here = is_there name_of_outside_segment _ _ (key, c.in-Some.field-0-1.now) c.next.new.self (subst (Passed name_of_outside_segment _ _) left c.loop-key.invariant) in
    (λ no. absurd (let f = no in cc), λ whole. sym c.if-not-branch.true ∙ c.in_ok-follows.ensures.1 (whole key.outside key.number here.0 here.1))

pub loop-key-preserved : goal.loop-key-preserved
loop-key-preserved c =
    let key = c.in-Some.key.now in
    let left : c.loop-key.key-iterator ≡ (key, c.in-Some.field-0-1.now) ∷ c.next.new.self = search rules in
    next_passed name_of_outside_segment _ _ (key, c.in-Some.field-0-1.now) c.next.new.self (subst (Passed name_of_outside_segment _ _) left c.loop-key.invariant)
    (c.in_ok-follows.ensures.0 c.if-not-branch.false)

pub returns : goal.returns
returns c = (
  λ yes of number it there. all_passed name_of_outside_segment _ _ names_same c.loop-key.key-iterator (search rules) c.loop-key.invariant (record { outside = of; number = number }) it there,
  λ whole. refl,
)
