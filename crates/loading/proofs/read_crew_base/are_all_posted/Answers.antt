use Rattle.std.proofs.Common.{rules, ◌≡◌, refl, sym, subst, ◌∙◌, ◌∷◌, ℕ, List}
use Rattle.entries.proofs.Entries.{Passed, none_passed, next_passed, is_there, all_passed}
use Rattle.loading.proofs.ReadCrewBase.{has_value, is_there as there_is}
use Rattle.loading.proofs.read_crew_base.are_all_posted.Goals as goal

pub loop-who-init : goal.loop-who-init
loop-who-init c = none_passed (λ (id : List ℕ). id) _ c.args.crew.now c.into_iter-who-iterator.result (search rules)

pub returns-then-not-contains : goal.returns-then-not-contains
returns-then-not-contains c =
    let who = c.in-Some.who.now in
    let left : c.loop-who.who-iterator ≡ (who, c.in-Some.field-0-1.now) ∷ c.next.new.self = search rules in
    let here = is_there (λ (id : List ℕ). id) _ _ (who, c.in-Some.field-0-1.now) c.next.new.self (subst (Passed (λ (id : List ℕ). id) _ _) left c.loop-who.invariant) in
    (λ no. absurd (let f = no in cc), λ all. absurd (let f = sym c.if-not-contains.true ∙ c.contains.ensures ∙ all who (there_is _ here.0 here.1) in cc))

pub loop-who-preserved : goal.loop-who-preserved
loop-who-preserved c =
    let who = c.in-Some.who.now in
    let left : c.loop-who.who-iterator ≡ (who, c.in-Some.field-0-1.now) ∷ c.next.new.self = search rules in
    next_passed (λ (id : List ℕ). id) _ _ (who, c.in-Some.field-0-1.now) c.next.new.self (subst (Passed (λ (id : List ℕ). id) _ _) left c.loop-who.invariant)
    (search rules)

pub returns : goal.returns
returns c = (
  λ yes who there. let it = has_value _ there in all_passed (λ (id : List ℕ). id) _ _ (λ i j e. e) c.loop-who.who-iterator (search rules) c.loop-who.invariant who it.0 it.1,
  λ whole. refl,
)
