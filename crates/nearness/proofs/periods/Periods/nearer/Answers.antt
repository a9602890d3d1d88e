use Rattle.std.proofs.Common.{Some, None, sym, subst, ◌∙◌, arith}
use Rattle.std.specs.Prelude.{Option, IfSome, IfNone, ℤ, ◌≤ℤ◌, ◌<ℤ◌}
use Rattle.std.proofs.lemmas.Int.{ints}
use Rattle.std.proofs.lemmas.Bool.{false≢true}
use Rattle.nearness.specs.Nearest.{IsNearest, HasNone}
use Rattle.nearness.proofs.Measured.{kept_aside, kept_none, kept_after, taken_after, taken_first}
use Rattle.nearness.proofs.periods.Periods.nearer.Goals as goal

some_map : {X : Type 0} (P Q : X → Type 0) (o : Option X) → ((x : X) → P x → Q x) → IfSome o P → IfSome o Q
some_map P Q (Some x) f p = f x p
some_map P Q None f p = p

none_map : {X : Type 0} (P Q : Type 0) (o : Option X) → (P → Q) → IfNone o P → IfNone o Q
none_map P Q (Some x) f p = p
none_map P Q None f p = f p

not_less : (a b : ℤ) → (b <ℤ a → ⊥) → a ≤ℤ b
not_less a b never = grind (arith, ints)

pub returns-in_default-clause-best : goal.returns-in_default-clause-best
returns-in_default-clause-best c =
    let s = c.args.self.now in
    let none = rw c.in_default.is at c.measure.ensures.none in
    some_map _ _ c.args.best (λ p is. kept_aside c.args.index s.limit s.all.now s.new.now s.others p is none) c.requires.best

pub returns-in_default-clause-none : goal.returns-in_default-clause-none
returns-in_default-clause-none c =
    let s = c.args.self.now in
    let none = rw c.in_default.is at c.measure.ensures.none in
    none_map _ _ c.args.best (λ no. kept_none c.args.index s.limit s.all.now s.new.now s.others no none) c.requires.none

pub returns-in-Some-best-clause-best : goal.returns-in-Some-best-clause-best
returns-in-Some-best-clause-best c =
    let s = c.args.self.now in
    let measured = c.in-Some.ensures.some in
    let old : IsNearest c.args.index s.limit s.all.now s.new.now s.others c.in-Some-best.best =
    subst (λ o. IfSome o (λ p. IsNearest c.args.index s.limit s.all.now s.new.now s.others p)) c.in-Some-best.is c.requires.best in
    kept_after c.args.index s.limit s.all.now s.new.now s.others c.in-Some-best.best c.in-Some.period old measured
    (not_less _ _ (λ l. false≢true (sym c.if-not-is_nearer.true ∙ c.is_nearer.ensures.1 l)))

pub returns-in_default-best-clause-best : goal.returns-in_default-best-clause-best
returns-in_default-best-clause-best c =
    let s = c.args.self.now in
    let old : IsNearest c.args.index s.limit s.all.now s.new.now s.others c.in-Some-best.best =
    subst (λ o. IfSome o (λ p. IsNearest c.args.index s.limit s.all.now s.new.now s.others p)) c.in-Some-best.is c.requires.best in
    taken_after c.args.index s.limit s.all.now s.new.now s.others c.in-Some-best.best c.in-Some.period old c.in-Some.ensures.index
    c.in-Some.ensures.some (c.is_nearer.ensures.0 c.if-not-is_nearer.false)

pub returns-in_default-best-2-clause-best : goal.returns-in_default-best-2-clause-best
returns-in_default-best-2-clause-best c =
    let s = c.args.self.now in
    let none : HasNone c.args.index s.limit s.all.now s.new.now s.others =
    subst (λ o. IfNone o (HasNone c.args.index s.limit s.all.now s.new.now s.others)) c.in_default-best.is c.requires.none in
    taken_first c.args.index s.limit s.all.now s.new.now s.others c.in-Some.period none c.in-Some.ensures.index c.in-Some.ensures.some
