use Rattle.std.proofs.Common.{rules, ◌≡◌, sym, ◌∙◌, ◌-◌, ◌+◌, arith, ℕ}
use Rattle.std.specs.FinMap as fin
use Rattle.std.specs.Prelude.{is_some}
use Rattle.entries.specs.PlanRows.{segment_name}
use Rattle.entries.proofs.Following.{before_there, before_is_there}
use Rattle.entries.proofs.segments.follows.Goals as goal

pub returns-in_ok-try_clone-in_default : goal.returns-in_ok-try_clone-in_default
returns-in_ok-try_clone-in_default c =
    let get = λ (k : ℕ). fin.get c.args.segments.now (segment_name c.args.key.now.pairing c.args.key.now.period k) in
    let number = c.args.key.now.number in
    let is : c.contains.result ≡ is_some (get (number - 1)) = search rules in
    let some : number ≡ 0 → ⊥ = search rules in
    let later : number ≡ 1 → ⊥ = search rules in
    let next : (number - 1) + 1 ≡ number = omega (arith, some) in
    (λ yes. before_there get number (number - 1) next (sym is ∙ yes), λ follows. is ∙ before_is_there get number (number - 1) next later follows)
