use Rattle.std.proofs.Common.{rules, ◌≡◌, sym, subst, List, ℕ, Some, true}
use Rattle.std.specs.FinMap as fin
use Rattle.entries.specs.PlanRows.{period_name}
use Rattle.entries.proofs.KeyedSegments.{Tells, tells}
use Rattle.entries.proofs.segments.key_of.Goals as goal

pub returns : goal.returns
returns c =
    let row = c.args.row.now in
    let same : c.new.result ≡ row.pairing = search rules in
    let known : fin.contains_key c.args.periods.now (period_name row.pairing row.period) ≡ true = search rules in
    subst (λ (p : List ℕ). Tells c.args.periods.now row (Some (record { pairing = p; period = row.period; number = row.number }))) (sym same) (tells c.args.periods.now row known)
