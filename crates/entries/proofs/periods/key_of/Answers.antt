use Rattle.std.proofs.Common.{rules, ◌≡◌, sym, subst, List, ℕ, Some, true}
use Rattle.std.specs.FinMap as fin
use Rattle.tables.specs.Records.{IsNumber}
use Rattle.entries.proofs.KeyedPeriods.{Tells, tells}
use Rattle.entries.proofs.periods.key_of.Goals as goal

pub returns : goal.returns
returns c =
    let row = c.args.row.now in
    let same : c.new-pairing.result ≡ row.pairing = search rules in
    let known : fin.contains_key c.args.ids.now row.pairing ≡ true = search rules in
    let fits : IsNumber row.number = search rules in
    subst (λ (p : List ℕ). Tells c.args.ids.now row (Some (record { pairing = p; number = row.number }))) (sym same)
    (tells c.args.ids.now row fits (c.is_at_instants.ensures.0 c.if-not-is_at_instants.false) known)
