use Rattle.std.proofs.Common.{◌≡◌, rules, refl, subst, sym, arith, length, ℕ, Result, Err, IfErr}
use Rattle.std.proofs.lemmas.Option.{slice_get_read}
use Rattle.roster.specs.Bases.{Bases}
use Rattle.state_rows.specs.declared.fault.StoreFault.{StoreFault}
use Rattle.state_rows.specs.declared.fault.StoreFault.TheVariants.{Store}
use Rattle.lookup.specs.Bases.{AreOfBases, AreFirstBases}
use Rattle.lookup.proofs.BaseLemmas.{bad_zone, one_read}
use Rattle.lookup.proofs.bases.bases_of_rows.Goals as goal

pub loop-row-preserved : goal.loop-row-preserved
loop-row-preserved c =
    one_read c.args.records.now c.loop-row.row-index c.row-item.result
    (slice_get_read c.args.records.now (length c.args.records.now) c.loop-row.row-index c.row-item.result refl (omega arith) c.row-item.is) c.loop-row.all c.insert.new.self c.in_ok-id.id c.in_ok-id.zone (search rules) (search rules) c.loop-row.invariant

pub returns-clause-told : goal.returns-clause-told
returns-clause-told c = subst (λ (n : ℕ). AreFirstBases c.args.records.now n c.loop-row.all) (search rules) c.loop-row.invariant

pub returns-in_err-id-clause-unread : goal.returns-in_err-id-clause-unread
returns-in_err-id-clause-unread c =
    let records = c.args.records.now in
    let fault = c.in_err-id.field-0.0 in
    let is : c.from_residual-in_err-id.result ≡ Err fault = search rules in
    subst (λ (r : Result Bases StoreFault). IfErr r (λ told. told ≡ Store → AreOfBases records → ⊥)) (sym is)
    (λ store. bad_zone records c.loop-row.row-index c.row-item.result (slice_get_read records (length records) c.loop-row.row-index c.row-item.result refl (omega arith) c.row-item.is) (c.in_err-id.ensures.unread store))
