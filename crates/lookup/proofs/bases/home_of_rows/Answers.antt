use Rattle.std.proofs.Common.{◌≡◌, rules, refl, subst, sym, arith, true, false, length, List, ℕ, Result, Err, IfErr}
use Rattle.std.specs.Str.{bytes_eq}
use Rattle.std.proofs.lemmas.Option.{slice_get_read}
use Rattle.duty.specs.Shape.{home}
use Rattle.state_rows.specs.declared.fault.StoreFault.{StoreFault}
use Rattle.state_rows.specs.declared.fault.StoreFault.TheVariants.{Store}
use Rattle.lookup.specs.Bases.{AreOfBases}
use Rattle.lookup.proofs.BaseLemmas.{HaveNoHome, bad_zone, home_here, no_home, none_passed, one_passed}
use Rattle.lookup.proofs.bases.home_of_rows.Goals as goal

pub loop-row-init : goal.loop-row-init
loop-row-init c = none_passed c.args.records.now

pub returns-in_err-id-clause-unread : goal.returns-in_err-id-clause-unread
returns-in_err-id-clause-unread c =
    let records = c.args.records.now in
    let fault = c.in_err-id.field-0.0 in
    let is : c.from_residual.result ≡ Err fault = search rules in
    subst (λ (r : Result (List ℕ) StoreFault). IfErr r (λ told. told ≡ Store → AreOfBases records → ⊥)) (sym is)
    (λ store. bad_zone records c.loop-row.row-index c.row-item.result (slice_get_read records (length records) c.loop-row.row-index c.row-item.result refl (omega arith) c.row-item.is) (c.in_err-id.ensures.unread store))

pub returns-then-is_home-clause-told : goal.returns-then-is_home-clause-told
returns-then-is_home-clause-told c =
    let is : bytes_eq c.in_ok-id.field-0.id home ≡ true = search rules in
    home_here c.args.records.now c.loop-row.row-index c.row-item.result c.in_ok-id.field-0.id c.in_ok-id.field-0.zone
    (slice_get_read c.args.records.now (length c.args.records.now) c.loop-row.row-index c.row-item.result refl (omega arith) c.row-item.is) c.in_ok-id.ensures.told is

pub loop-row-preserved : goal.loop-row-preserved
loop-row-preserved c =
    let other : bytes_eq c.in_ok-id.field-0.id home ≡ false = search rules in
    one_passed c.args.records.now c.loop-row.row-index c.row-item.result c.in_ok-id.field-0.id c.in_ok-id.field-0.zone
    (slice_get_read c.args.records.now (length c.args.records.now) c.loop-row.row-index c.row-item.result refl (omega arith) c.row-item.is) c.in_ok-id.ensures.told other c.loop-row.invariant

pub returns-clause-unread : goal.returns-clause-unread
returns-clause-unread c = λ store are. no_home c.args.records.now (subst (λ (n : ℕ). HaveNoHome c.args.records.now n) (search rules) c.loop-row.invariant) are
