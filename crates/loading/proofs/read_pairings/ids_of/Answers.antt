use Rattle.std.proofs.Common.{rules, ◌≡◌, refl, sym, subst, ◌∙◌, ap, arith, length, ℕ, true, false}
use Rattle.std.specs.FinMap as fin
use Rattle.std.proofs.lemmas.Option.{slice_get_read}
use Rattle.duty.specs.Shape.{is_id}
use Rattle.loading.specs.PlanTables.{IdsRead}
use Rattle.loading.proofs.ReadIds.{none_read, stranger, one_read}
use Rattle.loading.proofs.read_pairings.ids_of.Goals as goal

pub loop-row-init : goal.loop-row-init
loop-row-init c = subst (IdsRead c.args.records.now 0) (sym c.new-ids.ensures) (none_read c.args.records.now)

pub returns-then-not-has_shape : goal.returns-then-not-has_shape
returns-then-not-has_shape c =
    let it = c.row-item.result in
    let failed : is_id it.id ≡ false = search rules in (
      refl,
      stranger c.args.records.now c.loop-row.row-index it
          (slice_get_read c.args.records.now (length c.args.records.now) c.loop-row.row-index it refl (omega arith) c.row-item.is) failed,
    )

pub loop-row-preserved : goal.loop-row-preserved
loop-row-preserved c =
    let it = c.row-item.result in
    let same : c.new-id.result ≡ it.id = search rules in
    let shaped : is_id it.id ≡ true = search rules in
    one_read c.args.records.now c.loop-row.row-index it
    (slice_get_read c.args.records.now (length c.args.records.now) c.loop-row.row-index it refl (omega arith) c.row-item.is)
    c.loop-row.ids c.insert.new.self c.loop-row.invariant shaped (c.in_ok-insert.ensures.ok ∙ ap (λ n. fin.insert c.loop-row.ids n tt) same)

pub returns : goal.returns
returns c = subst (λ (n : ℕ). IdsRead c.args.records.now n c.loop-row.ids) (search rules) c.loop-row.invariant
