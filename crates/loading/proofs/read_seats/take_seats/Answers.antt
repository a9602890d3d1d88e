use Rattle.std.proofs.Common.{rules, refl, subst, arith, length, ℕ}
use Rattle.std.proofs.lemmas.Option.{slice_get_read}
use Rattle.loading.specs.Reading.{SeatsRead}
use Rattle.loading.proofs.ReadSeats.{none_read, stranger, one_read}
use Rattle.loading.proofs.read_seats.take_seats.Goals as goal

pub loop-row-init : goal.loop-row-init
loop-row-init c = none_read c.args.records.now c.args.roster.now c.requires

pub returns-in_default : goal.returns-in_default
returns-in_default c = (
  refl,
  stranger c.args.records.now c.loop-row.row-index c.row-item.result
      (slice_get_read c.args.records.now (length c.args.records.now) c.loop-row.row-index c.row-item.result refl (omega arith) c.row-item.is) c.args.roster.now c.loop-row.roster c.loop-row.invariant (search rules),
)

pub loop-row-preserved : goal.loop-row-preserved
loop-row-preserved c =
    one_read c.args.records.now c.loop-row.row-index c.row-item.result
    (slice_get_read c.args.records.now (length c.args.records.now) c.loop-row.row-index c.row-item.result refl (omega arith) c.row-item.is)
    c.args.roster.now c.loop-row.roster _ (record { pairing = c.in-Some.pairing; taken = c.in-Some.taken }) (search rules) c.loop-row.invariant (search rules)

pub returns : goal.returns
returns c = subst (λ (n : ℕ). SeatsRead c.args.records.now n c.args.roster.now c.loop-row.roster) (search rules) c.loop-row.invariant
