use Rattle.std.proofs.Common.{rules, refl, subst, arith, length, ℕ}
use Rattle.std.proofs.lemmas.Option.{slice_get_read}
use Rattle.loading.specs.Reading.{MembersRead}
use Rattle.loading.proofs.ReadCrew.{none_read, stranger, one_read}
use Rattle.loading.proofs.read_crew.add_members.Goals as goal

pub loop-row-init : goal.loop-row-init
loop-row-init c = none_read c.args.records.now c.args.roster.now c.requires

pub returns-in_default : goal.returns-in_default
returns-in_default c = (
  refl,
  stranger c.args.records.now c.loop-row.row-index c.row-item.result
      (slice_get_read c.args.records.now (length c.args.records.now) c.loop-row.row-index c.row-item.result refl (omega arith) c.row-item.is) (search rules),
)

pub loop-row-preserved : goal.loop-row-preserved
loop-row-preserved c =
    one_read c.args.records.now c.loop-row.row-index c.row-item.result
    (slice_get_read c.args.records.now (length c.args.records.now) c.loop-row.row-index c.row-item.result refl (omega arith) c.row-item.is) c.args.roster.now c.loop-row.roster c.put.new.self c.in-Some.entry (search rules) c.loop-row.invariant c.in_ok-put.ensures.ok

pub returns : goal.returns
returns c = subst (λ (n : ℕ). MembersRead c.args.records.now n c.args.roster.now c.loop-row.roster) (search rules) c.loop-row.invariant
