use Rattle.std.proofs.Common.{rules, refl, sym, subst, arith, length, ℕ}
use Rattle.std.proofs.lemmas.Option.{slice_get_read}
use Rattle.loading.specs.Reading.{PostsRead}
use Rattle.loading.proofs.ReadCrewBase.{none_read, stranger, one_read}
use Rattle.loading.proofs.read_crew_base.posted_members.Goals as goal

pub loop-row-init : goal.loop-row-init
loop-row-init c = subst (PostsRead c.args.roster.now.bases c.args.roster.now.crew c.args.records.now 0) (sym c.new-posted.ensures) (none_read c.args.roster.now c.args.records.now)

pub returns-in_default : goal.returns-in_default
returns-in_default c = (
  refl,
  stranger c.args.roster.now c.args.records.now c.loop-row.row-index c.row-item.result
      (slice_get_read c.args.records.now (length c.args.records.now) c.loop-row.row-index c.row-item.result refl (omega arith) c.row-item.is) (search rules),
)

pub loop-row-preserved : goal.loop-row-preserved
loop-row-preserved c =
    one_read c.args.roster.now c.args.records.now c.loop-row.row-index c.row-item.result
    (slice_get_read c.args.records.now (length c.args.records.now) c.loop-row.row-index c.row-item.result refl (omega arith) c.row-item.is)
    c.loop-row.posted c.insert.new.self (c.in-Some.who, c.in-Some.member) (search rules) c.loop-row.invariant c.in_ok-insert.ensures.ok

pub returns : goal.returns
returns c = subst (λ (n : ℕ). PostsRead c.args.roster.now.bases c.args.roster.now.crew c.args.records.now n c.loop-row.posted) (search rules) c.loop-row.invariant
