use Rattle.std.proofs.Common.{rules, refl, arith, length}
use Rattle.std.proofs.lemmas.Option.{slice_get_read}
use Rattle.loading.proofs.ReadBook.{nothing_only, other_only, next_same}
use Rattle.loading.proofs.read_book.only.Goals as goal

pub returns-then-not-is_same : goal.returns-then-not-is_same
returns-then-not-is_same c it =
    other_only c.args.records.now c.loop-other.other-index 0 c.other-item.result c.in-Some.first.now it
    (slice_get_read c.args.records.now (length c.args.records.now) c.loop-other.other-index c.other-item.result refl (omega arith) c.other-item.is) (search rules) (search rules)

pub loop-other-preserved : goal.loop-other-preserved
loop-other-preserved c =
    next_same c.args.records.now c.loop-other.other-index c.in-Some.first.now c.other-item.result
    (slice_get_read c.args.records.now (length c.args.records.now) c.loop-other.other-index c.other-item.result refl (omega arith) c.other-item.is) (search rules) c.loop-other.invariant

pub returns-in_default : goal.returns-in_default
returns-in_default c = nothing_only c.args.records.now (search rules)
