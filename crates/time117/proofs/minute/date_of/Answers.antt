use Rattle.jiff.proofs.SpanFacts.{date_add-days, can_add-days}
use Rattle.std.proofs.Common.{◌≡◌, arith, ap, pos, to_z, w64, ◌∙◌, ◌+ℤ◌}
use Rattle.std.proofs.lemmas.Int.{to_z_pos}
use Rattle.jiff_core.specs.Date.{epoch_day}
use Rattle.time117.proofs.DateFacts.{date_of_is, day_in_reach}
use Rattle.time117.proofs.minute.date_of.Goals as goal

pub unwrap-requires : goal.unwrap-requires
unwrap-requires c =
    let signed : to_z w64 c.args.day ≡ pos c.args.day = to_z_pos w64 c.args.day (omega arith) in
    let can = can_add-days c.date.result (to_z w64 c.args.day) c.days.result c.days.ensures in
    c.checked_add.ensures.succeeds.1 (can.1 (rw signed (day_in_reach c.date.result c.args.day c.date.ensures c.requires)))

pub returns : goal.returns
returns c =
    let signed : to_z w64 c.args.day ≡ pos c.args.day = to_z_pos w64 c.args.day (omega arith) in
    let later = date_add-days c.date.result (to_z w64 c.args.day) c.days.result c.days.ensures in
    let moved = rw c.unwrap.ensures at c.checked_add.ensures.value in
    date_of_is c.date.result c.unwrap.result c.args.day c.date.ensures c.requires (moved ∙ later ∙ ap (λ z. epoch_day c.date.result +ℤ z) signed)
