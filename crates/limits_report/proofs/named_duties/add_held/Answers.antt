use Rattle.std.specs.Option.{option_copied}
use Rattle.roster.specs.State.{zone_of}
use Rattle.limits_report.proofs.LeftOut.{row_kept, row_left, row_free}
use Rattle.limits_report.proofs.named_duties.add_held.Goals as goal
use Rattle.limits_report.proofs.named_duties.add_held.Goals.{else-holds-via-then-holds+else-not-is_left_out, else-holds-via-else-holds}

pub loop-id-preserved-then-not-is_left_out : goal.loop-id-preserved-then-not-is_left_out
loop-id-preserved-then-not-is_left_out c =
    row_kept (option_copied c.args.out) c.args.who.now (zone_of c.args.roster.now c.args.who.now) c.zone_of.result.now
    c.in-Some.id.now c.in-Some.entry.now c.loop-id.id-iterator c.next.new.self c.loop-id.list.items c.add_pairing.new.list.items _
    c.in-Some.ensures.steps c.if-holds.ensures c.if-not-is_left_out.ensures c.zone_of.ensures c.in_ok-add_pairing.ensures c.loop-id.invariant

pub loop-id-preserved : goal.loop-id-preserved
loop-id-preserved c = elim c.else-holds.branch [
  | else-holds-via-then-holds+else-not-is_left_out w ↦ row_left (option_copied c.args.out) c.args.who.now (zone_of c.args.roster.now c.args.who.now)
      c.in-Some.id.now c.in-Some.entry.now c.loop-id.id-iterator c.next.new.self c.loop-id.list.items _
      c.in-Some.ensures.steps w.if-holds.ensures w.if-not-is_left_out.ensures c.loop-id.invariant
  | else-holds-via-else-holds w ↦ row_free (option_copied c.args.out) c.args.who.now (zone_of c.args.roster.now c.args.who.now)
      c.in-Some.id.now c.in-Some.entry.now c.loop-id.id-iterator c.next.new.self c.loop-id.list.items _
      c.in-Some.ensures.steps w.if-holds.ensures c.loop-id.invariant
]
