use Rattle.std.specs.Option.{option_copied}
use Rattle.limits_report.proofs.LeftOut.{all_left}
use Rattle.limits_report.proofs.named_duties.duties_of.Goals as goal

pub returns : goal.returns
returns c =
    all_left (option_copied c.args.out) c.args.roster.now c.args.who.now c.new-list.result.items c.add_held.new.list.items
    c.add_grounds.new.list.items c.add_outsides.new.list.items
    c.new-list.ensures.items c.in_ok-add_held.ensures c.in_ok-add_grounds.ensures c.in_ok-add_outsides.ensures
