use Rattle.std.proofs.Common.{rules, refl}
use Rattle.loading.proofs.ReadSeats.{not_all_crewed}
use Rattle.loading.proofs.read_seats.seat_all.Goals as goal

pub returns-then-not-are_crewed : goal.returns-then-not-are_crewed
returns-then-not-are_crewed c = (refl, not_all_crewed c.args.records.now c.args.roster.now c.take_seats.new.roster c.in_ok-take_seats.ensures (search rules))
