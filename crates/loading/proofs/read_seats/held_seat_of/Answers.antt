use Rattle.std.proofs.Common.{rules}
use Rattle.loading.proofs.ReadSeats.{tells}
use Rattle.loading.proofs.read_seats.held_seat_of.Goals as goal

pub returns : goal.returns
returns c = tells c.args.roster.now.crew c.args.roster.now.pairings c.args.row.now c.new-pairing.result c.new-crew.result c.in-Some.seat (search rules) (search rules) (search rules) (search rules) (c.takes.ensures.0 (search rules))
