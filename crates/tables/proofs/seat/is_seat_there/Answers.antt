use Rattle.tables.specs.Schema.{seat_table}
use Rattle.tables.proofs.SeatTexts.{create_seat_declares}
use Rattle.tables.proofs.seat.is_seat_there.Goals as goal

pub returns-clause-there : goal.returns-clause-there
returns-clause-there g c = c.is_there.ensures.there seat_table create_seat_declares

pub returns-clause-fault : goal.returns-clause-fault
returns-clause-fault g c = c.is_there.ensures.fault seat_table create_seat_declares
