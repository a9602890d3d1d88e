use Rattle.sqlite.specs.Held.{state}
use Rattle.tables.specs.Records.{seat_row, IsSeatRow}
use Rattle.tables.proofs.LoadingLemmas.{loaded_by}
use Rattle.tables.proofs.SeatTexts.{load_seats}
use Rattle.tables.proofs.seat.load_seats.Goals as goal

pub load-requires : goal.load-requires
load-requires g c clean = (load_seats (state g.S.Store c.args.conn.now) (c.requires clean)).plain

pub returns-clause-loaded : goal.returns-clause-loaded
returns-clause-loaded g c =
    let given = c.load.ensures in
    loaded_by _ _ c.requires (load_seats (state g.S.Store c.args.conn.now)) given.crash seat_row IsSeatRow (λ all. all.items) c.load.result given.found given.same given.stops given.damaged
