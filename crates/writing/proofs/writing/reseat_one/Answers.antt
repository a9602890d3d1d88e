use Rattle.std.proofs.Common.{refl}
use Rattle.sqlite.specs.Held.{state}
use Rattle.writing.specs.Writing.{FreesSeat, Seats}
use Rattle.writing.proofs.Chaining.{then_nothing, then_write}
use Rattle.writing.proofs.writing.reseat_one.Goals as goal

pub returns-in-None : goal.returns-in-None
returns-in-None g c =
    let change = c.args.change.now in
    then_nothing {First = FreesSeat change} {Second = Seats change change.holder} (state g.S.Store c.args.conn.now) (state g.S.Store c.free_seat.new.conn) tt
    (λ db. rw c.in-None.is refl) c.in_ok-free_seat.ensures

pub returns-in-Some : goal.returns-in-Some
returns-in-Some g c =
    let change = c.args.change.now in
    let new = state g.S.Store c.take_seat.new.conn in
    then_write {First = FreesSeat change} {Second = Seats change change.holder} (state g.S.Store c.args.conn.now) (state g.S.Store c.free_seat.new.conn) new tt c.take_seat.result
    c.in_ok-free_seat.ensures (rw c.in-Some.is c.take_seat.ensures)
