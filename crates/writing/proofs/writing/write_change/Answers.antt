use Rattle.sqlite.specs.Held.{state}
use Rattle.writing.proofs.Chaining.{then_write, wrote_fit}
use Rattle.writing.proofs.writing.write_change.Goals as goal

pub returns : goal.returns
returns g c =
    let G = g.S.Store in
    then_write (state G c.args.conn.now) (state G c.write_instruction.new.conn) (state G c.write_request.new.conn) tt c.write_request.result
    (wrote_fit (state G c.args.conn.now) (state G c.write_instruction.new.conn) tt (rw c.instruction.ensures.instruction at c.in_ok-write_instruction.ensures))
    (rw c.requires.written at c.write_request.ensures)
