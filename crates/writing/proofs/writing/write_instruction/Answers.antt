use Rattle.std.proofs.Common.{sym, subst}
use Rattle.sqlite.specs.Held.{state}
use Rattle.command.specs.declared.instruction.Instruction.{Instruction}
use Rattle.writing.specs.Calls.{Wrote}
use Rattle.writing.specs.Writing.{WritesInstruction}
use Rattle.writing.proofs.writing.write_instruction.Goals as goal

pub returns-in-RecordOutside : goal.returns-in-RecordOutside
returns-in-RecordOutside g c =
    let G = g.S.Store in
    subst (λ (instruction : Instruction). Wrote (WritesInstruction c.args.change.now instruction) (state G c.args.conn.now) (state G c.record_outside.new.conn) c.record_outside.result)
    (sym c.in-RecordOutside.is) c.record_outside.ensures
