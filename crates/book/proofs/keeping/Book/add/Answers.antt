use Rattle.std.proofs.Common.{subst}
use Rattle.command.specs.declared.instruction.Instruction.{Instruction}
use Rattle.book.specs.Answered.{IsAnswered}
use Rattle.book.proofs.Parts.{was_not_asked, was_shut}
use Rattle.book.proofs.keeping.Book.add.Goals as goal

pub returns-then-self : goal.returns-then-self
returns-then-self g c = rw (← c.self.view_is) (was_shut g.S.Store _ _ c.self.invariant.0 c.if-self.true)

pub returns-in_default : goal.returns-in_default
returns-in_default g c = rw (← c.self.view_is) (was_not_asked g.S.Store _ _ c.self.invariant.0 c.if-self.false)

pub returns : goal.returns
returns g c =
    subst (λ (instruction : Instruction). IsAnswered g.S.Store c.args.self.now c.ask-answer.new.self (c.args.key, instruction) c.ask-answer.result) c.in-Ok.ensures c.ask-answer.ensures
