use Rattle.book.proofs.Parts.{in_case, in_no_case, no_part, the_part}
use Rattle.book.proofs.importing.Import.next.Goals as goal

pub returns-in_err-pairing-clause-part : goal.returns-in_err-pairing-clause-part
returns-in_err-pairing-clause-part g c =
    let lookup = rw (c.deref.ensures.value, c.from.ensures) at c.in_err-pairing.ensures.lookup in
    in_no_case _ _ _ (no_part _ c.self.invariant.1 _ c.self.view_is lookup.3) c.from_residual.ensures

pub returns-clause-part : goal.returns-clause-part
returns-clause-part g c =
    let lookup = rw (c.deref.ensures.value, c.from.ensures) at c.in_ok-pairing.ensures.lookup in
    let answered = rw c.new.ensures at c.add-answer.ensures in
    in_case _ _ _ _ (the_part _ c.self.invariant.1 _ c.self.view_is _ lookup.3.0 lookup.1) answered
