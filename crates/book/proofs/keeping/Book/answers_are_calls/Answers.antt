use Rattle.book.proofs.CallLemmas.{answers_are_calls}
use Rattle.book.proofs.keeping.Book.answers_are_calls.Goals as goal

pub returns : goal.returns
returns g c = answers_are_calls g.S.Store
