use Rattle.book.proofs.LifeLemmas.{each_is_found_again}
use Rattle.book.proofs.keeping.Book.each_is_found_again.Goals as goal

pub returns : goal.returns
returns g c = each_is_found_again g.S.Store g.met.S.Store.settled g.met.S.Store.survives
