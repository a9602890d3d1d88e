use Rattle.book.proofs.ListLemmas.{each_list_holds}
use Rattle.book.proofs.laws.each_list_holds.Goals as goal

pub returns : goal.returns
returns c = each_list_holds
