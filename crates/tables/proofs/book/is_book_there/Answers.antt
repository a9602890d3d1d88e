use Rattle.tables.specs.Schema.{book_table}
use Rattle.tables.proofs.BookTexts.{create_book_declares}
use Rattle.tables.proofs.book.is_book_there.Goals as goal

pub returns-clause-there : goal.returns-clause-there
returns-clause-there g c = c.is_there.ensures.there book_table create_book_declares

pub returns-clause-fault : goal.returns-clause-fault
returns-clause-fault g c = c.is_there.ensures.fault book_table create_book_declares
