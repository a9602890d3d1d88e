use Rattle.sqlite.specs.Held.{state}
use Rattle.tables.specs.Records.{book_row, IsBookRow}
use Rattle.tables.proofs.LoadingLemmas.{loaded_by}
use Rattle.tables.proofs.BookTexts.{load_book}
use Rattle.tables.proofs.book.load_book.Goals as goal

pub load-requires : goal.load-requires
load-requires g c clean = (load_book (state g.S.Store c.args.conn.now) (c.requires clean)).plain

pub returns-clause-loaded : goal.returns-clause-loaded
returns-clause-loaded g c =
    let given = c.load.ensures in
    loaded_by _ _ c.requires (load_book (state g.S.Store c.args.conn.now)) given.crash book_row IsBookRow (λ all. all.items) c.load.result given.found given.same given.stops given.damaged
