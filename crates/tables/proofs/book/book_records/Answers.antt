use Rattle.std.proofs.Common.{map, refl}
use Rattle.sqlite.specs.Held.{state}
use Rattle.tables.specs.Records.{book_row, IsBookRow}
use Rattle.tables.proofs.Selecting.{open_read_by}
use Rattle.tables.proofs.BookTexts.{book_records, book_records_bare}
use Rattle.tables.proofs.book.book_records.Goals as goal

pub read_all-requires : goal.read_all-requires
read_all-requires g c clean = book_records_bare (state g.S.Store c.args.conn.now).now.schema

pub returns-clause-read : goal.returns-clause-read
returns-clause-read g c =
    let given = c.read_all.ensures in
    open_read_by _ _ (book_records_bare (state g.S.Store c.args.conn.now).now.schema) c.requires (book_records (state g.S.Store c.args.conn.now)) given.crash refl IsBookRow (λ all. map book_row all.items) c.read_all.result given.shown given.same given.stops given.damaged
