use Rattle.sqlite.specs.Held.{state}
use Rattle.tables.proofs.Known.{names_one}
use Rattle.tables.proofs.book_schema.has_table.Goals as goal

pub returns : goal.returns
returns g c =
    let named = rw (c.schema.ensures.value, c.as_bytes.ensures.value) at c.table_named.ensures in
    names_one (state g.S.Store c.args.conn.now).now.schema c.args.name.now c.is_some.result c.table_named.result named c.is_some.ensures
