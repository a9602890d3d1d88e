use Rattle.std.proofs.Common.{ap, ◌∙◌}
use Rattle.sqlite.specs.Held.{state}
use Rattle.sqlite_schema.specs.declared.schema.Schema.{Schema}
use Rattle.tables.specs.Declarations.{only_keys_guard}
use Rattle.tables.proofs.Declaring.{keys_guard, none_guards}
use Rattle.tables.proofs.book_schema.is_guarded_by_keys.Goals as goal

pub returns-in-Some : goal.returns-in-Some
returns-in-Some g c =
    let found = rw (c.as_bytes.ensures.value, c.in-Some.is) at c.table_named.ensures in
    let indexes = c.as_slice.ensures ∙ ap (λ (s : Schema). s.indexes) c.schema.ensures.value in
    keys_guard (state g.S.Store c.args.conn.now).now.schema c.args.name.now c.in-Some.table.now c.only_keys_guard.result found
    (c.only_keys_guard.ensures ∙ ap (only_keys_guard c.in-Some.table.now) indexes)

pub returns-in-None : goal.returns-in-None
returns-in-None g c =
    let none = rw (c.as_bytes.ensures.value, c.in-None.is) at c.table_named.ensures in
    none_guards (state g.S.Store c.args.conn.now).now.schema c.args.name.now none
