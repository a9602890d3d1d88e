use Rattle.std.proofs.Common.{ap, ◌∙◌}
use Rattle.sqlite.specs.Held.{state}
use Rattle.sqlite_schema.specs.declared.schema.Schema.{Schema}
use Rattle.tables.specs.Declarations.{is_not_parent}
use Rattle.tables.proofs.Declaring.{none_refers}
use Rattle.tables.proofs.book_schema.is_unreferenced.Goals as goal

pub returns : goal.returns
returns g c =
    let tables = c.as_slice.ensures ∙ ap (λ (s : Schema). s.tables) c.schema.ensures.value in
    none_refers (state g.S.Store c.args.conn.now).now.schema c.args.name.now c.is_not_parent.result
    (c.is_not_parent.ensures ∙ ap (λ ts. is_not_parent ts c.as_bytes.result.now) tables ∙ ap (is_not_parent (state g.S.Store c.args.conn.now).now.schema.tables) c.as_bytes.ensures.value)
