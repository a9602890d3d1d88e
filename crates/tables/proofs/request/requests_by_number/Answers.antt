use Rattle.std.proofs.Common.{◌∷◌, ◌∙◌, map, ap, ap₂, refl}
use Rattle.sqlite_value.specs.declared.value.Value.TheVariants.{Int}
use Rattle.sqlite.specs.Values.{bound_value}
use Rattle.std.specs.Int.{w64}
use Rattle.std.proofs.lemmas.Int.{to_z-of_z}
use Rattle.sqlite.specs.Held.{state}
use Rattle.tables.specs.Records.{request_row, IsRequestRow}
use Rattle.tables.proofs.Selecting.{open_read_by}
use Rattle.tables.proofs.RequestTexts.{requests_by_number, requests_by_number_bare}
use Rattle.tables.proofs.request.requests_by_number.Goals as goal

pub read_all-requires : goal.read_all-requires
read_all-requires g c clean = requests_by_number_bare (state g.S.Store c.args.conn.now).now.schema

pub returns-clause-read : goal.returns-clause-read
returns-clause-read g c =
    let given = c.read_all.ensures in
    open_read_by _ _ (requests_by_number_bare (state g.S.Store c.args.conn.now).now.schema) c.requires (requests_by_number c.args.number (state g.S.Store c.args.conn.now)) given.crash (ap₂ ◌∷◌ (ap bound_value c.params-to_sql.ensures ∙ ap Int (to_z-of_z w64 c.args.number c.ranges.number)) refl) IsRequestRow (λ all. map request_row all.items) c.read_all.result given.shown given.same given.stops given.damaged
