use Rattle.std.proofs.Common.{◌≡◌, ◌∷◌, [], pos, map, rules, Err, IsTrue, Vec, Global}
use Rattle.sqlite_value.specs.declared.value.Value.TheVariants.{Int}
use Rattle.sqlite.specs.Held.{state}
use Rattle.sqlite.specs.State.{HasCleanDisk}
use Rattle.tables.specs.Calls.{Read}
use Rattle.tables.specs.Records.{IsRequestRow, request_row}
use Rattle.tables.specs.Rows.{begins_with}
use Rattle.tables.specs.declared.request.RequestRecord.{RequestRecord}
use Rattle.state_rows.specs.Rows.{request, table}
use Rattle.lookup.proofs.ReadLemmas.{not_read}
use Rattle.lookup.proofs.under_number.number_rows.Goals as goal

pub returns-in-Err : goal.returns-in-Err
returns-in-Err g c =
    let old = state g.S.Store c.args.conn.now in
    let new = state g.S.Store c.requests_by_number.new.conn in
    let settled : HasCleanDisk old → IsTrue old.is_open → old.now ≡ old.committed = search rules in
    let read : Read (table request) (begins_with (Int (pos c.args.number) ∷ [])) IsRequestRow (λ (found : Vec RequestRecord Global). map request_row found.items) old new (Err c.in-Err.fault) = search rules in
    not_read request _ _ old new c.requests_by_number.ensures.crash c.requires.outside settled c.in-Err.fault c.from.result read c.from.ensures
