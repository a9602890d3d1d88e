use Rattle.sqlite.specs.Held.{state}
use Rattle.tables.specs.Records.{request_row}
use Rattle.state_rows.specs.Rows.{request}
use Rattle.writing.proofs.Chaining.{wrote_ok}
use Rattle.writing.proofs.Tables.{inserts_keep}
use Rattle.writing.proofs.writing.write_request.Goals as goal

pub returns : goal.returns
returns g c =
    wrote_ok (state g.S.Store c.args.conn.now) (state g.S.Store c.insert_request.new.conn) tt (inserts_keep request (request_row c.args.row.now)) c.requires
    c.in_ok-insert_request.ensures.ran c.in_ok-insert_request.ensures.crash
