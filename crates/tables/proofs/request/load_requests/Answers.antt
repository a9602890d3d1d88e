use Rattle.sqlite.specs.Held.{state}
use Rattle.tables.specs.Records.{request_row, IsRequestRow}
use Rattle.tables.proofs.LoadingLemmas.{loaded_by}
use Rattle.tables.proofs.RequestTexts.{load_requests}
use Rattle.tables.proofs.request.load_requests.Goals as goal

pub load-requires : goal.load-requires
load-requires g c clean = (load_requests (state g.S.Store c.args.conn.now) (c.requires clean)).plain

pub returns-clause-loaded : goal.returns-clause-loaded
returns-clause-loaded g c =
    let given = c.load.ensures in
    loaded_by _ _ c.requires (load_requests (state g.S.Store c.args.conn.now)) given.crash request_row IsRequestRow (λ all. all.items) c.load.result given.found given.same given.stops given.damaged
