use Rattle.std.proofs.Common.{map, refl}
use Rattle.sqlite.specs.Held.{state}
use Rattle.tables.specs.Records.{crew_row, IsCrewRow}
use Rattle.tables.proofs.Selecting.{open_read_by}
use Rattle.tables.proofs.CrewTexts.{members, members_bare}
use Rattle.tables.proofs.crew.members.Goals as goal

pub read_all-requires : goal.read_all-requires
read_all-requires g c clean = members_bare (state g.S.Store c.args.conn.now).now.schema

pub returns-clause-read : goal.returns-clause-read
returns-clause-read g c =
    let given = c.read_all.ensures in
    open_read_by _ _ (members_bare (state g.S.Store c.args.conn.now).now.schema) c.requires (members (state g.S.Store c.args.conn.now)) given.crash refl IsCrewRow (λ all. map crew_row all.items) c.read_all.result given.shown given.same given.stops given.damaged
