use Rattle.sqlite.specs.Held.{state}
use Rattle.tables.specs.Records.{pairing_row, IsPairingRow}
use Rattle.tables.proofs.LoadingLemmas.{loaded_by}
use Rattle.tables.proofs.PairingTexts.{load_pairings}
use Rattle.tables.proofs.pairing.load_pairings.Goals as goal

pub load-requires : goal.load-requires
load-requires g c clean = (load_pairings (state g.S.Store c.args.conn.now) (c.requires clean)).plain

pub returns-clause-loaded : goal.returns-clause-loaded
returns-clause-loaded g c =
    let given = c.load.ensures in
    loaded_by _ _ c.requires (load_pairings (state g.S.Store c.args.conn.now)) given.crash pairing_row IsPairingRow (λ all. all.items) c.load.result given.found given.same given.stops given.damaged
