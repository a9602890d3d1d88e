use Rattle.sqlite.specs.Held.{state}
use Rattle.tables.specs.Records.{segment_row, IsSegmentRow}
use Rattle.tables.proofs.LoadingLemmas.{loaded_by}
use Rattle.tables.proofs.SegmentTexts.{load_segments}
use Rattle.tables.proofs.segment.load_segments.Goals as goal

pub load-requires : goal.load-requires
load-requires g c clean = (load_segments (state g.S.Store c.args.conn.now) (c.requires clean)).plain

pub returns-clause-loaded : goal.returns-clause-loaded
returns-clause-loaded g c =
    let given = c.load.ensures in
    loaded_by _ _ c.requires (load_segments (state g.S.Store c.args.conn.now)) given.crash segment_row IsSegmentRow (λ all. all.items) c.load.result given.found given.same given.stops given.damaged
