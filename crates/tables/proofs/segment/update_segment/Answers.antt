use Rattle.std.proofs.Common.{◌∷◌, ap, ap₂, refl}
use Rattle.sqlite.specs.Values.{bound_value}
use Rattle.sqlite.specs.Held.{state}
use Rattle.tables.proofs.Statements.{written_by_both}
use Rattle.tables.proofs.SegmentTexts.{update_segment, update_segment_stops}
use Rattle.tables.proofs.segment.update_segment.Goals as goal

pub returns : goal.returns
returns g c =
    let given = c.run.ensures in
    let old = state g.S.Store c.args.conn.now in
    let done = written_by_both old _ (ap₂ ◌∷◌ (ap bound_value c.params-to_sql.ensures) (ap₂ ◌∷◌ (ap bound_value c.params-to_sql-2.ensures) (ap₂ ◌∷◌ (ap bound_value c.params-to_sql-3.ensures) (ap₂ ◌∷◌ (ap bound_value c.params-to_sql-4.ensures) (ap₂ ◌∷◌ (ap bound_value c.params-to_sql-5.ensures) refl))))) c.requires.there c.requires.free (update_segment c.args.pairing.now c.args.period c.args.number c.args.block_out c.args.block_in old) (update_segment_stops c.args.pairing.now c.args.period c.args.number c.args.block_out c.args.block_in old) given.survives c.run.result given.runs in
    record { ran = done.ran; fault = done.fault; crash = done.crash }
