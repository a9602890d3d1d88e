use Rattle.std.proofs.Common.{[], ◌∷◌}
use Rattle.sqlite.specs.Held.{state}
use Rattle.state_rows.specs.declared.fault.StoreFault.{StoreFault}
use Rattle.tables.specs.Schema.{base_table, crew_base_table, outside_table, outside_segment_table}
use Rattle.writing.proofs.Chaining.{still_inside}
use Rattle.writing.proofs.Growth.{grown_thrice, made_by, made_next}
use Rattle.writing.proofs.making.make_later.Goals as goal

pub returns : goal.returns
returns g c =
    let G = g.S.Store in
    let old = state G c.args.conn.now in
    let three = state G c.create_outside.new.conn in
    let new = state G c.create_outside_segment.new.conn in
    let first = grown_thrice {E = StoreFault} base_table crew_base_table outside_table old (state G c.create_base.new.conn) (state G c.create_crew_base.new.conn) three tt tt tt c.requires
    c.in_ok-create_base.ensures.ran c.in_ok-create_base.ensures.crash c.in_ok-create_crew_base.ensures.ran c.in_ok-create_crew_base.ensures.crash
    c.in_ok-create_outside.ensures.ran c.in_ok-create_outside.ensures.crash in
    let last = made_by {E = StoreFault} outside_segment_table three new tt (still_inside old three tt first) c.in_ok-create_outside_segment.ensures.ran c.in_ok-create_outside_segment.ensures.crash in
    made_next (base_table ∷ crew_base_table ∷ outside_table ∷ []) (outside_segment_table ∷ []) old three new tt tt first last
