use Rattle.std.proofs.Common.{[], ◌∷◌, ◌+◌, pos}
use Rattle.sqlite_value.specs.declared.value.Value.TheVariants.{Int, Text}
use Rattle.sqlite.specs.Held.{state}
use Rattle.tables.specs.Records.{with_segment_times}
use Rattle.tables.specs.Rows.{begins_with}
use Rattle.state_rows.specs.Rows.{segment}
use Rattle.writing.proofs.Chaining.{wrote_ok}
use Rattle.writing.proofs.Tables.{updates_keep}
use Rattle.writing.proofs.writing.fly_segment.Goals as goal

pub returns : goal.returns
returns g c =
    let given = rw (c.as_str.ensures, c.from.ensures, c.number-block_out.ensures.value, c.number-block_in.ensures.value) at c.in_ok-update_segment.ensures in
    wrote_ok (state g.S.Store c.args.conn.now) (state g.S.Store c.update_segment.new.conn) tt (updates_keep segment (begins_with (Text c.args.id.now ∷ Int (pos c.args.number) ∷ Int (pos (c.args.at + 1)) ∷ [])) (with_segment_times c.args.times.now.block_out c.args.times.now.block_in)) c.requires.ready given.ran given.crash
