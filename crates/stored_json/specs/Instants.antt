-- The instants of a command are minutes of the years 2000 to 2099. The types of the command's parts
-- ensure this.
use Rattle.std.specs.Prelude.{ℕ, Bool, true, ◌&&◌, nat_lt}
use Rattle.std.specs.List.{list_all}
use Rattle.duty.specs.declared.fdp.Fdp.{Fdp}
use Rattle.duty.specs.declared.segment.BlockTimes.{BlockTimes}
use Rattle.duty.specs.declared.segment.Segment.{Segment}
use Rattle.command.specs.declared.instruction.Instruction.{Instruction}
use Rattle.command.specs.declared.instruction.Instruction.TheVariants.{AddPairing, AddGround}
use Rattle.command.specs.declared.instruction.Instruction.TheVariants.{Actual, RecordOutside}

-- whether a number is that of a minute of the years 2000 to 2099
abbrev pub is_instant : ℕ → Bool
is_instant minute = nat_lt minute 52_596_000

-- whether both times of a segment as it was flown are minutes of the years 2000 to 2099
abbrev pub times_have_instants : BlockTimes → Bool
times_have_instants t = is_instant t.block_out && is_instant t.block_in

-- whether both times of a segment as it is planned are minutes of the years 2000 to 2099
abbrev pub segment_has_instants : Segment → Bool
segment_has_instants s = is_instant s.block_out && is_instant s.block_in

-- whether the times of a period and of its segments are minutes of the years 2000 to 2099
abbrev pub period_has_instants : Fdp → Bool
period_has_instants f =
    is_instant f.report && is_instant f.release && list_all segment_has_instants f.segments

-- whether all times of an instruction are minutes of the years 2000 to 2099
abbrev pub instruction_has_instants : Instruction → Bool
instruction_has_instants (AddPairing p) = list_all period_has_instants p.periods
instruction_has_instants (AddGround g) = is_instant g.begin && is_instant g.end
instruction_has_instants (Actual id a) =
    is_instant a.report && is_instant a.release && list_all times_have_instants a.segments
instruction_has_instants (RecordOutside who o) =
    is_instant o.report && is_instant o.release && list_all times_have_instants o.segments
instruction_has_instants instruction = true
