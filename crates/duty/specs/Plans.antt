-- Pairings, ground duties, outside periods and actual times as values.
use Rattle.std.specs.Prelude.{ℕ, List, map}
use Rattle.std.specs.List.{zip}
use Rattle.duty.specs.declared.fdp.Fdp.{Fdp}
use Rattle.duty.specs.declared.segment.Segment.{Segment}
use Rattle.duty.specs.declared.segment.BlockTimes.{BlockTimes}

-- a pairing: its id, and its periods in turn
pub record Plan : Type 0 where
  pub id : List ℕ
  pub periods : List Fdp

-- a ground duty: its id, its crew member, its begin and end, and its task
pub record GroundPlan : Type 0 where
  pub id : List ℕ
  pub crew : List ℕ
  pub begin : ℕ
  pub end : ℕ
  pub task : List ℕ

-- a flight duty period that is flown for another certificate holder: its id, report and release,
-- and the times of its segments
pub record OutsidePlan : Type 0 where
  pub id : List ℕ
  pub report : ℕ
  pub release : ℕ
  pub segments : List BlockTimes

-- the actual times of a flight duty period, by its number in its pairing
pub record ActualTimes : Type 0 where
  pub period : ℕ
  pub report : ℕ
  pub release : ℕ
  pub segments : List BlockTimes

-- a period as a plan has it: its report is the planned one
abbrev pub as_planned : Fdp → Fdp
as_planned f = record f { planned_report = f.report }

-- the plan of a pairing with this id and these periods
abbrev pub plan : List ℕ → List Fdp → Plan
plan id periods = record { id = id; periods = map as_planned periods }

-- a segment with the times when it was flown
abbrev pub retimed : Segment × BlockTimes → Segment
retimed (segment, times) = record segment { block_out = times.block_out; block_in = times.block_in }

-- a period with the times when it was flown; its planned report stays
abbrev pub flown_at : Fdp → ActualTimes → Fdp
flown_at f actual = record f {
  report = actual.report;
  release = actual.release;
  segments = map retimed (zip f.segments actual.segments);
}
