-- What is read of one pairing, from the records of its periods and segments.
use Rattle.std.specs.Prelude.{◌⊎◌, ⊤, ℕ, List, length}
use Rattle.std.specs.FinMap as fin
use Rattle.roster.specs.declared.state.PairingEntry.{PairingEntry}
use Rattle.tables.specs.declared.period.PeriodRecord.{PeriodRecord}
use Rattle.tables.specs.declared.segment.SegmentRecord.{SegmentRecord}
use Rattle.entries.specs.Keyed.{ArePeriodsWanting, ArePeriodsWhole, PeriodsRead}
use Rattle.entries.specs.Keyed.{AreSegmentsWanting, AreSegmentsWhole, Ids, SegmentsRead}
use Rattle.entries.specs.PlanRows.{Periods, Segments, IsPairingOfRows}
use Rattle.entries.specs.declared.fault.LoadFault.{LoadFault}
use Rattle.entries.specs.declared.fault.LoadFault.TheVariants.{Fault}

-- the records of periods and segments, each by its key, give this pairing under an id
pub record IsToldBy
    (id : List ℕ) (periods : List PeriodRecord) (segments : List SegmentRecord) (r : PairingEntry)
    : Type 0 where
  pub ids : Ids
  pub by_number : Periods
  pub by_numbers : Segments
  pub periods_read : PeriodsRead ids periods (length periods) by_number
  pub segments_read : SegmentsRead by_number segments (length segments) by_numbers
  pub told : IsPairingOfRows by_number by_numbers id r

-- the map has this id alone
abbrev pub only : List ℕ → Ids
only id = fin.insert fin.empty id tt

-- Records give no pairing under an id. Some period has no key of the id, or the periods leave a
-- gap; some segment has no key of one of the periods, or the segments leave a gap; or no pairing
-- has the records.
abbrev pub GiveNoPairing : List ℕ → List PeriodRecord → List SegmentRecord → Type 0
GiveNoPairing id periods segments =
    ArePeriodsWanting (only id) periods (length periods)
    ⊎ ((m : Periods) × ArePeriodsWhole (only id) periods (length periods) m
    × (AreSegmentsWanting m segments (length segments)
    ⊎ ((n : Segments) × AreSegmentsWhole m segments (length segments) n
    × ((r : PairingEntry) → IsPairingOfRows m n id r → ⊥))))

-- a refusal of the records of one pairing says that they give no pairing; a fault (90, 91) says
-- nothing of the records
abbrev pub RefusesPairing : List ℕ → List PeriodRecord → List SegmentRecord → LoadFault → Type 0
RefusesPairing id periods segments (Fault fault) = ⊤
RefusesPairing id periods segments _ = GiveNoPairing id periods segments
