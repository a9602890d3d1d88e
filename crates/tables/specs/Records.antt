-- The row that a record stands for, and which rows are some record's. A text is UTF-8, and a number
-- has 32 bits.
use Rattle.std.specs.Prelude.{◌≡◌, ◌<◌, ◌^◌, ⊤, pos, ℕ, ℤ, IsUtf8, [], ◌∷◌, Option, None, Some}
use Rattle.sqlite_value.specs.declared.value.Value.{Value}
use Rattle.sqlite_value.specs.declared.value.Value.TheVariants.{Int, Text}
use Rattle.sqlite_value.specs.Order.{Row, column}
use Rattle.sqlite_rules.specs.Cast.{cast_all}
use Rattle.sqlite.specs.Values.{or_null}
use Rattle.tables.specs.Schema.{book_table, period_table, segment_table}
use Rattle.tables.specs.declared.book.BookRecord.{BookRecord}
use Rattle.tables.specs.declared.crew.CrewRecord.{CrewRecord}
use Rattle.tables.specs.declared.pairing.PairingRecord.{PairingRecord}
use Rattle.tables.specs.declared.period.PeriodRecord.{PeriodRecord}
use Rattle.tables.specs.declared.segment.SegmentRecord.{SegmentRecord}
use Rattle.tables.specs.declared.seat.SeatRecord.{SeatRecord}
use Rattle.tables.specs.declared.ground.GroundRecord.{GroundRecord}
use Rattle.tables.specs.declared.exceedance.ExceedanceRecord.{ExceedanceRecord}
use Rattle.tables.specs.declared.request.RequestRecord.{RequestRecord}
use Rattle.tables.specs.declared.base.BaseRecord.{BaseRecord}
use Rattle.tables.specs.declared.crew_base.CrewBaseRecord.{CrewBaseRecord}
use Rattle.tables.specs.declared.outside.OutsideRecord.{OutsideRecord}
use Rattle.tables.specs.declared.outside_segment.OutsideSegmentRecord.{OutsideSegmentRecord}

-- the number has 32 bits: it is below 2^32
abbrev pub IsNumber : ℕ → Type 0
IsNumber n = n < 2 ^ 32

-- the number is missing, or it has 32 bits
abbrev pub IsNumberIfAny : Option ℕ → Type 0
IsNumberIfAny None = ⊤
IsNumberIfAny (Some n) = IsNumber n

-- a number becomes an integer value, and a missing number becomes NULL
abbrev pub number_or_null : Option ℕ → Value
number_or_null = or_null (λ n. Int (pos n))

-- the book's record becomes this row of `book`
abbrev pub book_row : BookRecord → Row
book_row it = Int it.one ∷ Int it.version ∷ Text it.zone ∷ []

-- the row is that of a record of `book`, whose zone is UTF-8
abbrev pub IsBookRow : Row → Type 0
IsBookRow row = (it : BookRecord) × IsUtf8 it.zone × (row ≡ book_row it)

-- a member's record becomes this row of `crew`
abbrev pub crew_row : CrewRecord → Row
crew_row it = Text it.id ∷ Int (pos it.seat) ∷ Text it.name ∷ []

-- the row is that of a record of `crew`, whose texts are UTF-8 and whose seat has 32 bits
abbrev pub IsCrewRow : Row → Type 0
IsCrewRow row =
    (it : CrewRecord) × IsUtf8 it.id × IsNumber it.seat × IsUtf8 it.name × (row ≡ crew_row it)

-- a pairing's record becomes this row of `pairing`
abbrev pub pairing_row : PairingRecord → Row
pairing_row it = Text it.id ∷ []

-- the row is that of a record of `pairing`, whose id is UTF-8
abbrev pub IsPairingRow : Row → Type 0
IsPairingRow row = (it : PairingRecord) × IsUtf8 it.id × (row ≡ pairing_row it)

-- a period's record becomes this row of `period`
abbrev pub period_row : PeriodRecord → Row
period_row it =
    Text it.pairing ∷ Int (pos it.number) ∷ Int (pos it.report_at) ∷ Int (pos it.release_at)
    ∷ number_or_null it.act_report ∷ number_or_null it.act_release ∷ []

-- the row is that of a record of `period`, whose text is UTF-8 and whose numbers have 32 bits
abbrev pub IsPeriodRow : Row → Type 0
IsPeriodRow row =
    (it : PeriodRecord) × IsUtf8 it.pairing × IsNumber it.number × IsNumber it.report_at
    × IsNumber it.release_at × IsNumberIfAny it.act_report × IsNumberIfAny it.act_release
    × (row ≡ period_row it)

-- a segment's record becomes this row of `segment`
abbrev pub segment_row : SegmentRecord → Row
segment_row it =
    Text it.pairing ∷ Int (pos it.period) ∷ Int (pos it.number) ∷ Text it.flight ∷ Text it.origin
    ∷ Text it.destination ∷ Int (pos it.out_at) ∷ Int (pos it.in_at) ∷ number_or_null it.act_out
    ∷ number_or_null it.act_in ∷ []

-- the row is that of a record of `segment`, whose texts are UTF-8 and whose numbers have 32 bits
abbrev pub IsSegmentRow : Row → Type 0
IsSegmentRow row =
    (it : SegmentRecord) × IsUtf8 it.pairing × IsNumber it.period × IsNumber it.number
    × IsUtf8 it.flight × IsUtf8 it.origin × IsUtf8 it.destination × IsNumber it.out_at
    × IsNumber it.in_at × IsNumberIfAny it.act_out × IsNumberIfAny it.act_in
    × (row ≡ segment_row it)

-- a held seat's record becomes this row of `seat`
abbrev pub seat_row : SeatRecord → Row
seat_row it = Text it.pairing ∷ Int (pos it.seat) ∷ Text it.crew ∷ []

-- the row is that of a record of `seat`, whose texts are UTF-8 and whose seat has 32 bits
abbrev pub IsSeatRow : Row → Type 0
IsSeatRow row =
    (it : SeatRecord) × IsUtf8 it.pairing × IsNumber it.seat × IsUtf8 it.crew
    × (row ≡ seat_row it)

-- a ground duty's record becomes this row of `ground`
abbrev pub ground_row : GroundRecord → Row
ground_row it =
    Text it.id ∷ Text it.crew ∷ Text it.task ∷ Int (pos it.begin_at) ∷ Int (pos it.end_at) ∷ []

-- the row is that of a record of `ground`, whose texts are UTF-8 and whose numbers have 32 bits
abbrev pub IsGroundRow : Row → Type 0
IsGroundRow row =
    (it : GroundRecord) × IsUtf8 it.id × IsUtf8 it.crew × IsUtf8 it.task × IsNumber it.begin_at
    × IsNumber it.end_at × (row ≡ ground_row it)

-- an exceedance's record becomes this row of `exceedance`
abbrev pub exceedance_row : ExceedanceRecord → Row
exceedance_row it =
    Int it.number ∷ Int (pos it.part) ∷ Text it.crew ∷ Int (pos it.section) ∷ Text it.pairing
    ∷ Int (pos it.period) ∷ []

-- the row is that of a record of `exceedance`, whose texts are UTF-8, and whose part, section and
-- period have 32 bits
abbrev pub IsExceedanceRow : Row → Type 0
IsExceedanceRow row =
    (it : ExceedanceRecord) × IsNumber it.part × IsUtf8 it.crew × IsNumber it.section
    × IsUtf8 it.pairing × IsNumber it.period × (row ≡ exceedance_row it)

-- a request's record becomes this row of `request`
abbrev pub request_row : RequestRecord → Row
request_row it = Int it.number ∷ Int (pos it.part) ∷ Text it.command ∷ Text it.reply ∷ []

-- the row is that of a record of `request`, whose texts are UTF-8 and whose part has 32 bits
abbrev pub IsRequestRow : Row → Type 0
IsRequestRow row =
    (it : RequestRecord) × IsNumber it.part × IsUtf8 it.command × IsUtf8 it.reply
    × (row ≡ request_row it)

-- a base's record becomes this row of `base`
abbrev pub base_row : BaseRecord → Row
base_row it = Text it.id ∷ Text it.zone ∷ []

-- the row is that of a record of `base`, whose texts are UTF-8
abbrev pub IsBaseRow : Row → Type 0
IsBaseRow row = (it : BaseRecord) × IsUtf8 it.id × IsUtf8 it.zone × (row ≡ base_row it)

-- the record of a member's base becomes this row of `crew_base`
abbrev pub crew_base_row : CrewBaseRecord → Row
crew_base_row it = Text it.crew ∷ Text it.base ∷ []

-- the row is that of a record of `crew_base`, whose texts are UTF-8
abbrev pub IsCrewBaseRow : Row → Type 0
IsCrewBaseRow row =
    (it : CrewBaseRecord) × IsUtf8 it.crew × IsUtf8 it.base × (row ≡ crew_base_row it)

-- an outside period's record becomes this row of `outside`
abbrev pub outside_row : OutsideRecord → Row
outside_row it = Text it.id ∷ Text it.crew ∷ Int (pos it.report_at) ∷ Int (pos it.release_at) ∷ []

-- the row is that of a record of `outside`, whose texts are UTF-8 and whose numbers have 32 bits
abbrev pub IsOutsideRow : Row → Type 0
IsOutsideRow row =
    (it : OutsideRecord) × IsUtf8 it.id × IsUtf8 it.crew × IsNumber it.report_at
    × IsNumber it.release_at × (row ≡ outside_row it)

-- the record of an outside period's segment becomes this row of `outside_segment`
abbrev pub outside_segment_row : OutsideSegmentRecord → Row
outside_segment_row it =
    Text it.outside ∷ Int (pos it.number) ∷ Int (pos it.out_at) ∷ Int (pos it.in_at) ∷ []

-- the row is that of a record of `outside_segment`, whose text is UTF-8 and whose numbers have 32
-- bits
abbrev pub IsOutsideSegmentRow : Row → Type 0
IsOutsideSegmentRow row =
    (it : OutsideSegmentRecord) × IsUtf8 it.outside × IsNumber it.number × IsNumber it.out_at
    × IsNumber it.in_at × (row ≡ outside_segment_row it)

-- ---- What an UPDATE makes of a row: the other columns are written again as their columns keep
-- them, so the other columns of a record stay.

-- an UPDATE makes this row of a row of `book`, with this version
abbrev pub with_version : ℤ → Row → Row
with_version version row =
    cast_all book_table.columns (column row 0 ∷ Int version ∷ column row 2 ∷ [])

-- an UPDATE makes this row of a row of `period`, with these times as flown
abbrev pub with_period_times : ℕ → ℕ → Row → Row
with_period_times report release row =
    cast_all period_table.columns
    (column row 0 ∷ column row 1 ∷ column row 2 ∷ column row 3 ∷ Int (pos report)
    ∷ Int (pos release) ∷ [])

-- an UPDATE makes this row of a row of `segment`, with these times as flown
abbrev pub with_segment_times : ℕ → ℕ → Row → Row
with_segment_times block_out block_in row =
    cast_all segment_table.columns
    (column row 0 ∷ column row 1 ∷ column row 2 ∷ column row 3 ∷ column row 4 ∷ column row 5
    ∷ column row 6 ∷ column row 7 ∷ Int (pos block_out) ∷ Int (pos block_in) ∷ [])
