-- What an accepted command writes, table by table. No public clause names the definitions of this
-- file.
use Rattle.std.specs.Prelude.{◌≡◌, ◌+◌, ℕ, pos, List, [], ◌∷◌, Option, Some, None}
use Rattle.sqlite_value.specs.declared.value.Value.TheVariants.{Int, Text}
use Rattle.sqlite.specs.Effect.{Database}
use Rattle.duty.specs.Plans.{Plan, ActualTimes, OutsidePlan}
use Rattle.duty.specs.declared.fdp.Fdp.{Fdp}
use Rattle.duty.specs.declared.segment.BlockTimes.{BlockTimes}
use Rattle.duty.specs.declared.segment.Segment.{Segment}
use Rattle.command.specs.Keys.{KeyParts}
use Rattle.command.specs.declared.exceedance.Exceedance.{Exceedance}
use Rattle.command.specs.declared.instruction.Instruction.{Instruction}
use Rattle.command.specs.declared.instruction.Instruction.TheVariants.{AddBase, AddCrew, AddPairing, CancelPairing, Assign, Release, Swap, AddGround, CancelGround, Actual, RecordOutside}
use Rattle.command.specs.declared.member.Member.{Member}
use Rattle.roster.specs.declared.change.Change.{Change}
use Rattle.roster.specs.declared.change.SeatChange.{SeatChange}
use Rattle.roster.specs.declared.state.DutyId.{DutyId}
use Rattle.roster.specs.declared.state.DutyId.TheVariants as duty_id
use Rattle.tables.specs.Records.{with_period_times, with_segment_times}
use Rattle.tables.specs.Rows.{Inserts, Deletes, Updates, begins_with}
use Rattle.writing.specs.Calls.{Then, Each, Fitting}
use Rattle.writing.specs.Migration.{AddsPost}
use Rattle.state_rows.specs.Rows.{table, base, crew, pairing, period, segment, seat, ground_duty, exceedance, request, outside, outside_segment, row_of_base, row_of_member, row_of_pairing, row_of_period, row_of_segment, row_of_seat, row_of_ground, row_of_exceedance, row_of_request, row_of_outside, row_of_outside_segment, seat_number}

-- ---- A pairing

-- a row is added for each period of a pairing, in turn
abbrev pub AddsPeriods : List ℕ → List Fdp → Database → Database → Type 0
AddsPeriods id = Each (λ place fdp. Inserts (table period) (row_of_period id place fdp None)) 0

-- a row is added for a segment at its place in its period
abbrev pub AddsSegmentOf : List ℕ → ℕ → ℕ → Segment → Database → Database → Type 0
AddsSegmentOf id place at s = Inserts (table segment) (row_of_segment id place at s None)

-- a row is added for each segment of a period, in turn
abbrev pub AddsSegmentsOf : List ℕ → ℕ → List Segment → Database → Database → Type 0
AddsSegmentsOf id place = Each (AddsSegmentOf id place) 0

-- a row is added for each segment of each period of a pairing, in turn
abbrev pub AddsSegments : List ℕ → List Fdp → Database → Database → Type 0
AddsSegments id = Each (λ place fdp. AddsSegmentsOf id place fdp.segments) 0

-- the row of a pairing is added, then the rows of its periods, then the rows of its segments
abbrev pub AddsPairing : Plan → Database → Database → Type 0
AddsPairing plan = Then (Inserts (table pairing) (row_of_pairing plan.id))
    (Then (AddsPeriods plan.id plan.periods) (AddsSegments plan.id plan.periods))

-- the rows of the segments of a pairing are removed, then the rows of its periods, then the row of
-- the pairing
abbrev pub RemovesPairing : List ℕ → Database → Database → Type 0
RemovesPairing id = Then (Deletes (table segment) (begins_with (Text id ∷ [])))
    (Then (Deletes (table period) (begins_with (Text id ∷ [])))
    (Deletes (table pairing) (begins_with (Text id ∷ []))))

-- ---- Seats

-- the row of a held seat is removed
abbrev pub FreesSeat : SeatChange → Database → Database → Type 0
FreesSeat change =
    Deletes (table seat)
    (begins_with (Text change.pairing ∷ Int (pos (seat_number change.seat)) ∷ []))

-- a row is added for a seat and the member who takes it
abbrev pub TakesSeat : SeatChange → List ℕ → Database → Database → Type 0
TakesSeat change who = Inserts (table seat) (row_of_seat change.pairing change.seat who)

-- a row is added for a seat and its new holder, if there is one
abbrev pub Seats : SeatChange → Option (List ℕ) → Database → Database → Type 0
Seats change None old new = new ≡ old
Seats change (Some who) old new = TakesSeat change who old new

-- a seat is freed, and its new holder takes it, if there is one
abbrev pub Reseats : SeatChange → Database → Database → Type 0
Reseats change = Then (FreesSeat change) (Seats change change.holder)

-- each seat of a list gets its new holder or is freed, in turn
abbrev pub ReseatsAll : List SeatChange → Database → Database → Type 0
ReseatsAll = Each (λ _ change. Reseats change) 0

-- ---- Exceedances

-- a row is added for an exceedance of a duty
abbrev pub Records : KeyParts → DutyId → Exceedance → Database → Database → Type 0
Records key named e = Inserts (table exceedance) (row_of_exceedance key e.crew e.section named)

-- a row is added for each exceedance of a list, in turn
abbrev pub RecordsAll : KeyParts → DutyId → List Exceedance → Database → Database → Type 0
RecordsAll key named = Each (λ _ e. Records key named e) 0

-- a row is added for each exceedance of a period of a pairing that a change records
abbrev pub RecordsFlown : Change → List ℕ → ℕ → Database → Database → Type 0
RecordsFlown change id number =
    RecordsAll change.key (duty_id.Period (record { pairing = id; number = number }))
    change.reply.exceedances

-- a row is added for each exceedance of an outside period that a change records
abbrev pub RecordsOutsideOf : Change → List ℕ → Database → Database → Type 0
RecordsOutsideOf change id = RecordsAll change.key (duty_id.Outside id) change.reply.exceedances

-- ---- Actual times

-- the times of a segment as it was flown are set in the row of the segment
abbrev pub FliesSegment : List ℕ → ℕ → ℕ → BlockTimes → Database → Database → Type 0
FliesSegment id number at t =
    Updates (table segment) (begins_with (Text id ∷ Int (pos number) ∷ Int (pos (at + 1)) ∷ []))
    (with_segment_times t.block_out t.block_in)

-- the times of the segments of a period as it was flown are set in the rows of the segments, in
-- turn
abbrev pub FliesSegments : List ℕ → ℕ → List BlockTimes → Database → Database → Type 0
FliesSegments id number = Each (FliesSegment id number) 0

-- the times of a period as it was flown are set in the row of the period
abbrev pub FliesPeriod : List ℕ → ActualTimes → Database → Database → Type 0
FliesPeriod id a =
    Updates (table period) (begins_with (Text id ∷ Int (pos a.period) ∷ []))
    (with_period_times a.report a.release)

-- the times of a period as it was flown are set, then the times of its segments, and then a row is
-- added for each exceedance of the period
abbrev pub Flies : Change → List ℕ → ActualTimes → Database → Database → Type 0
Flies change id a = Then (FliesPeriod id a)
    (Then (FliesSegments id a.period a.segments) (RecordsFlown change id a.period))

-- ---- An outside period

-- the rows of the segments of an outside period are removed, and then the row of the outside period
abbrev pub RemovesOutside : List ℕ → Database → Database → Type 0
RemovesOutside id = Then (Deletes (table outside_segment) (begins_with (Text id ∷ [])))
    (Deletes (table outside) (begins_with (Text id ∷ [])))

-- a row is added for an outside period, with the member who flew it
abbrev pub AddsOutsideRow : List ℕ → OutsidePlan → Database → Database → Type 0
AddsOutsideRow who o =
    Inserts (table outside) (row_of_outside o.id (record { crew = who; period = o }))

-- a row is added for a segment of an outside period, at its place
abbrev pub AddsOutsideSegment : List ℕ → ℕ → BlockTimes → Database → Database → Type 0
AddsOutsideSegment id at t = Inserts (table outside_segment) (row_of_outside_segment id at t)

-- a row is added for each segment of an outside period, in turn
abbrev pub AddsOutsideSegments : List ℕ → List BlockTimes → Database → Database → Type 0
AddsOutsideSegments id = Each (AddsOutsideSegment id) 0

-- the row of an outside period is added, and then the rows of its segments
abbrev pub AddsOutside : List ℕ → OutsidePlan → Database → Database → Type 0
AddsOutside who o = Then (AddsOutsideRow who o) (AddsOutsideSegments o.id o.segments)

-- the rows of the outside period with this id are removed, the rows of the new outside period are
-- added, and then a row is added for each of its exceedances
abbrev pub ReplacesOutside : Change → List ℕ → OutsidePlan → Database → Database → Type 0
ReplacesOutside change who o =
    Then (RemovesOutside o.id) (Then (AddsOutside who o) (RecordsOutsideOf change o.id))

-- ---- A member

-- the row of a member is added, and then the row of the member's base
abbrev pub AddsMember : List ℕ → Member → Database → Database → Type 0
AddsMember id m = Then (Inserts (table crew) (row_of_member id m)) (AddsPost id m.base)

-- ---- All commands

-- an instruction is written, but for the row of its request
abbrev pub WritesInstruction : Change → Instruction → Database → Database → Type 0
WritesInstruction change (AddBase id zone) = Inserts (table base) (row_of_base id zone)
WritesInstruction change (AddCrew id m) = AddsMember id m
WritesInstruction change (AddPairing plan) = AddsPairing plan
WritesInstruction change (CancelPairing id) = RemovesPairing id
WritesInstruction change (Assign id who) = ReseatsAll change.seats
WritesInstruction change (Release id who) = ReseatsAll change.seats
WritesInstruction change (Swap w) = ReseatsAll change.seats
WritesInstruction change (AddGround g) = Inserts (table ground_duty) (row_of_ground g.id g)
WritesInstruction change (CancelGround id) =
    Deletes (table ground_duty) (begins_with (Text id ∷ []))
WritesInstruction change (Actual id a) = Flies change id a
WritesInstruction change (RecordOutside who o) = ReplacesOutside change who o

-- a change is written: the effect of its command, and then the command with its reply under the key
-- of the change
abbrev pub Writes : Change → Database → Database → Type 0
Writes change = Then (Fitting (WritesInstruction change change.command))
    (Inserts (table request)
    (row_of_request change.key (record { command = change.command; reply = change.reply })))
