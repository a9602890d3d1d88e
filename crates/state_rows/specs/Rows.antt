-- What the tables of the book mean: the rows that a state has in each of them.
use Rattle.std.specs.Prelude.{◌≡◌, ◌↔◌, ◌+◌, ℕ, pos, Bool, true, false, List, slice_get, Option, Some}
use Rattle.std.specs.FinMap as fin
use Rattle.std.specs.Option.{option_map, option_and_then}
use Rattle.values.specs.Name.{name_cmp}
use Rattle.sqlite_value.specs.Order.{Row}
use Rattle.sqlite_rules.specs.Lists.{Has}
use Rattle.sqlite.specs.Effect.{Database}
use Rattle.duty.specs.Plans.{ActualTimes, GroundPlan, OutsidePlan}
use Rattle.duty.specs.declared.fdp.Fdp.{Fdp}
use Rattle.duty.specs.declared.segment.BlockTimes.{BlockTimes}
use Rattle.duty.specs.declared.segment.Segment.{Segment}
use Rattle.limits.specs.SectionText.{section_number}
use Rattle.limits.specs.declared.section.Section.{Section}
use Rattle.command.specs.Keys.{KeyParts, key_name}
use Rattle.command.specs.declared.member.Member.{Member}
use Rattle.command.specs.declared.member.Seat.{Seat}
use Rattle.command.specs.declared.member.Seat.TheVariants.{Captain, FirstOfficer}
use Rattle.roster.specs.Bases.{home_zone}
use Rattle.roster.specs.Pairings.{holder}
use Rattle.roster.specs.State.{State, exceedance_name}
use Rattle.roster.specs.declared.state.DutyId.{DutyId}
use Rattle.roster.specs.declared.state.DutyId.TheVariants.{Period, Outside}
use Rattle.roster.specs.declared.state.LoggedCommand.{LoggedCommand}
use Rattle.roster.specs.declared.state.OutsideEntry.{OutsideEntry}
use Rattle.roster.specs.declared.state.PairingEntry.{PairingEntry}
use Rattle.state_rows.specs.Editions.{edition_number}
use Rattle.state_rows.specs.declared.edition.Edition.{Edition}
use Rattle.state_rows.specs.declared.edition.Edition.TheVariants.{First, Second}
use Rattle.stored_json.specs.KeptText.{kept_text}
use Rattle.stored_json.specs.ReplyText.{reply_text}
use Rattle.tables.specs.Schema.{BookTable, book_table, crew_table, pairing_table, period_table, segment_table, seat_table, ground_table, exceedance_table, request_table, base_table, crew_base_table, outside_table, outside_segment_table}
use Rattle.tables.specs.Records.{base_row, crew_base_row, book_row, crew_row, pairing_row, period_row, segment_row, seat_row, ground_row, exceedance_row, request_row, outside_row, outside_segment_row}
use Rattle.tables.specs.Rows.{rows_of}

-- the tables have this number for a seat: 0 for the captain, and 1 for the first officer
abbrev pub seat_number : Seat → ℕ
seat_number Captain = 0
seat_number FirstOfficer = 1

-- a map has a value under a name
pub record At {V : Type 0} (m : fin.FinMap name_cmp V) : Type 0 where
  pub name : List ℕ
  pub value : V
  pub there : fin.get m name ≡ Some value

-- ---- The book, its members and its pairings

-- the version of the tables, and the zone of HOME by its rule text, make this row of `book`
abbrev pub row_of_book : Edition → List ℕ → Row
row_of_book edition zone =
    book_row (record { one = pos 1; version = pos (edition_number edition); zone = zone })

-- the row is the one row of `book` for the state, in tables of this version
abbrev pub InBookOf : Edition → State → Row → Type 0
InBookOf edition s row = row ≡ row_of_book edition (home_zone s.bases)

-- the row is the one row of `book` for the state, in tables of version 2
abbrev pub InBook : State → Row → Type 0
InBook = InBookOf Second

-- a member has this row in `crew`: the id, the seat that the member takes, and the name
abbrev pub row_of_member : List ℕ → Member → Row
row_of_member id m = crew_row (record { id = id; seat = seat_number m.seat; name = m.name })

-- the row is that of a member of the state in `crew`
abbrev pub InCrew : State → Row → Type 0
InCrew s row = (at : At s.crew) × (row ≡ row_of_member at.name at.value)

-- a pairing has this row in `pairing`: its id
abbrev pub row_of_pairing : List ℕ → Row
row_of_pairing id = pairing_row (record { id = id })

-- the row is that of a pairing of the state in `pairing`
abbrev pub InPairing : State → Row → Type 0
InPairing s row = (at : At s.pairings) × (row ≡ row_of_pairing at.name)

-- ---- The periods of a pairing

-- the pairing has this period at this place, counted from 0, and the period's actual where it is
-- flown
pub record PeriodOf (r : PairingEntry) : Type 0 where
  pub place : ℕ
  pub fdp : Fdp
  pub actual : Option ActualTimes
  pub planned : slice_get r.plan.periods place ≡ Some fdp
  pub flown : slice_get r.actuals place ≡ Some actual

-- a period has this row in `period`: the pairing, the number of the period from 1, its report and
-- release as planned, and as flown
abbrev pub row_of_period : List ℕ → ℕ → Fdp → Option ActualTimes → Row
row_of_period id place fdp actual = period_row (record {
  pairing = id;
  number = place + 1;
  report_at = fdp.report;
  release_at = fdp.release;
  act_report = option_map (λ a. a.report) actual;
  act_release = option_map (λ a. a.release) actual;
})

-- the row is that of a period of a pairing of the state in `period`
abbrev pub InPeriod : State → Row → Type 0
InPeriod s row = (at : At s.pairings) × (p : PeriodOf at.value)
    × (row ≡ row_of_period at.name p.place p.fdp p.actual)

-- ---- The segments of a period

-- the period has this segment at this place, counted from 0
pub record SegmentOf (fdp : Fdp) : Type 0 where
  pub place : ℕ
  pub segment : Segment
  pub planned : slice_get fdp.segments place ≡ Some segment

-- the segment at this place has these times in the actual of its period, if the period has one
abbrev pub times_flown : Option ActualTimes → ℕ → Option BlockTimes
times_flown actual place = option_and_then (λ a. slice_get a.segments place) actual

-- a segment has this row in `segment`: the pairing, the numbers of period and segment from 1,
-- flight and airports, block-out and block-in as planned, and as flown
abbrev pub row_of_segment : List ℕ → ℕ → ℕ → Segment → Option BlockTimes → Row
row_of_segment id period place segment times = segment_row (record {
  pairing = id;
  period = period + 1;
  number = place + 1;
  flight = segment.flight;
  origin = segment.from;
  destination = segment.to;
  out_at = segment.block_out;
  in_at = segment.block_in;
  act_out = option_map (λ t. t.block_out) times;
  act_in = option_map (λ t. t.block_in) times;
})

-- the row is that of a segment of a period of a pairing of the state in `segment`
abbrev pub InSegment : State → Row → Type 0
InSegment s row = (at : At s.pairings) × (p : PeriodOf at.value) × (g : SegmentOf p.fdp)
    × (row ≡ row_of_segment at.name p.place g.place g.segment (times_flown p.actual g.place))

-- ---- The holders of seats

-- a seat of the pairing is held by this member
pub record HeldSeat (r : PairingEntry) : Type 0 where
  pub seat : Seat
  pub crew : List ℕ
  pub held : holder seat r ≡ Some crew

-- a held seat has this row in `seat`: the pairing, the number of the seat, and its holder
abbrev pub row_of_seat : List ℕ → Seat → List ℕ → Row
row_of_seat id seat crew = seat_row (record { pairing = id; seat = seat_number seat; crew = crew })

-- the row is that of a held seat of a pairing of the state in `seat`
abbrev pub InSeat : State → Row → Type 0
InSeat s row = (at : At s.pairings) × (h : HeldSeat at.value)
    × (row ≡ row_of_seat at.name h.seat h.crew)

-- ---- Ground duties, exceedances and requests

-- a ground duty has this row in `ground`: the id, whose duty it is, the task, begin and end
abbrev pub row_of_ground : List ℕ → GroundPlan → Row
row_of_ground id g = ground_row (record {
  id = id;
  crew = g.crew;
  task = g.task;
  begin_at = g.begin;
  end_at = g.end;
})

-- the row is that of a ground duty of the state in `ground`
abbrev pub InGround : State → Row → Type 0
InGround s row = (at : At s.grounds) × (row ≡ row_of_ground at.name at.value)

-- an exceedance is recorded under this key, for this member and section, and names this duty
pub record ExceedanceAt (exceedances : fin.FinMap name_cmp DutyId) : Type 0 where
  pub key : KeyParts
  pub crew : List ℕ
  pub section : Section
  pub named : DutyId
  pub there : fin.get exceedances (exceedance_name key crew section) ≡ Some named

-- the column `pairing` of `exceedance` has this id for a duty that an exceedance names: that of the
-- pairing, or that of the outside period
abbrev pub named_id : DutyId → List ℕ
named_id (Period p) = p.pairing
named_id (Outside id) = id

-- the column `period` of `exceedance` has this number for a duty that an exceedance names: that of
-- the period, from 1, or 0 for an outside period
abbrev pub named_number : DutyId → ℕ
named_number (Period p) = p.number
named_number (Outside id) = 0

-- an exceedance has this row in `exceedance`: the key that recorded it, the member, the section,
-- and the duty that it names
abbrev pub row_of_exceedance : KeyParts → List ℕ → Section → DutyId → Row
row_of_exceedance key crew section named = exceedance_row (record {
  number = pos key.number;
  part = key.part;
  crew = crew;
  section = section_number section;
  pairing = named_id named;
  period = named_number named;
})

-- the row is that of an exceedance of the state in `exceedance`
abbrev pub InExceedance : State → Row → Type 0
InExceedance s row = (at : ExceedanceAt s.exceedances)
    × (row ≡ row_of_exceedance at.key at.crew at.section at.named)

-- a key is held, with this command and reply
pub record RequestAt (requests : fin.FinMap name_cmp LoggedCommand) : Type 0 where
  pub key : KeyParts
  pub kept : LoggedCommand
  pub there : fin.get requests (key_name key) ≡ Some kept

-- a key that is held has this row in `request`: the key, with its command and its reply as their
-- kept texts
abbrev pub row_of_request : KeyParts → LoggedCommand → Row
row_of_request key kept = request_row (record {
  number = pos key.number;
  part = key.part;
  command = kept_text kept.command;
  reply = reply_text kept.reply;
})

-- the row is that of a held key of the state in `request`
abbrev pub InRequest : State → Row → Type 0
InRequest s row = (at : RequestAt s.requests) × (row ≡ row_of_request at.key at.kept)

-- ---- Bases

-- a base has this row in `base`: the id, and the zone by its rule text
abbrev pub row_of_base : List ℕ → List ℕ → Row
row_of_base id zone = base_row (record { id = id; zone = zone })

-- the row is that of a base of the state in `base`
abbrev pub InBase : State → Row → Type 0
InBase s row = (at : At s.bases) × (row ≡ row_of_base at.name at.value)

-- a member has this row in `crew_base`: the member's id, and the id of the member's base
abbrev pub row_of_post : List ℕ → List ℕ → Row
row_of_post crew base = crew_base_row (record { crew = crew; base = base })

-- the row is that of a member of the state in `crew_base`
abbrev pub InCrewBase : State → Row → Type 0
InCrewBase s row = (at : At s.crew) × (row ≡ row_of_post at.name at.value.base)

-- ---- Outside periods

-- an outside period has this row in `outside`: the id, the member who flew it, its report and
-- release
abbrev pub row_of_outside : List ℕ → OutsideEntry → Row
row_of_outside id o = outside_row (record {
  id = id;
  crew = o.crew;
  report_at = o.period.report;
  release_at = o.period.release;
})

-- the row is that of an outside period of the state in `outside`
abbrev pub InOutside : State → Row → Type 0
InOutside s row = (at : At s.outsides) × (row ≡ row_of_outside at.name at.value)

-- the outside period has a segment with these times at this place, counted from 0
pub record OutsideSegmentOf (o : OutsidePlan) : Type 0 where
  pub place : ℕ
  pub times : BlockTimes
  pub flown : slice_get o.segments place ≡ Some times

-- a segment of an outside period has this row in `outside_segment`: the id of the period, the
-- number of the segment from 1, block-out and block-in
abbrev pub row_of_outside_segment : List ℕ → ℕ → BlockTimes → Row
row_of_outside_segment id place times = outside_segment_row (record {
  outside = id;
  number = place + 1;
  out_at = times.block_out;
  in_at = times.block_in;
})

-- the row is that of a segment of an outside period of the state in `outside_segment`
abbrev pub InOutsideSegment : State → Row → Type 0
InOutsideSegment s row = (at : At s.outsides) × (g : OutsideSegmentOf at.value.period)
    × (row ≡ row_of_outside_segment at.name g.place g.times)

-- ---- The thirteen tables

-- the thirteen tables of the book have these names
pub data StateTable : Type 0 where
  book : StateTable
  crew : StateTable
  pairing : StateTable
  period : StateTable
  segment : StateTable
  seat : StateTable
  ground_duty : StateTable
  exceedance : StateTable
  request : StateTable
  base : StateTable
  crew_base : StateTable
  outside : StateTable
  outside_segment : StateTable

-- the table of this name is declared as this table of the book
abbrev pub table : StateTable → BookTable
table book = book_table
table crew = crew_table
table pairing = pairing_table
table period = period_table
table segment = segment_table
table seat = seat_table
table ground_duty = ground_table
table exceedance = exceedance_table
table request = request_table
table base = base_table
table crew_base = crew_base_table
table outside = outside_table
table outside_segment = outside_segment_table

-- version 2 of the tables has the table of this name, and version 1 lacks it
abbrev pub is_later : StateTable → Bool
is_later base = true
is_later crew_base = true
is_later outside = true
is_later outside_segment = true
is_later name = false

-- the row is one that the state has in the table of this name, in version 2
abbrev pub InTable : State → StateTable → Row → Type 0
InTable s book = InBook s
InTable s crew = InCrew s
InTable s pairing = InPairing s
InTable s period = InPeriod s
InTable s segment = InSegment s
InTable s seat = InSeat s
InTable s ground_duty = InGround s
InTable s exceedance = InExceedance s
InTable s request = InRequest s
InTable s base = InBase s
InTable s crew_base = InCrewBase s
InTable s outside = InOutside s
InTable s outside_segment = InOutsideSegment s

-- the row is one that the state has in the table of this name, in version 1
abbrev pub InFirst : State → StateTable → Row → Type 0
InFirst s book = InBookOf First s
InFirst s name = InTable s name

-- the database has just the rows of which `Is` holds in this table
abbrev pub HasJust : BookTable → Database → (Row → Type 0) → Type 0
HasJust kept db Is = (row : Row) → Has (rows_of kept db) row ↔ Is row

-- each table of version 2 has just the rows of this state
abbrev pub Rows : State → Database → Type 0
Rows s db = (name : StateTable) → HasJust (table name) db (InTable s name)

-- each table of version 1 has just the rows of this state in version 1
abbrev pub FirstRows : State → Database → Type 0
FirstRows s db = (name : StateTable) → is_later name ≡ false →
    HasJust (table name) db (InFirst s name)
