-- Which databases are books. Each table has to be there, with rows of its type, and to fit the
-- tables above it.
use Rattle.std.specs.Prelude.{◌≡◌, ◌⊎◌, ◌+◌, ◌≤◌, ⊤, ℕ, true, IsUtf8, List, [], ◌∷◌, map, length, Option, None, Some, slice_get}
use Rattle.std.specs.FinMap as fin
use Rattle.std.specs.List.{list_all}
use Rattle.values.specs.Name.{name_cmp}
use Rattle.sqlite_value.specs.Order.{Row}
use Rattle.sqlite_rules.specs.Lists.{Has}
use Rattle.sqlite.specs.Effect.{Database}
use Rattle.time117.specs.Local.{is_zone_text}
use Rattle.duty.specs.Pairings.{pairing_fault, ground_fault, outside_fault}
use Rattle.duty.specs.Plans.{ActualTimes, GroundPlan, as_planned}
use Rattle.duty.specs.Shape.{home, is_id, is_plain_text}
use Rattle.command.specs.Keys.{KeyParts, key_name}
use Rattle.command.specs.declared.member.Member.{Member}
use Rattle.command.specs.declared.member.Seat.TheVariants.{Captain, FirstOfficer}
use Rattle.stored_json.specs.Instants.{is_instant, period_has_instants, times_have_instants}
use Rattle.stored_json.specs.KeptText.{kept_text}
use Rattle.stored_json.specs.Laws.{IsCommand}
use Rattle.stored_json.specs.ReplyText.{reply_text}
use Rattle.roster.specs.Bases.{IsBase, home_zone}
use Rattle.roster.specs.Pairings.{is_flown, is_fully_crewed}
use Rattle.roster.specs.Sound.{Members, IsHolder, IsActual}
use Rattle.roster.specs.State.{State, exceedance_name}
use Rattle.roster.specs.declared.state.DutyId.{DutyId}
use Rattle.roster.specs.declared.state.DutyId.TheVariants.{Period, Outside}
use Rattle.roster.specs.declared.state.ExceedanceId.{ExceedanceId}
use Rattle.roster.specs.declared.state.PeriodId.{PeriodId}
use Rattle.roster.specs.declared.state.LoggedCommand.{LoggedCommand}
use Rattle.roster.specs.declared.state.OutsideEntry.{OutsideEntry}
use Rattle.roster.specs.declared.state.PairingEntry.{PairingEntry}
use Rattle.tables.specs.Records.{IsNumber, period_row, pairing_row, outside_row}
use Rattle.tables.specs.Schema.{IsOfBook, book_table, pairing_table, period_table, outside_table, IsNameFree}
use Rattle.tables.specs.Rows.{rows_of}
use Rattle.tables.specs.declared.outside.OutsideRecord.{OutsideRecord}
use Rattle.tables.specs.declared.period.PeriodRecord.{PeriodRecord}
use Rattle.state_rows.specs.First.{AreOfPairings, IsFirst}
use Rattle.state_rows.specs.Rows.{StateTable, book, crew, pairing, period, segment, seat, ground_duty, exceedance, request, base, crew_base, outside, outside_segment, table, InBookOf, InTable, InPeriod, HasJust}
use Rattle.state_rows.specs.declared.edition.Edition.{Edition}
use Rattle.state_rows.specs.declared.edition.Edition.TheVariants.{First, Second}

-- ---- What the values of a table are

-- the id and the name of a member have their shapes
pub record IsMember (id : List ℕ) (m : Member) : Type 0 where
  pub id_shape : is_id id ≡ true
  pub name_shape : is_plain_text m.name ≡ true
  pub utf8 : IsUtf8 m.name

-- the id and the name of each member have their shapes
abbrev pub AreMembers : State → Type 0
AreMembers s = (id : List ℕ) (m : Member) → fin.get s.crew id ≡ Some m → IsMember id m

-- the id of each pairing has its shape
abbrev pub AreNamed : State → Type 0
AreNamed s = (id : List ℕ) (r : PairingEntry) → fin.get s.pairings id ≡ Some r → is_id id ≡ true

-- a number is missing, or is that of an instant
abbrev pub IsInstantIfAny : Option ℕ → Type 0
IsInstantIfAny None = ⊤
IsInstantIfAny (Some minute) = is_instant minute ≡ true

-- a row of `period` is of a pairing that is there, and its number is 1 or one more than that of
-- another period of the pairing
pub record IsPeriod (db : Database) (row : Row) : Type 0 where
  pub it : PeriodRecord
  pub is : row ≡ period_row it
  pub fits : IsNumber it.number
  pub report : is_instant it.report_at ≡ true
  pub release : is_instant it.release_at ≡ true
  pub act_report : IsInstantIfAny it.act_report
  pub act_release : IsInstantIfAny it.act_release
  pub of_pairing : Has (rows_of pairing_table db) (pairing_row (record { id = it.pairing }))
  pub no_gap : (it.number ≡ 1)
      ⊎ ((before : PeriodRecord) × Has (rows_of period_table db) (period_row before)
      × (before.pairing ≡ it.pairing) × (before.number + 1 ≡ it.number))

-- each row of `period` is of a pairing that is there, and the periods of a pairing are numbered
-- from 1 without a gap
abbrev pub ArePeriods : Database → Type 0
ArePeriods db = (row : Row) → Has (rows_of period_table db) row → IsPeriod db row

-- the times of an actual are instants, as the type of an actual ensures
abbrev pub HasInstantTimes : ActualTimes → Type 0
HasInstantTimes a = (is_instant a.report ≡ true) × (is_instant a.release ≡ true)
    × (list_all times_have_instants a.segments ≡ true)

-- a pairing is one that `Pairing::new` makes, and each actual is of a period, whole and in order
pub record IsPlanned (id : List ℕ) (r : PairingEntry) : Type 0 where
  pub named : r.plan.id ≡ id
  pub plan : pairing_fault r.plan ≡ None
  pub planned : map as_planned r.plan.periods ≡ r.plan.periods
  pub instants : list_all period_has_instants r.plan.periods ≡ true
  pub places : length r.actuals ≡ length r.plan.periods
  pub actuals : (i : ℕ) (a : ActualTimes) → slice_get r.actuals i ≡ Some (Some a) →
      IsActual r.plan i a × HasInstantTimes a

-- each pairing is one that `Pairing::new` makes, and each actual is of a period, whole and in order
abbrev pub ArePlanned : State → Type 0
ArePlanned s = (id : List ℕ) (r : PairingEntry) → fin.get s.pairings id ≡ Some r →
    IsPlanned id r

-- each holder of a pairing's seat is a member of the seat's kind, and both seats are held if the
-- pairing is flown
pub record IsSeated (members : Members) (r : PairingEntry) : Type 0 where
  pub captain : IsHolder members Captain r.captain
  pub first_officer : IsHolder members FirstOfficer r.first_officer
  pub crewed : is_flown r ≡ true → is_fully_crewed r ≡ true

-- each holder of a seat is a member of the seat's kind, and both seats of each flown pairing are
-- held
abbrev pub AreSeated : State → Type 0
AreSeated s = (id : List ℕ) (r : PairingEntry) → fin.get s.pairings id ≡ Some r →
    IsSeated s.crew r

-- a ground duty is one that `Ground::new` makes, of a member
pub record IsGround (members : Members) (id : List ℕ) (g : GroundPlan) : Type 0 where
  pub named : g.id ≡ id
  pub made : ground_fault g ≡ None
  pub begin : is_instant g.begin ≡ true
  pub end : is_instant g.end ≡ true
  pub utf8 : IsUtf8 g.task
  pub member : Member
  pub of_member : fin.get members g.crew ≡ Some member

-- each ground duty is one that `Ground::new` makes, of a member
abbrev pub AreGrounds : State → Type 0
AreGrounds s = (id : List ℕ) (g : GroundPlan) → fin.get s.grounds id ≡ Some g →
    IsGround s.crew id g

-- the numbers of a key are in their ranges
abbrev pub IsKey : KeyParts → Type 0
IsKey key = (1 ≤ key.number) × (key.number ≤ 9_223_372_036_854_775_807) × (key.part ≤ 10_000)

-- a period of this pairing and number is there, and it has an actual
pub record IsFlownIn (pairings : fin.FinMap name_cmp PairingEntry) (p : PeriodId) : Type 0 where
  pub entry : PairingEntry
  pub of_pairing : fin.get pairings p.pairing ≡ Some entry
  pub place : ℕ
  pub number : p.number ≡ place + 1
  pub actual : ActualTimes
  pub flown : slice_get entry.actuals place ≡ Some (Some actual)

-- the duty that an exceedance names is a period with an actual, or an outside period by its id;
-- only the table `outside` says whether that outside period is there
abbrev pub IsDutyIn : fin.FinMap name_cmp PairingEntry → DutyId → Type 0
IsDutyIn pairings (Period p) = IsFlownIn pairings p
IsDutyIn pairings (Outside id) = IsUtf8 id

-- an exceedance is of a member, and names a period with an actual, or an outside period
pub record IsExceedance
    (members : Members) (pairings : fin.FinMap name_cmp PairingEntry) (id : ExceedanceId)
    (named : DutyId) : Type 0 where
  pub is_key : IsKey id.key
  pub member : Member
  pub of_member : fin.get members id.crew ≡ Some member
  pub of_duty : IsDutyIn pairings named

-- an exceedance stands under this name
abbrev pub name_of : ExceedanceId → List ℕ
name_of id = exceedance_name id.key id.crew id.section

-- each exceedance is of a member, names a period with an actual, or an outside period, and stands
-- under its name
abbrev pub AreExceedances : State → Type 0
AreExceedances s = (name : List ℕ) (named : DutyId) → fin.get s.exceedances name ≡ Some named →
    (id : ExceedanceId) × (name ≡ name_of id) × IsExceedance s.crew s.pairings id named

-- a kept command has instants of the years 2000 to 2099, its key is in its ranges, and its kept
-- text and its reply are UTF-8
pub record IsRequest (key : KeyParts) (r : LoggedCommand) : Type 0 where
  pub is_key : IsKey key
  pub command : IsCommand r.command
  pub utf8 : IsUtf8 (kept_text r.command) × IsUtf8 (reply_text r.reply)

-- each key that an exceedance of the state names is held
abbrev pub AreHeld : State → Type 0
AreHeld s = (id : ExceedanceId) (named : DutyId) →
    fin.get s.exceedances (name_of id) ≡ Some named →
    (r : LoggedCommand) × (fin.get s.requests (key_name id.key) ≡ Some r)

-- each kept command has instants of the years 2000 to 2099 and UTF-8 texts, and stands under its
-- key's name; and each key that an exceedance names is held
abbrev pub AreRequests : State → Type 0
AreRequests s =
    ((name : List ℕ) (r : LoggedCommand) → fin.get s.requests name ≡ Some r →
    (key : KeyParts) × (name ≡ key_name key) × IsRequest key r)
    × AreHeld s

-- HOME is one of the bases of the state; the id of each base has its shape, and its zone is a rule
-- text
pub record AreBases (s : State) : Type 0 where
  pub has_home : IsBase s.bases home
  pub shaped : (id zone : List ℕ) → fin.get s.bases id ≡ Some zone →
      (is_id id ≡ true) × (is_zone_text zone ≡ true)

-- the base of each member of the state is one of the bases of the state
abbrev pub AreBased : State → Type 0
AreBased s = (who : List ℕ) (m : Member) → fin.get s.crew who ≡ Some m → IsBase s.bases m.base

-- a row of `outside` is that of an outside period of a member, whose id has its shape
pub record IsOutsidePeriod (members : Members) (row : Row) : Type 0 where
  pub it : OutsideRecord
  pub is : row ≡ outside_row it
  pub id_shape : is_id it.id ≡ true
  pub report : is_instant it.report_at ≡ true
  pub release : is_instant it.release_at ≡ true
  pub member : Member
  pub of_member : fin.get members it.crew ≡ Some member

-- an outside period has a row in `outside`
abbrev pub HasOutside : Database → List ℕ → Type 0
HasOutside db id = (it : OutsideRecord) × Has (rows_of outside_table db) (outside_row it)
    × (it.id ≡ id)

-- each row of `outside` is that of an outside period of a member, and each outside period that an
-- exceedance names has a row
pub record AreOutsides (s : State) (db : Database) : Type 0 where
  pub rows : (row : Row) → Has (rows_of outside_table db) row → IsOutsidePeriod s.crew row
  pub recorded : (name id : List ℕ) → fin.get s.exceedances name ≡ Some (Outside id) →
      HasOutside db id

-- an outside period stands under its id, and is one that `Outside::new` makes
pub record IsOutsideMade (id : List ℕ) (o : OutsideEntry) : Type 0 where
  pub named : o.period.id ≡ id
  pub made : outside_fault o.period ≡ None
  pub instants : list_all times_have_instants o.period.segments ≡ true

-- each outside period stands under its id, and is one that `Outside::new` makes
abbrev pub AreOutsidesMade : State → Type 0
AreOutsidesMade s = (id : List ℕ) (o : OutsideEntry) → fin.get s.outsides id ≡ Some o →
    IsOutsideMade id o

-- ---- The tables in turn

-- the table of this name is there as its text declares it, with just the rows of the state
abbrev pub IsTableOfState : StateTable → State → Database → Type 0
IsTableOfState name s db =
    IsOfBook (table name) db.schema × HasJust (table name) db (InTable s name)

-- the one row of `book` has the number of this version
abbrev pub IsOfEdition : Edition → Database → Type 0
IsOfEdition edition db = (s : State) × HasJust book_table db (InBookOf edition s)

-- the table `book` is there as its text declares it, with just the row of the state, in version 1
-- or 2
abbrev pub IsBookOfState : State → Database → Type 0
IsBookOfState s db =
    IsOfBook book_table db.schema
    × ((edition : Edition) × HasJust book_table db (InBookOf edition s))

-- A table that version 2 added fits the state. In a file of version 2 the table is there, with just
-- the rows of the state; in a file of version 1 its name is free.
abbrev pub IsLaterOfState : StateTable → State → Database → Type 0
IsLaterOfState name s db =
    (IsOfEdition Second db × IsTableOfState name s db)
    ⊎ (IsOfEdition First db × IsNameFree (table name) db.schema)

-- the table `book` is right, in version 1 or 2, with the row of this state
abbrev pub IsBookRight : State → Database → Type 0
IsBookRight s db = IsBookOfState s db × (is_zone_text (home_zone s.bases) ≡ true)

-- the tables from `book` to `crew` are right, with the rows of this state
abbrev pub IsCrewRight : State → Database → Type 0
IsCrewRight s db = IsBookRight s db × IsTableOfState crew s db × AreMembers s

-- the tables from `book` to `pairing` are right, with the rows of this state
abbrev pub IsPairingRight : State → Database → Type 0
IsPairingRight s db = IsCrewRight s db × IsTableOfState pairing s db × AreNamed s

-- The tables from `book` to `pairing` are right, with the rows of this state, and `period` fits
-- them. The rows of `period` aren't compared with the state's yet: without the segments nothing
-- says whether the actual of a period is whole.
abbrev pub IsPeriodRight : State → Database → Type 0
IsPeriodRight s db = IsPairingRight s db × IsOfBook period_table db.schema × ArePeriods db

-- the tables from `book` to `segment` are right, with the rows of this state
abbrev pub IsSegmentRight : State → Database → Type 0
IsSegmentRight s db = IsPeriodRight s db × HasJust period_table db (InPeriod s)
    × IsTableOfState segment s db × ArePlanned s

-- the tables from `book` to `seat` are right, with the rows of this state
abbrev pub IsSeatRight : State → Database → Type 0
IsSeatRight s db = IsSegmentRight s db × IsTableOfState seat s db × AreSeated s

-- the tables from `book` to that of ground duties are right, with the rows of this state
abbrev pub IsGroundRight : State → Database → Type 0
IsGroundRight s db = IsSeatRight s db × IsTableOfState ground_duty s db × AreGrounds s

-- The tables from `book` to `exceedance` are right, with the rows of this state. In a file of
-- version 1 no exceedance names an outside period.
abbrev pub IsExceedanceRight : State → Database → Type 0
IsExceedanceRight s db = IsGroundRight s db × IsTableOfState exceedance s db × AreExceedances s
    × (IsOfEdition First db → AreOfPairings s)

-- The tables from `book` to `request`, the last of version 1, are right, with the rows of this
-- state. In a file of version 1 the state is one that version 1 can say.
abbrev pub IsRequestRight : State → Database → Type 0
IsRequestRight s db = IsExceedanceRight s db × IsTableOfState request s db × AreRequests s
    × (IsOfEdition First db → IsFirst s)

-- the tables from `book` to `base`, the first that version 2 added, are right, with the rows of
-- this state
abbrev pub IsBaseRight : State → Database → Type 0
IsBaseRight s db = IsRequestRight s db × IsLaterOfState base s db × AreBases s

-- the tables from `book` to `crew_base` are right, with the rows of this state
abbrev pub IsCrewBaseRight : State → Database → Type 0
IsCrewBaseRight s db = IsBaseRight s db × IsLaterOfState crew_base s db × AreBased s

-- the table `outside` of a file of version 2 is there and fits the members and exceedances of the
-- state; in a file of version 1 its name is free
abbrev pub IsOutsideFit : State → Database → Type 0
IsOutsideFit s db =
    (IsOfEdition Second db × IsOfBook outside_table db.schema × AreOutsides s db)
    ⊎ (IsOfEdition First db × IsNameFree outside_table db.schema)

-- The tables from `book` to `crew_base` are right, with the rows of this state, and `outside` fits
-- them. The rows of `outside` aren't compared with the state's yet: without the segments there are
-- no outside periods.
abbrev pub IsOutsideRight : State → Database → Type 0
IsOutsideRight s db = IsCrewBaseRight s db × IsOutsideFit s db

-- the tables from `book` to `outside_segment`, the last of version 2, are right, with the rows of
-- this state
abbrev pub IsOutsideSegmentRight : State → Database → Type 0
IsOutsideSegmentRight s db = IsOutsideRight s db × IsLaterOfState outside s db
    × IsLaterOfState outside_segment s db × AreOutsidesMade s

-- the tables from `book` to the one of this name are right, with the rows of this state
abbrev pub IsRight : StateTable → State → Database → Type 0
IsRight book = IsBookRight
IsRight crew = IsCrewRight
IsRight pairing = IsPairingRight
IsRight period = IsPeriodRight
IsRight segment = IsSegmentRight
IsRight seat = IsSeatRight
IsRight ground_duty = IsGroundRight
IsRight exceedance = IsExceedanceRight
IsRight request = IsRequestRight
IsRight base = IsBaseRight
IsRight crew_base = IsCrewBaseRight
IsRight outside = IsOutsideRight
IsRight outside_segment = IsOutsideSegmentRight

-- all tables of the book are right, in a file of version 1 or 2, with the rows of this state
abbrev pub IsRightBook : State → Database → Type 0
IsRightBook = IsRight outside_segment

-- the tables from `book` to the one of this name are right, with the rows of some state
abbrev pub AreRight : StateTable → Database → Type 0
AreRight name db = (s : State) × IsRight name s db

-- the tables above the one of this name are right, with the rows of some state
abbrev pub AreRightAbove : StateTable → Database → Type 0
AreRightAbove book db = ⊤
AreRightAbove crew db = AreRight book db
AreRightAbove pairing db = AreRight crew db
AreRightAbove period db = AreRight pairing db
AreRightAbove segment db = AreRight period db
AreRightAbove seat db = AreRight segment db
AreRightAbove ground_duty db = AreRight seat db
AreRightAbove exceedance db = AreRight ground_duty db
AreRightAbove request db = AreRight exceedance db
AreRightAbove base db = AreRight request db
AreRightAbove crew_base db = AreRight base db
AreRightAbove outside db = AreRight crew_base db
AreRightAbove outside_segment db = AreRight outside db

-- these are the nine tables of version 1, the last first
abbrev pub down_to_nine : List StateTable
down_to_nine =
    request ∷ exceedance ∷ ground_duty ∷ seat ∷ segment ∷ period ∷ pairing ∷ crew ∷ book ∷ []

-- these are the tables from `book` to the one of this name, the last first
abbrev pub down_to : StateTable → List StateTable
down_to book = book ∷ []
down_to crew = crew ∷ book ∷ []
down_to pairing = pairing ∷ crew ∷ book ∷ []
down_to period = period ∷ pairing ∷ crew ∷ book ∷ []
down_to segment = segment ∷ period ∷ pairing ∷ crew ∷ book ∷ []
down_to seat = seat ∷ segment ∷ period ∷ pairing ∷ crew ∷ book ∷ []
down_to ground_duty = ground_duty ∷ seat ∷ segment ∷ period ∷ pairing ∷ crew ∷ book ∷ []
down_to exceedance = exceedance ∷ ground_duty ∷ seat ∷ segment ∷ period ∷ pairing ∷ crew ∷ book ∷ []
down_to request = down_to_nine
down_to base = base ∷ down_to_nine
down_to crew_base = crew_base ∷ base ∷ down_to_nine
down_to outside = outside ∷ crew_base ∷ base ∷ down_to_nine
down_to outside_segment = outside_segment ∷ outside ∷ crew_base ∷ base ∷ down_to_nine
