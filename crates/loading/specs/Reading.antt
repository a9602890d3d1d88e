-- What the functions that load a book say to one another. Of the definitions of this file the
-- public clause of `read_all` names `ReadsAs` and `AgreesIn`.
use Rattle.std.specs.Prelude.{◌≡◌, ◌⊎◌, ◌↔◌, ◌<◌, ⊤, true, false, pos, IsUtf8, ℕ, ℤ, zero, suc, List, [], ◌∷◌, map, take, length, Option, None, Some, Result, IfErr, MatchResult}
use Rattle.std.specs.FinMap as fin
use Rattle.std.specs.List.{AllByRecursion}
use Rattle.values.specs.Name.{name_cmp}
use Rattle.sqlite_value.specs.Order.{Row}
use Rattle.sqlite_rules.specs.Lists.{Has}
use Rattle.sqlite_schema.specs.declared.schema.Schema.{Schema}
use Rattle.sqlite.specs.Effect.{Database, IsDatabase}
use Rattle.sqlite.specs.State.{State, HasCleanDisk, IsUnchanged}
use Rattle.duty.specs.Shape.{home, is_id}
use Rattle.command.specs.Keys.{KeyParts, key_name}
use Rattle.command.specs.declared.instruction.Instruction.{Instruction}
use Rattle.command.specs.declared.member.Member.{Member}
use Rattle.command.specs.declared.member.Seat.{Seat}
use Rattle.command.specs.declared.member.Seat.TheVariants.{Captain, FirstOfficer}
use Rattle.roster.specs.Bases.{Bases, IsBase, home_zone, only_home}
use Rattle.roster.specs.Pairings.{holder, is_flown, is_fully_crewed}
use Rattle.roster.specs.Sound.{Members, IsHolder}
use Rattle.roster.specs.State as roster
use Rattle.roster.specs.declared.state.DutyId.{DutyId}
use Rattle.roster.specs.declared.state.DutyId.TheVariants.{Period, Outside}
use Rattle.roster.specs.declared.state.ExceedanceId.{ExceedanceId}
use Rattle.roster.specs.declared.state.LoggedCommand.{LoggedCommand}
use Rattle.roster.specs.declared.state.PairingEntry.{PairingEntry}
use Rattle.tables.specs.Calls.{CrashLeavesNoMore}
use Rattle.tables.specs.Rows.{IsStored, rows_of, HasNoRecord, begins_with}
use Rattle.tables.specs.Schema.{IsOfBook, IsNameFree}
use Rattle.tables.specs.Records.{base_row, book_row, crew_row, crew_base_row, ground_row, exceedance_row, request_row, seat_row}
use Rattle.tables.specs.declared.base.BaseRecord.{BaseRecord}
use Rattle.tables.specs.declared.book.BookRecord.{BookRecord}
use Rattle.tables.specs.declared.crew.CrewRecord.{CrewRecord}
use Rattle.tables.specs.declared.crew_base.CrewBaseRecord.{CrewBaseRecord}
use Rattle.tables.specs.declared.exceedance.ExceedanceRecord.{ExceedanceRecord}
use Rattle.tables.specs.declared.ground.GroundRecord.{GroundRecord}
use Rattle.tables.specs.declared.request.RequestRecord.{RequestRecord}
use Rattle.tables.specs.declared.seat.SeatRecord.{SeatRecord}
use Rattle.loading.specs.Loading.{IsCaused, IsNoBook, IsOfOtherVersion}
use Rattle.entries.specs.Right.{IsMember, IsFlownIn, IsGround, IsExceedance, IsRequest, AreHeld, name_of, IsRight, IsOfEdition}
use Rattle.state_rows.specs.Editions.{edition_number}
use Rattle.state_rows.specs.First.{IsOfFirst}
use Rattle.state_rows.specs.Requests.{Requests, with_requests}
use Rattle.state_rows.specs.Rows.{StateTable, book, crew, pairing, seat, base, crew_base, outside, outside_segment, table, row_of_member, row_of_seat, row_of_ground, row_of_request, row_of_base, row_of_post, named_number, InSeat}
use Rattle.state_rows.specs.declared.edition.Edition.{Edition}
use Rattle.state_rows.specs.declared.edition.Edition.TheVariants.{First, Second}
use Rattle.state_rows.specs.declared.fault.StoreFault.TheVariants.{Memory}
use Rattle.entries.specs.declared.fault.LoadFault.{LoadFault}
use Rattle.entries.specs.declared.fault.LoadFault.TheVariants.{NotABook, Damaged, Version, Fault}
use Rattle.entries.specs.declared.fault.TableName as name
use Rattle.entries.specs.declared.fault.TableName.TheVariants as its
use Rattle.time117.specs.Local.{is_zone_text}
use Rattle.entries.specs.Right.{down_to}
use Rattle.entries.specs.Mapping.{AreOnce, HasStranger, Mapped}
use Rattle.entries.specs.Exceedances.{row_of_recorded}

-- A call that reads the database has changed nothing, and `Is` holds of its answer; or it was
-- refused for a reason. A fault of the store has a cause, and a crash leaves nothing that it could
-- not leave before the call.
pub record ReadsAs {A : Type 0}
    (Is : A → Type 0) (Refuses : LoadFault → Type 0) (old new : State)
    (result : Result A LoadFault) : Type 0 where
  pub told : HasCleanDisk new → MatchResult result (λ a. IsUnchanged old new × Is a) Refuses
  pub caused : HasCleanDisk new → IfErr result (IsCaused old new)
  pub left : CrashLeavesNoMore old new

-- the table of this name is there, each row of it under a number of its own, and has just these
-- rows
pub record HasRows (it : StateTable) (db : Database) (rows : List Row) : Type 0 where
  pub database : IsDatabase db
  pub there : IsOfBook (table it) db.schema
  pub stored : IsStored (table it) db
  pub all : (row : Row) → Has (rows_of (table it) db) row ↔ Has rows row

-- the table of this name isn't there, or some row of it is no record
abbrev pub IsUnreadable : StateTable → (Row → Type 0) → Database → Type 0
IsUnreadable it IsRecord db =
    (¬ IsOfBook (table it) db.schema) ⊎ HasNoRecord (table it) (begins_with []) IsRecord db

-- a table is refused because it is damaged, and `Why` holds, or because the store failed, or the
-- program is out of memory
abbrev pub BlamesOrFails : name.TableName → Type 0 → LoadFault → Type 0
BlamesOrFails it Why NotABook = ⊥
BlamesOrFails it Why Version = ⊥
BlamesOrFails it Why (Damaged other) = (other ≡ it) × Why
BlamesOrFails it Why (Fault fault) = ⊤

-- the book is of version 1 or 2, and its tables from `book` to the one of this name are right, each
-- row under a number of its own
pub record AgreesThrough (it : StateTable) (s : roster.State) (db : Database) : Type 0 where
  pub stored : AllByRecursion (λ name. IsStored (table name) db) (down_to it)
  pub book : ¬ IsNoBook db
  pub version : ¬ IsOfOtherVersion db
  pub right : IsRight it s db

-- ---- A map read from rows

-- a number means this seat in the tables, if it means one
abbrev pub seat_of : ℕ → Option Seat
seat_of zero = Some Captain
seat_of (suc zero) = Some FirstOfficer
seat_of (suc (suc n)) = None

-- an exceedance in a file of this version can name the duty: a period with an actual or, in
-- version 2, an outside period
abbrev pub CanName : Edition → fin.FinMap name_cmp PairingEntry → DutyId → Type 0
CanName edition pairings (Period p) = IsFlownIn pairings p
CanName First pairings (Outside id) = ⊥
CanName Second pairings (Outside id) = ⊤

-- an exceedance is of a member, and names a duty that an exceedance in a file of this version can
-- name, with a number of eight bits
pub record IsExceedanceIn
    (edition : Edition) (members : Members) (pairings : fin.FinMap name_cmp PairingEntry)
    (id : ExceedanceId) (named : DutyId) : Type 0 where
  pub is : IsExceedance members pairings id named
  pub can : CanName edition pairings named
  pub fits : named_number named < 256

-- the base of each of these members is HOME
abbrev pub AreAtHome : Members → Type 0
AreAtHome members =
    (who : List ℕ) (m : Member) → fin.get members who ≡ Some m → m.base ≡ home

-- the members of this many first records of `crew` were set in a roster, each at HOME
pub record MembersRead
    (records : List CrewRecord) (count : ℕ) (old new : roster.State) : Type 0 where
  pub same : new ≡ record old { crew = new.crew }
  pub at_home : AreAtHome new.crew
  pub mapped : AreOnce row_of_member (map crew_row records) →
      Mapped (λ id. id) row_of_member IsMember (take count (map crew_row records)) new.crew

-- the ground duties of this many first records of `ground` were set in a roster
pub record GroundsRead
    (records : List GroundRecord) (count : ℕ) (old new : roster.State) : Type 0 where
  pub same : new ≡ record old { grounds = new.grounds }
  pub mapped : AreOnce row_of_ground (map ground_row records) →
      Mapped (λ id. id) row_of_ground (IsGround old.crew)
      (take count (map ground_row records)) new.grounds

-- the exceedances of this many first records of `exceedance`, in a file of this version, were set
-- in a roster
pub record ExceedancesRead
    (edition : Edition) (records : List ExceedanceRecord) (count : ℕ) (old new : roster.State)
    : Type 0 where
  pub same : new ≡ record old { exceedances = new.exceedances }
  pub mapped : AreOnce row_of_recorded (map exceedance_row records) →
      Mapped name_of row_of_recorded (IsExceedanceIn edition old.crew old.pairings)
      (take count (map exceedance_row records)) new.exceedances

-- a book of this version can keep the instruction: in version 1 it adds no base, and no member at
-- another base than HOME, and records no outside period
abbrev pub CanKeep : Edition → Instruction → Type 0
CanKeep First instruction = IsOfFirst instruction
CanKeep Second instruction = ⊤

-- what is kept under a key is a command with its reply, and a book of this version can keep it
pub record IsRequestIn (edition : Edition) (key : KeyParts) (r : LoggedCommand) : Type 0 where
  pub is : IsRequest key r
  pub can : CanKeep edition r.command

-- these are the kept commands of this many first records of `request`; a book of this version can
-- keep each of the commands
pub record RequestsRead
    (edition : Edition) (records : List RequestRecord) (count : ℕ) (kept : Requests) : Type 0 where
  pub mapped : AreOnce row_of_request (map request_row records) →
      Mapped key_name row_of_request (IsRequestIn edition)
      (take count (map request_row records)) kept

-- the keys of requests, each under its name
abbrev pub Keys : Type 0
Keys = fin.FinMap name_cmp ⊤

-- these are the keys of the kept commands, and no others
abbrev pub AreKeysOf : Requests → Keys → Type 0
AreKeysOf kept keys =
    (name : List ℕ) → fin.contains_key keys name ≡ fin.contains_key kept name

-- these are the keys of the kept commands of this many first records of `request`
abbrev pub KeysRead : Edition → List RequestRecord → ℕ → Keys → Type 0
KeysRead edition records count keys =
    (kept : Requests) × RequestsRead edition records count kept × AreKeysOf kept keys

-- the key of each exceedance of the state is one of these
abbrev pub HaveKeys : roster.State → Keys → Type 0
HaveKeys s keys = (id : ExceedanceId) (named : DutyId) →
    fin.get s.exceedances (name_of id) ≡ Some named →
    fin.contains_key keys (key_name id.key) ≡ true

-- each record of `request` is that of a kept command; with these kept commands the state has the
-- key of each of its exceedances
abbrev pub HoldsAll : Edition → List RequestRecord → roster.State → Type 0
HoldsAll edition records s =
    (kept : Requests) × RequestsRead edition records (length records) kept
    × AreHeld (with_requests kept s)

-- some record of `request` is that of no request that a book of this version can keep, or some
-- exceedance has a key that isn't held
abbrev pub AreWanting : Edition → List RequestRecord → roster.State → Type 0
AreWanting edition records s =
    HasStranger row_of_request (IsRequestIn edition) (map request_row records)
    ⊎ ((kept : Requests) × RequestsRead edition records (length records) kept
    × (AreHeld (with_requests kept s) → ⊥))

-- ---- The holders of seats

-- a seat is known by its pairing and its kind
pub record SeatIndex : Type 0 where
  pub pairing : List ℕ
  pub seat : Seat

-- a seat that a member holds has this row in `seat`
abbrev pub row_of_held : SeatIndex → List ℕ → Row
row_of_held at who = row_of_seat at.pairing at.seat who

-- the pairing of a seat is there, and the holder of the seat is a member of the seat's kind
pub record IsSeatHeldBy
    (members : Members) (pairings : fin.FinMap name_cmp PairingEntry) (at : SeatIndex)
    (who : List ℕ) : Type 0 where
  pub entry : PairingEntry
  pub of_pairing : fin.get pairings at.pairing ≡ Some entry
  pub member : Member
  pub of_member : fin.get members who ≡ Some member
  pub of_kind : member.seat ≡ at.seat

-- two pairings are alike, but for who holds their seats; or neither pairing is there
abbrev pub IsSamePlan : Option PairingEntry → Option PairingEntry → Type 0
IsSamePlan None None = ⊤
IsSamePlan (Some r) (Some q) = (q.plan ≡ r.plan) × (q.actuals ≡ r.actuals)
IsSamePlan _ _ = ⊥

-- the members of this many first records of `seat` took their seats in a roster; the plans and
-- actuals of pairings stay
pub record SeatsRead
    (records : List SeatRecord) (count : ℕ) (old new : roster.State) : Type 0 where
  pub same : new ≡ record old { pairings = new.pairings }
  pub planned : (id : List ℕ) → IsSamePlan (fin.get old.pairings id) (fin.get new.pairings id)
  pub rows : AreOnce row_of_held (map seat_row records) → (row : Row) →
      Has (take count (map seat_row records)) row ↔ InSeat new row
  pub known : (id : List ℕ) (r : PairingEntry) (seat : Seat) →
      fin.get new.pairings id ≡ Some r → IsHolder old.crew seat (holder seat r)

-- both seats of each flown pairing of the state are held
abbrev pub AreCrewed : roster.State → Type 0
AreCrewed s = (id : List ℕ) (r : PairingEntry) → fin.get s.pairings id ≡ Some r →
    is_flown r ≡ true → is_fully_crewed r ≡ true

-- no seat of the pairing is held
abbrev pub HasNoHolder : PairingEntry → Type 0
HasNoHolder r = (r.captain ≡ None) × (r.first_officer ≡ None)

-- no seat of any pairing of the state is held
abbrev pub HaveNoHolders : roster.State → Type 0
HaveNoHolders s = (id : List ℕ) (r : PairingEntry) → fin.get s.pairings id ≡ Some r → HasNoHolder r

-- some record of `seat` is that of no seat that a member of its kind holds, or a flown pairing has
-- a free seat
abbrev pub AreUnseated : List SeatRecord → roster.State → Type 0
AreUnseated records s =
    HasStranger row_of_held (IsSeatHeldBy s.crew s.pairings) (map seat_row records)
    ⊎ ((r : roster.State) × SeatsRead records (length records) s r × (AreCrewed r → ⊥))

-- ---- The book's own row

-- the records of `book` have just the row of this record
pub record IsOnly (records : List BookRecord) (it : BookRecord) : Type 0 where
  pub all : (row : Row) → Has (map book_row records) row ↔ (row ≡ book_row it)

-- a book of this version, with this zone of HOME, has this record in `book`
abbrev pub book_of : Edition → List ℕ → BookRecord
book_of edition zone = record { one = pos 1; version = pos (edition_number edition); zone = zone }

-- the number is that of version 1 or of version 2
abbrev pub IsEditionNumber : ℤ → Type 0
IsEditionNumber number = (edition : Edition) × (number ≡ pos (edition_number edition))

-- the records of `book` are not just one record; or the one record is of version 1 or 2, and its
-- row is not the row of a book
abbrev pub IsNoBookRow : List BookRecord → Type 0
IsNoBookRow records = (it : BookRecord) → IsOnly records it →
    IsEditionNumber it.version × (it.one ≡ pos 1 → is_zone_text it.zone ≡ false)

-- the records of `book` are refused because the one record is neither of version 1 nor of version
-- 2, or there is no row of a book, or the program is out of memory
abbrev pub BlamesBook : List BookRecord → LoadFault → Type 0
BlamesBook records NotABook = ⊥
BlamesBook records Version =
    (it : BookRecord) × IsOnly records it × IsUtf8 it.zone × ¬ IsEditionNumber it.version
BlamesBook records (Damaged other) = (other ≡ its.Book) × IsNoBookRow records
BlamesBook records (Fault fault) = fault ≡ Memory

-- ---- A roster of plans

-- the roster has nothing that only tables of version 2 say: HOME is its one base, and the base of
-- each member, and it has no outside period
abbrev pub HasNoLater : roster.State → Type 0
HasNoLater s = (s.bases ≡ only_home (home_zone s.bases)) × AreAtHome s.crew
    × (s.outsides ≡ fin.empty)

-- the roster has nothing but bases, members and pairings
abbrev pub HasNoDuties : roster.State → Type 0
HasNoDuties s = (s.grounds ≡ fin.empty) × (s.exceedances ≡ fin.empty) × (s.requests ≡ fin.empty)

-- ---- The tables that version 2 added

-- the book is of this version, and its tables from `book` to the one of this name are right
pub record AgreesIn
    (edition : Edition) (it : StateTable) (s : roster.State) (db : Database) : Type 0 where
  pub through : AgreesThrough it s db
  pub of : IsOfEdition edition db

-- a file of version 1 is refused for the first table, of the four that version 2 added, whose name
-- isn't free
abbrev pub BlamesName : Schema → LoadFault → Type 0
BlamesName schema (Damaged its.Base) = ¬ IsNameFree (table base) schema
BlamesName schema (Damaged its.CrewBase) =
    IsNameFree (table base) schema × ¬ IsNameFree (table crew_base) schema
BlamesName schema (Damaged its.Outside) =
    IsNameFree (table base) schema × IsNameFree (table crew_base) schema
    × ¬ IsNameFree (table outside) schema
BlamesName schema (Damaged its.OutsideSegment) =
    IsNameFree (table base) schema × IsNameFree (table crew_base) schema
    × IsNameFree (table outside) schema × ¬ IsNameFree (table outside_segment) schema
BlamesName schema fault = ⊥

-- the tables from `book` to the one of this name are right, with the rows of this state, and each
-- row of the named table is under a number of its own
abbrev pub IsReadAs : StateTable → roster.State → Database → Type 0
IsReadAs it s db = IsRight it s db × IsStored (table it) db

-- ---- The bases

-- the id of a base has its shape, and its zone is a rule text
pub record IsShaped (id zone : List ℕ) : Type 0 where
  pub id_shape : is_id id ≡ true
  pub zone_text : is_zone_text zone ≡ true

-- one of the records of `base` is the row of HOME with this zone
abbrev pub HasHome : List BaseRecord → List ℕ → Type 0
HasHome records zone = Has (map base_row records) (row_of_base home zone)

-- The bases of this many first records of `base` were set in a roster that had HOME alone. The
-- roster then has the bases of these records, and HOME; one of all the records has to be the row of
-- HOME.
pub record BasesRead
    (records : List BaseRecord) (count : ℕ) (old new : roster.State) : Type 0 where
  pub same : new ≡ record old { bases = new.bases }
  pub mapped : AreOnce row_of_base (map base_row records) →
      HasHome records (home_zone old.bases) → is_zone_text (home_zone old.bases) ≡ true →
      Mapped (λ id. id) row_of_base IsShaped
      (row_of_base home (home_zone old.bases) ∷ take count (map base_row records)) new.bases

-- the bases of all records of `base` were set in a roster, and one is HOME with the zone that HOME
-- had in the roster before
pub record AreBasesRead (records : List BaseRecord) (old new : roster.State) : Type 0 where
  pub has_home : HasHome records (home_zone old.bases)
  pub read : BasesRead records (length records) old new

-- some record of `base` is that of no base, or no record is the row of HOME with the zone of HOME
-- in the roster
abbrev pub AreNoBases : List BaseRecord → roster.State → Type 0
AreNoBases records s =
    HasStranger row_of_base IsShaped (map base_row records)
    ⊎ (HasHome records (home_zone s.bases) → ⊥)

-- ---- The bases of the members

-- a member under an id has this row in `crew_base`
abbrev pub row_of_posted : List ℕ → Member → Row
row_of_posted who m = row_of_post who m.base

-- one of the members under this id has the seat and the name of `m`, and the base of `m` is one of
-- the bases
pub record IsPosted (bases : Bases) (members : Members) (who : List ℕ) (m : Member) : Type 0 where
  pub before : Member
  pub there : fin.get members who ≡ Some before
  pub seat : m.seat ≡ before.seat
  pub name : m.name ≡ before.name
  pub based : IsBase bases m.base

-- these are the members whom this many first records of `crew_base` name, each at the one of the
-- bases that the record names
pub record PostsRead
    (bases : Bases) (members : Members) (records : List CrewBaseRecord) (count : ℕ)
    (posted : Members) : Type 0 where
  pub mapped : AreOnce row_of_posted (map crew_base_row records) →
      Mapped (λ who. who) row_of_posted (IsPosted bases members)
      (take count (map crew_base_row records)) posted

-- each of the members is among the members whom records of `crew_base` name
abbrev pub AreAllPosted : Members → Members → Type 0
AreAllPosted members posted = (who : List ℕ) →
    fin.contains_key members who ≡ true → fin.contains_key posted who ≡ true

-- each member of a roster was set at the base that a record of `crew_base` names for the member
pub record ArePosted (records : List CrewBaseRecord) (old new : roster.State) : Type 0 where
  pub same : new ≡ record old { crew = new.crew }
  pub read : PostsRead old.bases old.crew records (length records) new.crew
  pub all : AreAllPosted old.crew new.crew

-- some record of `crew_base` names no member or no base of the roster, or some member of the roster
-- has no record
abbrev pub AreUnposted : List CrewBaseRecord → roster.State → Type 0
AreUnposted records s =
    HasStranger row_of_posted (IsPosted s.bases s.crew) (map crew_base_row records)
    ⊎ ((posted : Members) × PostsRead s.bases s.crew records (length records) posted
    × (AreAllPosted s.crew posted → ⊥))
