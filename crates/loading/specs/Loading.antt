-- Which databases are refused as books, and what each refusal says.
use Rattle.std.specs.Prelude.{◌≡◌, ◌⊎◌, ⊤, pos, false, IsUtf8, None}
use Rattle.sqlite_disk.specs.Disk.{MoreFaults}
use Rattle.sqlite.specs.Effect.{Database}
use Rattle.sqlite.specs.State as conn
use Rattle.roster.specs.State.{State}
use Rattle.roster.specs.declared.state.DutyId.TheVariants.{Period, Outside}
use Rattle.tables.specs.Calls.{HasStepLimit, IsInOrder}
use Rattle.tables.specs.Records.{book_row}
use Rattle.tables.specs.Schema.{IsOfBook, book_table, table_found}
use Rattle.tables.specs.declared.book.BookRecord.{BookRecord}
use Rattle.entries.specs.declared.fault.LoadFault.{LoadFault}
use Rattle.entries.specs.declared.fault.LoadFault.TheVariants.{NotABook, Damaged, Version, Fault}
use Rattle.entries.specs.declared.fault.TableName as name
use Rattle.entries.specs.declared.fault.TableName.TheVariants as table_name
use Rattle.state_rows.specs.Editions.{edition_number}
use Rattle.state_rows.specs.Rows.{StateTable, book, crew, pairing, period, segment, seat, ground_duty, exceedance, request, base, crew_base, outside, outside_segment, table, HasJust}
use Rattle.state_rows.specs.declared.edition.Edition.{Edition}
use Rattle.state_rows.specs.declared.fault.StoreFault.TheVariants.{Store}
use Rattle.entries.specs.Right.{AreRight, AreRightAbove}

-- ---- What is refused

-- the database has no table `book` (40)
abbrev pub IsNoBook : Database → Type 0
IsNoBook db = table_found db.schema book_table.name ≡ None

-- the book's one row has a version that is neither 1 nor 2 (42)
pub record IsOfOtherVersion (db : Database) : Type 0 where
  pub there : IsOfBook book_table db.schema
  pub it : BookRecord
  pub utf8 : IsUtf8 it.zone
  pub one_row : HasJust book_table db (λ row. row ≡ book_row it)
  pub other : (edition : Edition) → ¬ (it.version ≡ pos (edition_number edition))

-- the table of this name is the first of the book that isn't right (41)
pub record IsDamaged (name : StateTable) (db : Database) : Type 0 where
  pub book : ¬ IsNoBook db
  pub version : ¬ IsOfOtherVersion db
  pub above : AreRightAbove name db
  pub damaged : ¬ AreRight name db

-- ---- Refusals

-- a name of a table in a refusal means this table
abbrev pub state_table : name.TableName → StateTable
state_table table_name.Book = book
state_table table_name.Crew = crew
state_table table_name.Pairing = pairing
state_table table_name.Period = period
state_table table_name.Segment = segment
state_table table_name.Seat = seat
state_table table_name.Ground = ground_duty
state_table table_name.Exceedance = exceedance
state_table table_name.Request = request
state_table table_name.Base = base
state_table table_name.CrewBase = crew_base
state_table table_name.Outside = outside
state_table table_name.OutsideSegment = outside_segment

-- A refusal to load says this of the database. It says nothing if it reports a fault of the store
-- (90), or that the program is out of memory (91).
abbrev pub Justifies : LoadFault → Database → Type 0
Justifies NotABook db = IsNoBook db
Justifies Version db = IsOfOtherVersion db
Justifies (Damaged it) db = IsDamaged (state_table it) db
Justifies (Fault fault) db = ⊤

-- A read of the tables has a cause for a fault of the store (90). The disk failed or refused a call
-- meanwhile, or an earlier failure had shut the connection; or a limit is set on the steps of a
-- statement. Or the rows of some table don't stand in the order of the numbers that they are stored
-- under.
abbrev pub HasReadCause : conn.State → conn.State → Type 0
HasReadCause old new =
    MoreFaults old.faults new.faults
    ⊎ ((old.is_open ≡ false)
    ⊎ (HasStepLimit old
    ⊎ ((name : StateTable) × ¬ IsInOrder (table name) old.now)))

-- a refusal to load that reports a fault of the store (90) has a cause in the calls from one state
-- of the connection to the other
abbrev pub IsCaused : conn.State → conn.State → LoadFault → Type 0
IsCaused old new fault = fault ≡ Fault Store → HasReadCause old new
