-- The refusals to load a book: which refusal a fault of a table is, how each refusal is printed,
-- and why records are refused.
use Rattle.std.specs.Prelude.{◌≡◌, ℕ, List, ◌++◌, codes}
use Rattle.tables.specs.declared.table_fault.TableFault.{TableFault}
use Rattle.tables.specs.declared.table_fault.TableFault.TheVariants as table
use Rattle.state_rows.specs.Faults.{store_fault_text}
use Rattle.state_rows.specs.declared.fault.StoreFault.TheVariants.{Store, Memory}
use Rattle.entries.specs.declared.fault.LoadFault.{LoadFault}
use Rattle.entries.specs.declared.fault.LoadFault.TheVariants as load
use Rattle.entries.specs.declared.fault.TableName.{TableName}
use Rattle.entries.specs.declared.fault.TableName.TheVariants as name

-- a read of this table met a fault, which becomes this refusal: a row that is no record damages the
-- table
abbrev pub load_fault_of : TableName → TableFault → LoadFault
load_fault_of it table.NotARecord = load.Damaged it
load_fault_of it table.Store = load.Fault Store
load_fault_of it table.Memory = load.Fault Memory

-- the name of a table is printed as this text
abbrev pub name_text : TableName → List ℕ
name_text name.Book = codes "book"
name_text name.Crew = codes "crew"
name_text name.Pairing = codes "pairing"
name_text name.Period = codes "period"
name_text name.Segment = codes "segment"
name_text name.Seat = codes "seat"
name_text name.Ground = codes "ground"
name_text name.Exceedance = codes "exceedance"
name_text name.Request = codes "request"
name_text name.Base = codes "base"
name_text name.CrewBase = codes "crew_base"
name_text name.Outside = codes "outside"
name_text name.OutsideSegment = codes "outside_segment"

-- a refusal to load is printed as this text
abbrev pub load_text : LoadFault → List ℕ
load_text load.NotABook = codes "40 NotABook"
load_text (load.Damaged it) = codes "41 Damaged " ++ name_text it
load_text load.Version = codes "42 Version"
load_text (load.Fault fault) = store_fault_text fault

-- records are refused because their table is damaged, and `Why` holds, or because the program is
-- out of memory
abbrev pub Blames : TableName → Type 0 → LoadFault → Type 0
Blames it Why load.NotABook = ⊥
Blames it Why load.Version = ⊥
Blames it Why (load.Damaged other) = (other ≡ it) × Why
Blames it Why (load.Fault fault) = fault ≡ Memory
