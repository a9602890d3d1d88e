-- Which fault a failure of `sqlite` is, and how faults are printed.
use Rattle.std.specs.Prelude.{ℕ, List, codes}
use Rattle.sqlite.specs.declared.error.Error.{Error}
use Rattle.sqlite.specs.declared.error.Error.TheVariants.{SqliteFailure}
use Rattle.sqlite.specs.declared.error.ErrorCode.TheVariants.{OutOfMemory}
use Rattle.tables.specs.declared.table_fault.TableFault.{TableFault}
use Rattle.tables.specs.declared.table_fault.TableFault.TheVariants.{Store, Memory, NotARecord}

-- a failure of `sqlite` becomes 91 if it is out of memory, and 90 otherwise
abbrev pub table_fault_of : Error → TableFault
table_fault_of (SqliteFailure OutOfMemory) = Memory
table_fault_of _ = Store

-- a fault of a table is printed as this text
abbrev pub table_fault_text : TableFault → List ℕ
table_fault_text Store = codes "90 Store"
table_fault_text Memory = codes "91 Memory"
table_fault_text NotARecord = codes "a row is no record of its table"
