-- Which fault of the store a fault of a table is, and how a fault of the store is printed.
use Rattle.std.specs.Prelude.{ℕ, List, codes}
use Rattle.tables.specs.declared.table_fault.TableFault.{TableFault}
use Rattle.tables.specs.declared.table_fault.TableFault.TheVariants as table
use Rattle.state_rows.specs.declared.fault.StoreFault.{StoreFault}
use Rattle.state_rows.specs.declared.fault.StoreFault.TheVariants.{Store, Memory}

-- a fault of a table becomes this fault of the store: out of memory is 91, and every other fault is
-- 90
abbrev pub store_fault_of : TableFault → StoreFault
store_fault_of table.Memory = Memory
store_fault_of _ = Store

-- a fault of the store is printed as this text
abbrev pub store_fault_text : StoreFault → List ℕ
store_fault_text Store = codes "90 Store"
store_fault_text Memory = codes "91 Memory"
