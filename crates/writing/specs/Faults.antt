-- How a refusal to make a book is printed.
use Rattle.std.specs.Prelude.{ℕ, List, codes}
use Rattle.state_rows.specs.Faults.{store_fault_text}
use Rattle.writing.specs.declared.fault.CreateFault.{CreateFault}
use Rattle.writing.specs.declared.fault.CreateFault.TheVariants.{NotEmpty, Fault}

-- a refusal to make a book is printed as this text
abbrev pub create_text : CreateFault → List ℕ
create_text NotEmpty = codes "43 NotEmpty"
create_text (Fault fault) = store_fault_text fault
