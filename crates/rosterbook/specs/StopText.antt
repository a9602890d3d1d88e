-- Why the program stops before its end, as it is printed: number, name, and the table if there is
-- one.
use Rattle.std.specs.Prelude.{ℕ, List, codes}
use Rattle.state_rows.specs.Faults as rows
use Rattle.entries.specs.Faults.{load_text}
use Rattle.rosterbook.specs.declared.stop.Stop.{Stop}
use Rattle.rosterbook.specs.declared.stop.Stop.TheVariants.{Load, Book, Memory, Channel, Network}

-- the text of what stops the program, as it is printed
abbrev pub stop_text : Stop → List ℕ
stop_text (Load fault) = load_text fault
stop_text (Book fault) = rows.store_fault_text fault
stop_text Memory = codes "91 Memory"
stop_text Channel = codes "92 Channel"
stop_text Network = codes "93 Network"
