-- Why a report has no text, as the fault is printed: number and name.
use Rattle.std.specs.Prelude.{ℕ, List, codes}
use Rattle.report.specs.declared.fault.ReportFault.{ReportFault}
use Rattle.report.specs.declared.fault.ReportFault.TheVariants.{NoSuchCrew, NoSuchPairing, Memory}

-- the fault of a report as it is printed
abbrev pub report_fault_text : ReportFault → List ℕ
report_fault_text NoSuchCrew = codes "2 NoSuchCrew"
report_fault_text NoSuchPairing = codes "4 NoSuchPairing"
report_fault_text Memory = codes "91 Memory"
