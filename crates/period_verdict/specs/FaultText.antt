-- Refusals as they are printed: number, name, and the flight duty period where there is one.
use Rattle.std.specs.Prelude.{◌≡◌, ℕ, List, codes}
use Rattle.time117.specs.declared.minute.TimeFault.TheVariants.{Malformed, NoSuchTime, OutOfRange}
use Rattle.time117.specs.declared.zone.ZoneFault.{ZoneFault}
use Rattle.time117.specs.declared.zone.ZoneFault.TheVariants as zone
use Rattle.period_verdict.specs.declared.fault.LineFault.{LineFault}
use Rattle.period_verdict.specs.declared.fault.LineFault.TheVariants.{Zone, Time, SegmentCount}
use Rattle.period_verdict.specs.declared.fault.LineFault.TheVariants.{BadTimes, Memory}

-- why `rosterbook duty` prints no line of a verdict, as the refusal is printed
abbrev pub line_fault_text : LineFault → List ℕ
line_fault_text (Time Malformed) = codes "T1 Malformed"
line_fault_text (Time NoSuchTime) = codes "T2 NoSuchTime"
line_fault_text (Time OutOfRange) = codes "T3 OutOfRange"
line_fault_text Zone = codes "T4 ZoneText"
line_fault_text BadTimes = codes "16 BadTimes 1"
line_fault_text SegmentCount = codes "19 SegmentCount 1"
line_fault_text Memory = codes "91 Memory"

-- The fault of a zone's text is this fault of the line.
abbrev pub IsZoneFault : ZoneFault → LineFault → Type 0
IsZoneFault zone.ZoneText fault = fault ≡ Zone
IsZoneFault zone.Memory fault = fault ≡ Memory
