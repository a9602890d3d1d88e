-- The sections of 14 CFR Part 117 that limit a duty, as they are printed.
use Rattle.std.specs.Prelude.{ℕ, List, codes}
use Rattle.limits.specs.declared.section.Section.{Section}
use Rattle.limits.specs.declared.section.Section.TheVariants.{FlightTime, FlightDutyPeriod}
use Rattle.limits.specs.declared.section.Section.TheVariants.{FlightTime672Hours, FlightTime365Days}
use Rattle.limits.specs.declared.section.Section.TheVariants.{FlightDutyPeriods168Hours}
use Rattle.limits.specs.declared.section.Section.TheVariants.{FlightDutyPeriods672Hours}
use Rattle.limits.specs.declared.section.Section.TheVariants.{ThirtyHourRest, TenHourRest}

-- a section as it is printed
abbrev pub section_text : Section → List ℕ
section_text FlightTime = codes "117.11(a)(1)"
section_text FlightDutyPeriod = codes "117.13(a)"
section_text FlightTime672Hours = codes "117.23(b)(1)"
section_text FlightTime365Days = codes "117.23(b)(2)"
section_text FlightDutyPeriods168Hours = codes "117.23(c)(1)"
section_text FlightDutyPeriods672Hours = codes "117.23(c)(2)"
section_text ThirtyHourRest = codes "117.25(b)"
section_text TenHourRest = codes "117.25(e)"

-- the number of a section, in the order in which sections are listed
abbrev pub section_number : Section → ℕ
section_number FlightTime = 1
section_number FlightDutyPeriod = 2
section_number FlightTime672Hours = 3
section_number FlightTime365Days = 4
section_number FlightDutyPeriods168Hours = 5
section_number FlightDutyPeriods672Hours = 6
section_number ThirtyHourRest = 7
section_number TenHourRest = 8
