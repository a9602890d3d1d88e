-- What the judgement means, for all lists of duties: a section is in the judgement if and only if
-- its rule holds, and the sections stand in their order.
use Rattle.std.specs.Prelude.{◌≡◌, ◌↔◌, nat_lt, true, List, map}
use Rattle.std.specs.List.{Contains}
use Rattle.duty.specs.Words.{each_next}
use Rattle.duty.specs.declared.duty_in_force.DutyInForce.{DutyInForce}
use Rattle.limits.specs.Judgement.{Broken}
use Rattle.limits.specs.Rules.{Rule}
use Rattle.limits.specs.SectionText.{section_number}
use Rattle.limits.specs.declared.section.Section.{Section}

-- A section is in the list of the broken sections if and only if its rule holds.
abbrev pub BrokenIsRules : Type 0
BrokenIsRules = (history new : List DutyInForce) (section : Section) →
    Contains (Broken history new) section ↔ Rule section history new

-- Each section has a lower number than the next one: the sections stand in their order, each at
-- most once.
abbrev pub AreInOrder : List Section → Type 0
AreInOrder sections = each_next nat_lt (map section_number sections) ≡ true

-- The list of the broken sections is in the sections' order.
abbrev pub BrokenIsInOrder : Type 0
BrokenIsInOrder = (history new : List DutyInForce) → AreInOrder (Broken history new)
