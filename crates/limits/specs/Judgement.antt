-- The judgement: which limits of 14 CFR Part 117 the new duties break, and the words of two laws of
-- every limit.
use Rattle.std.specs.Prelude.{List, [], ◌∷◌, ◌⊎◌}
use Rattle.std.specs.List.{Contains, filter}
use Rattle.duty.specs.declared.duty_in_force.DutyInForce.{DutyInForce}
use Rattle.limits.specs.declared.section.Section.{Section}
use Rattle.limits.specs.declared.section.Section.TheVariants.{FlightTime, FlightDutyPeriod}
use Rattle.limits.specs.declared.section.Section.TheVariants.{FlightTime672Hours, FlightTime365Days}
use Rattle.limits.specs.declared.section.Section.TheVariants.{FlightDutyPeriods168Hours}
use Rattle.limits.specs.declared.section.Section.TheVariants.{FlightDutyPeriods672Hours}
use Rattle.limits.specs.declared.section.Section.TheVariants.{ThirtyHourRest, TenHourRest}
use Rattle.limits.specs.Laws.Decisions.{breaks}

-- the sections in the order in which they are listed
abbrev pub all_sections : List Section
all_sections = FlightTime ∷ FlightDutyPeriod ∷ FlightTime672Hours ∷ FlightTime365Days ∷
    FlightDutyPeriods168Hours ∷ FlightDutyPeriods672Hours ∷ ThirtyHourRest ∷ TenHourRest ∷ []

-- The sections whose limits the new duties break, found by a test of each section's rule. What the
-- list means is a law (Meaning.antt, named by `laws::broken_is_rules`): a section is in the list if
-- and only if its `Rule` holds, and the sections stand in their order.
unfoldable pub Broken : List DutyInForce → List DutyInForce → List Section
Broken history new = filter (λ section. breaks section history new) all_sections

-- each duty of the first list is one of the second list
abbrev pub IsWithin : List DutyInForce → List DutyInForce → Type 0
IsWithin fewer duties = (duty : DutyInForce) → Contains fewer duty → Contains duties duty

-- The duties of the first list are the duties of the other two lists.
abbrev pub IsJoined : List DutyInForce → List DutyInForce → List DutyInForce → Type 0
IsJoined all others added =
    ((duty : DutyInForce) → Contains all duty → Contains others duty ⊎ Contains added duty) ×
    IsWithin others all × IsWithin added all
