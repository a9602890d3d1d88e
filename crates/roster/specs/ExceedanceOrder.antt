-- Exceedances are in the order of their names.
use Rattle.std.specs.Prelude.{◌≡◌, ℕ, List, [], ◌∷◌, refl}
use Rattle.std.proofs.Common.{ap, ◌∙◌}
use Rattle.std.specs.Ordering.{nat_cmp, ordering_then}
use Rattle.values.specs.Name.{name_cmp, text_then}
use Rattle.values.proofs.Names.{number_order, then_assoc, text_order}
use Rattle.limits.specs.SectionText.{section_number}
use Rattle.limits.specs.contracts.section.SectionOrd.TheImpl.{ghosts as sections}
use Rattle.limits.specs.declared.section.Section.{Section}
use Rattle.limits.specs.declared.section.Section.TheVariants.{FlightTime, FlightDutyPeriod}
use Rattle.limits.specs.declared.section.Section.TheVariants.{FlightTime672Hours, FlightTime365Days}
use Rattle.limits.specs.declared.section.Section.TheVariants.{FlightDutyPeriods168Hours}
use Rattle.limits.specs.declared.section.Section.TheVariants.{FlightDutyPeriods672Hours}
use Rattle.limits.specs.declared.section.Section.TheVariants.{ThirtyHourRest, TenHourRest}
use Rattle.roster.specs.State.{exceedance_name}
use Rattle.roster.specs.contracts.state.ExceedanceIdOrd.TheImpl.{ghosts}
use Rattle.roster.specs.declared.state.ExceedanceId.{ExceedanceId}

-- what holds of each of the eight sections holds of every section
each : (P : Section → Type 0) → P FlightTime → P FlightDutyPeriod → P FlightTime672Hours →
    P FlightTime365Days → P FlightDutyPeriods168Hours → P FlightDutyPeriods672Hours →
    P ThirtyHourRest → P TenHourRest → (s : Section) → P s
each P a b c d e f g h FlightTime = a
each P a b c d e f g h FlightDutyPeriod = b
each P a b c d e f g h FlightTime672Hours = c
each P a b c d e f g h FlightTime365Days = d
each P a b c d e f g h FlightDutyPeriods168Hours = e
each P a b c d e f g h FlightDutyPeriods672Hours = f
each P a b c d e f g h ThirtyHourRest = g
each P a b c d e f g h TenHourRest = h

-- two sections are in the order of their numbers
abbrev In : Section → Section → Type 0
In a b = sections.cmp a b ≡ nat_cmp (section_number a) (section_number b)

-- any two sections are in the order of their numbers
sections_order : (a b : Section) → In a b
sections_order = each (λ a. (b : Section) → In a b)
    (each (In FlightTime) refl refl refl refl refl refl refl refl)
    (each (In FlightDutyPeriod) refl refl refl refl refl refl refl refl)
    (each (In FlightTime672Hours) refl refl refl refl refl refl refl refl)
    (each (In FlightTime365Days) refl refl refl refl refl refl refl refl)
    (each (In FlightDutyPeriods168Hours) refl refl refl refl refl refl refl refl)
    (each (In FlightDutyPeriods672Hours) refl refl refl refl refl refl refl refl)
    (each (In ThirtyHourRest) refl refl refl refl refl refl refl refl)
    (each (In TenHourRest) refl refl refl refl refl refl refl refl)

-- two exceedances, compared by number, part, member and section in turn, compare as their names
in_order : (a b c d : ℕ) (x y : List ℕ) (r s : Section) →
    ordering_then
    (ordering_then (nat_cmp a c) (nat_cmp b d))
    (ordering_then (name_cmp x y) (sections.cmp r s))
    ≡ name_cmp
    (a ∷ b ∷ text_then x (section_number r ∷ []))
    (c ∷ d ∷ text_then y (section_number s ∷ []))
in_order a b c d x y r s =
    then_assoc (nat_cmp a c) (nat_cmp b d) _
    ∙ ap (λ o. ordering_then (nat_cmp a c) (ordering_then (nat_cmp b d) o))
    (ap (ordering_then (name_cmp x y))
    (sections_order r s ∙ number_order (section_number r) (section_number s))
    ∙ text_order x y _ _)

-- exceedances are in the order of their names
pub exceedances_order : (a b : ExceedanceId) →
    ghosts.cmp a b
    ≡ name_cmp (exceedance_name a.key a.crew a.section) (exceedance_name b.key b.crew b.section)
exceedances_order a b =
    in_order a.key.number a.key.part b.key.number b.key.part a.crew b.crew a.section b.section
