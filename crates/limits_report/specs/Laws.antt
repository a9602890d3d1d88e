-- What holds of the texts of each state.
use Rattle.std.specs.Prelude.{◌≡◌, ◌↔◌, ℕ, false, List, ◌++◌, map, Option, Some, IsTrue}
use Rattle.std.specs.FinMap as fin
use Rattle.std.specs.List.{filter}
use Rattle.std.specs.Option.{option_map_or}
use Rattle.command.specs.declared.member.Member.{Member}
use Rattle.limits.specs.Judgement.{Broken, all_sections}
use Rattle.limits.specs.Rules.{Rule}
use Rattle.limits.specs.declared.section.Section.{Section}
use Rattle.nearness.specs.Nearness.{exceeds}
use Rattle.roster.specs.Pairings.{holds}
use Rattle.roster.specs.Places.{duties, no_place, others, the_pairing}
use Rattle.roster.specs.Refusals.{broken_by, duties_of}
use Rattle.roster.specs.State.{State}
use Rattle.limits_report.specs.LimitsText.{IsLimitsText, IsJudgedText}
use Rattle.limits_report.specs.NearestLimits.{AreNearestLimits, Judged, judged_duties}
use Rattle.limits_report.specs.declared.nearest.NearestLimit.{NearestLimit}

-- the sections whose lines in a limits text end in `exceeds`, in their order
abbrev pub exceeding : {of : Judged} {first text : List ℕ} → IsJudgedText of first text →
    List Section
exceeding told = filter (λ section. exceeds section told.are.nearness) all_sections

-- A line of a limits text ends in `exceeds` if and only if the new duties break its section's rule.
abbrev pub LineExceedsIsRule : Type 0
LineExceedsIsRule = (s : State) (who : List ℕ) (pairing : Option (List ℕ)) (text : List ℕ)
    (is : IsLimitsText s who pairing text) (section : Section) →
    IsTrue (exceeds section is.told.are.nearness)
    ↔ Rule section (duties (is.of.others ++ is.of.new)) (duties is.of.new)

-- With a pairing the lines that end in `exceeds` are the lines of the limits that the pairing's
-- periods break, after the member's duties but for these periods.
abbrev pub ExceedsIsBroken : Type 0
ExceedsIsBroken = (s : State) (who id text : List ℕ) (is : IsLimitsText s who (Some id) text) →
    exceeding is.told
    ≡ Broken (others s who (the_pairing id) ++ duties_of s who id) (duties_of s who id)

-- With a pairing that the member doesn't hold, the lines that end in `exceeds` are the lines of the
-- sections that the refusal 12 of the pairing's assignment names.
abbrev pub ExceedsIsRefused : Type 0
ExceedsIsRefused = (s : State) (who id text : List ℕ) (is : IsLimitsText s who (Some id) text) →
    option_map_or (holds who) (fin.get s.pairings id) false ≡ false →
    broken_by who (others s who no_place) (duties_of s who id)
    ≡ map (λ section. record { crew = who; section = section }) (exceeding is.told)

-- A member who is in the state has a limits text, with each pairing that is in the state and
-- without one.
abbrev pub EachHasText : Type 0
EachHasText = (s : State) (who : List ℕ) (pairing : Option (List ℕ)) (member : Member)
    (of : Judged) →
    fin.get s.crew who ≡ Some member → judged_duties s who pairing ≡ Some of →
    (text : List ℕ) × IsLimitsText s who pairing text

-- A member has at most one limits text, with each pairing or without one.
abbrev pub HasOneText : Type 0
HasOneText = (s : State) (who : List ℕ) (pairing : Option (List ℕ)) (a b : List ℕ) →
    IsLimitsText s who pairing a → IsLimitsText s who pairing b → a ≡ b

-- What is nearest to the limits of a member's duties is there, with each pairing that is in the
-- state and without one.
abbrev pub EachHasNearest : Type 0
EachHasNearest = (s : State) (who : List ℕ) (pairing : Option (List ℕ)) (of : Judged) →
    judged_duties s who pairing ≡ Some of →
    (limits : List NearestLimit) × AreNearestLimits s who pairing limits

-- What is nearest to the limits of a member's duties is one list at most, with each pairing or
-- without one.
abbrev pub HasOneNearest : Type 0
HasOneNearest = (s : State) (who : List ℕ) (pairing : Option (List ℕ)) (a b : List NearestLimit) →
    AreNearestLimits s who pairing a → AreNearestLimits s who pairing b → a ≡ b
