-- When the book refuses an instruction. For each instruction its refusals are listed in the order
-- of their numbers, each beside the fact that makes it apply; the first that applies is the answer.
-- Each fact makes sense in any state: a pairing that isn't there has no seat that is held and no
-- periods, and a member who isn't there holds nothing.
use Rattle.std.specs.Prelude.{ℕ, ◌-◌, ◌==◌, Bool, false, not, ◌&&◌, ◌||◌, nat_lt, List, [], ◌∷◌}
use Rattle.std.specs.Prelude.{◌++◌, map, length, Option, is_some, is_none, slice_get}
use Rattle.std.specs.FinMap as fin
use Rattle.std.specs.List.{find}
use Rattle.std.specs.Option.{option_map, option_and_then, option_map_or}
use Rattle.std.specs.Str.{bytes_eq}
use Rattle.duty.specs.Plans.{ActualTimes}
use Rattle.duty.specs.Overlaps.{overlaps}
use Rattle.duty.specs.declared.duty_in_force.DutyInForce.{DutyInForce}
use Rattle.duty.specs.declared.fdp.Fdp.{Fdp}
use Rattle.limits.specs.Judgement.{Broken}
use Rattle.command.specs.contracts.member.SeatPartialEq.TheImpl.{ghosts as seats}
use Rattle.command.specs.declared.exceedance.Exceedance.{Exceedance}
use Rattle.command.specs.declared.instruction.Instruction.{Instruction}
use Rattle.command.specs.declared.instruction.Instruction.TheVariants.{AddBase, AddCrew, AddPairing}
use Rattle.command.specs.declared.instruction.Instruction.TheVariants.{CancelPairing, Assign}
use Rattle.command.specs.declared.instruction.Instruction.TheVariants.{Release, Swap, AddGround}
use Rattle.command.specs.declared.instruction.Instruction.TheVariants.{CancelGround, Actual}
use Rattle.command.specs.declared.instruction.Instruction.TheVariants.{RecordOutside}
use Rattle.command.specs.declared.instruction.Swap as swap
use Rattle.command.specs.declared.refusal.Refusal.{Refusal}
use Rattle.command.specs.declared.refusal.Refusal.TheVariants.{NoSuchCrew, CrewExists}
use Rattle.command.specs.declared.refusal.Refusal.TheVariants.{NoSuchPairing, PairingExists}
use Rattle.command.specs.declared.refusal.Refusal.TheVariants.{SeatTaken, WrongSeat, NotAssigned}
use Rattle.command.specs.declared.refusal.Refusal.TheVariants.{PairingCrewed, Flown, Overlap}
use Rattle.command.specs.declared.refusal.Refusal.TheVariants.{Limits, NoSuchDuty, GroundExists}
use Rattle.command.specs.declared.refusal.Refusal.TheVariants.{NoSuchGround, SegmentCount}
use Rattle.command.specs.declared.refusal.Refusal.TheVariants.{NoSuchBase, BaseExists, OutsideTaken}
use Rattle.roster.specs.Pairings.{holder, is_held_by, is_flown, is_crewed, is_fully_crewed}
use Rattle.roster.specs.Places.{duties, no_place, the_pairing, others, periods_at, ground_at}
use Rattle.roster.specs.State.{State, zone_of}

-- ---- Facts

-- a base has this id
abbrev pub is_base : State → List ℕ → Bool
is_base s id = fin.contains_key s.bases id

-- a member has this id
abbrev pub is_member : State → List ℕ → Bool
is_member s who = fin.contains_key s.crew who

-- a pairing has this id
abbrev pub is_pairing : State → List ℕ → Bool
is_pairing s id = fin.contains_key s.pairings id

-- a ground duty has this id
abbrev pub is_ground : State → List ℕ → Bool
is_ground s id = fin.contains_key s.grounds id

-- an outside period of another member has this id
abbrev pub is_taken_from : State → List ℕ → List ℕ → Bool
is_taken_from s who id =
    option_map_or (λ o. not (bytes_eq o.crew who)) (fin.get s.outsides id) false

-- both members are there, and they take seats of different kinds
abbrev pub are_of_two_kinds : State → List ℕ → List ℕ → Bool
are_of_two_kinds s who other =
    option_map_or
    (λ m. option_map_or (λ n. not (seats.eq m.seat n.seat)) (fin.get s.crew other) false)
    (fin.get s.crew who) false

-- the member who holds the seat of the pairing that is of this member's kind
abbrev pub holder_of_own_seat : State → List ℕ → List ℕ → Option (List ℕ)
holder_of_own_seat s id who =
    option_and_then (λ r. option_and_then (λ m. holder m.seat r) (fin.get s.crew who))
    (fin.get s.pairings id)

-- the member holds the seat of the pairing that is of the member's kind: in a sound state, the
-- member holds the pairing
abbrev pub is_assigned : State → List ℕ → List ℕ → Bool
is_assigned s id who = is_held_by who (holder_of_own_seat s id who)

-- a seat of the pairing is held
abbrev pub has_holder : State → List ℕ → Bool
has_holder s id = option_map_or is_crewed (fin.get s.pairings id) false

-- a seat of the pairing is free
abbrev pub has_free_seat : State → List ℕ → Bool
has_free_seat s id = option_map_or (λ r. not (is_fully_crewed r)) (fin.get s.pairings id) false

-- a period of the pairing is flown
abbrev pub has_flown : State → List ℕ → Bool
has_flown s id = option_map_or is_flown (fin.get s.pairings id) false

-- a period of the pairing as it is planned, by its number from 1
abbrev pub planned : State → List ℕ → ℕ → Option Fdp
planned s id number =
    option_and_then (λ r. slice_get r.plan.periods (number - 1)) (fin.get s.pairings id)

-- the actual has more or fewer segments than its period
abbrev pub is_miscounted : State → List ℕ → ActualTimes → Bool
is_miscounted s id a =
    option_map_or (λ fdp. not (length fdp.segments == length a.segments))
    (planned s id a.period) false

-- the duties in force that a pairing gives a member, placed in the member's zone
abbrev pub duties_of : State → List ℕ → List ℕ → List DutyInForce
duties_of s who id =
    option_map_or (λ r. duties (periods_at (zone_of s who) (id, r))) (fin.get s.pairings id) []

-- The limits that a member's new duties break, after the member's others: the sections whose rule
-- the new duties break, in order. The law `broken_by_is_rules` says so; of `Broken` itself the law
-- `broken_is_rules` of `limits` says so (Meaning.antt there).
unfoldable pub broken_by : List ℕ → List DutyInForce → List DutyInForce → List Exceedance
broken_by who others new =
    map (λ section. record { crew = who; section = section }) (Broken (others ++ new) new)

-- ---- The refusals of each instruction

-- a refusal, and whether it applies
abbrev pub RefusalRow : Type 0
RefusalRow = Refusal × Bool

-- the refusal for limits (12), which applies if some limit is broken
abbrev pub over_limits : List Exceedance → RefusalRow
over_limits broken = (Limits broken, nat_lt 0 (length broken))

-- The refusals of a swap for overlap and limits, by the duties that each pairing gives the member
-- who takes it. Each member loses the own pairing, and the duties of the other's pairing are new.
abbrev pub trade_rows : State → swap.Swap → List DutyInForce → List DutyInForce → List RefusalRow
trade_rows s w given taken =
    let rest = others s w.crew (the_pairing w.pairing) in
    let other_rest = others s w.other_crew (the_pairing w.other_pairing) in
    (Overlap, overlaps taken rest || overlaps given other_rest)
    ∷ over_limits (broken_by w.crew rest taken ++ broken_by w.other_crew other_rest given)
    ∷ []

-- the refusals of an instruction in the order of their numbers, each with whether it applies
unfoldable pub refusals : State → Instruction → List RefusalRow
refusals s (AddBase id zone) = (BaseExists, is_base s id) ∷ []
refusals s (AddCrew who member) =
    (CrewExists, is_member s who) ∷ (NoSuchBase, not (is_base s member.base)) ∷ []
refusals s (AddPairing plan) = (PairingExists, is_pairing s plan.id) ∷ []
refusals s (CancelPairing id) =
    (NoSuchPairing, not (is_pairing s id)) ∷ (PairingCrewed, has_holder s id) ∷ []
refusals s (Assign id who) =
    (NoSuchCrew, not (is_member s who))
    ∷ (NoSuchPairing, not (is_pairing s id))
    ∷ (SeatTaken, is_some (holder_of_own_seat s id who))
    ∷ (Overlap, overlaps (duties_of s who id) (others s who no_place))
    ∷ over_limits (broken_by who (others s who no_place) (duties_of s who id))
    ∷ []
refusals s (Release id who) =
    (NoSuchCrew, not (is_member s who))
    ∷ (NoSuchPairing, not (is_pairing s id))
    ∷ (NotAssigned, not (is_assigned s id who))
    ∷ (Flown, has_flown s id)
    ∷ []
refusals s (Swap w) =
    (NoSuchCrew, not (is_member s w.crew && is_member s w.other_crew))
    ∷ (NoSuchPairing, not (is_pairing s w.pairing && is_pairing s w.other_pairing))
    ∷ (WrongSeat, are_of_two_kinds s w.crew w.other_crew)
    ∷ (
      NotAssigned,
      not (is_assigned s w.pairing w.crew && is_assigned s w.other_pairing w.other_crew),
    )
    ∷ (Flown, has_flown s w.pairing || has_flown s w.other_pairing)
    ∷ trade_rows s w (duties_of s w.other_crew w.pairing) (duties_of s w.crew w.other_pairing)
refusals s (AddGround g) =
    let new = (ground_at (g.id, g)).1 ∷ [] in
    (NoSuchCrew, not (is_member s g.crew))
    ∷ (Overlap, overlaps new (others s g.crew no_place))
    ∷ over_limits (broken_by g.crew (others s g.crew no_place) new)
    ∷ (GroundExists, is_ground s g.id)
    ∷ []
refusals s (CancelGround id) = (NoSuchGround, not (is_ground s id)) ∷ []
refusals s (Actual id a) =
    (NoSuchPairing, not (is_pairing s id))
    ∷ (NotAssigned, has_free_seat s id)
    ∷ (NoSuchDuty, is_none (planned s id a.period))
    ∷ (SegmentCount a.period, is_miscounted s id a)
    ∷ []
refusals s (RecordOutside who o) =
    (NoSuchCrew, not (is_member s who)) ∷ (OutsideTaken, is_taken_from s who o.id) ∷ []

-- the first refusal of a list that applies
abbrev pub first_of : List RefusalRow → Option Refusal
first_of rows = option_map (λ row. row.0) (find (λ row. row.1) rows)

-- the first refusal of an instruction that applies
abbrev pub refusal_of : State → Instruction → Option Refusal
refusal_of s instruction = first_of (refusals s instruction)
