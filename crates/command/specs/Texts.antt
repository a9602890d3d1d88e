-- Seats and refusals as they are printed.
use Rattle.std.specs.Prelude.{ℕ, List, ◌++◌, codes}
use Rattle.std.specs.Fmt.{decimal}
use Rattle.command.specs.declared.member.Seat.{Seat}
use Rattle.command.specs.declared.member.Seat.TheVariants.{Captain, FirstOfficer}
use Rattle.command.specs.declared.refusal.Refusal.{Refusal}
use Rattle.command.specs.declared.refusal.Refusal.TheVariants.{NumberUsed, NoSuchCrew, CrewExists}
use Rattle.command.specs.declared.refusal.Refusal.TheVariants.{NoSuchPairing, PairingExists}
use Rattle.command.specs.declared.refusal.Refusal.TheVariants.{SeatTaken, WrongSeat, NotAssigned}
use Rattle.command.specs.declared.refusal.Refusal.TheVariants.{PairingCrewed, Flown, Overlap}
use Rattle.command.specs.declared.refusal.Refusal.TheVariants.{Limits, NoSuchDuty, GroundExists}
use Rattle.command.specs.declared.refusal.Refusal.TheVariants.{NoSuchGround, SegmentCount}
use Rattle.command.specs.declared.refusal.Refusal.TheVariants.{NoSuchBase, BaseExists, OutsideTaken}

-- a seat as it is printed
abbrev pub seat_text : Seat → List ℕ
seat_text Captain = codes "captain"
seat_text FirstOfficer = codes "first officer"

-- the number of a refusal
abbrev pub refusal_number : Refusal → ℕ
refusal_number NumberUsed = 1
refusal_number NoSuchCrew = 2
refusal_number CrewExists = 3
refusal_number NoSuchPairing = 4
refusal_number PairingExists = 5
refusal_number SeatTaken = 6
refusal_number WrongSeat = 7
refusal_number NotAssigned = 8
refusal_number PairingCrewed = 9
refusal_number Flown = 10
refusal_number Overlap = 11
refusal_number (Limits _) = 12
refusal_number NoSuchDuty = 13
refusal_number GroundExists = 14
refusal_number NoSuchGround = 15
refusal_number (SegmentCount _) = 19
refusal_number NoSuchBase = 20
refusal_number BaseExists = 21
refusal_number OutsideTaken = 22

-- the name of a refusal
abbrev pub refusal_name : Refusal → List ℕ
refusal_name NumberUsed = codes "NumberUsed"
refusal_name NoSuchCrew = codes "NoSuchCrew"
refusal_name CrewExists = codes "CrewExists"
refusal_name NoSuchPairing = codes "NoSuchPairing"
refusal_name PairingExists = codes "PairingExists"
refusal_name SeatTaken = codes "SeatTaken"
refusal_name WrongSeat = codes "WrongSeat"
refusal_name NotAssigned = codes "NotAssigned"
refusal_name PairingCrewed = codes "PairingCrewed"
refusal_name Flown = codes "Flown"
refusal_name Overlap = codes "Overlap"
refusal_name (Limits _) = codes "Limits"
refusal_name NoSuchDuty = codes "NoSuchDuty"
refusal_name GroundExists = codes "GroundExists"
refusal_name NoSuchGround = codes "NoSuchGround"
refusal_name (SegmentCount _) = codes "SegmentCount"
refusal_name NoSuchBase = codes "NoSuchBase"
refusal_name BaseExists = codes "BaseExists"
refusal_name OutsideTaken = codes "OutsideTaken"

-- a refusal as it is printed: its number and name, and the period, if the refusal names one
abbrev pub refusal_text : Refusal → List ℕ
refusal_text (SegmentCount period) = codes "19 SegmentCount " ++ decimal period
refusal_text refusal = decimal (refusal_number refusal) ++ codes " " ++ refusal_name refusal
