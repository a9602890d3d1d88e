-- One step: the verdict on a command in a state, and the state that the command leaves.
use Rattle.std.specs.Prelude.{◌≡◌, ℕ, ◌-◌, List, [], ◌∷◌, ◌++◌, Option, Some, None, if◌then◌else◌}
use Rattle.std.specs.Prelude.{slice_set}
use Rattle.std.specs.FinMap as fin
use Rattle.std.specs.List.{fold}
use Rattle.std.specs.Option.{option_map_or}
use Rattle.values.specs.Name.{name_cmp, changed_at}
use Rattle.duty.specs.DutiesInForce.{in_force}
use Rattle.duty.specs.Plans.{ActualTimes, flown_at}
use Rattle.duty.specs.declared.duty_in_force.DutyInForce.{DutyInForce}
use Rattle.duty.specs.declared.placed_duty.Duty.TheVariants as duty
use Rattle.command.specs.Keys.{KeyParts, key_name}
use Rattle.command.specs.contracts.instruction.CommandPartialEq.TheImpl.{ghosts as commands}
use Rattle.command.specs.declared.exceedance.Exceedance.{Exceedance}
use Rattle.command.specs.declared.instruction.Instruction.{Instruction}
use Rattle.command.specs.declared.instruction.Instruction.TheVariants.{AddBase, AddCrew, AddPairing}
use Rattle.command.specs.declared.instruction.Instruction.TheVariants.{CancelPairing, Assign}
use Rattle.command.specs.declared.instruction.Instruction.TheVariants.{Release, Swap, AddGround}
use Rattle.command.specs.declared.instruction.Instruction.TheVariants.{CancelGround, Actual}
use Rattle.command.specs.declared.instruction.Instruction.TheVariants.{RecordOutside}
use Rattle.command.specs.declared.refusal.Refusal.{Refusal}
use Rattle.command.specs.declared.refusal.Refusal.TheVariants.{NumberUsed}
use Rattle.roster.specs.Pairings.{unheld, with_holder}
use Rattle.roster.specs.Places.{others, outside_duty, the_outside, the_period}
use Rattle.roster.specs.Refusals.{planned, broken_by, refusal_of}
use Rattle.roster.specs.State.{State, zone_of, exceedance_name}
use Rattle.roster.specs.declared.change.Change.{Change}
use Rattle.roster.specs.declared.change.SeatChange.{SeatChange}
use Rattle.roster.specs.declared.change.Verdict.{Verdict}
use Rattle.roster.specs.declared.change.Verdict.TheVariants.{Repeat, Accept, Refuse}
use Rattle.roster.specs.declared.state.DutyId.{DutyId}
use Rattle.roster.specs.declared.state.DutyId.TheVariants as duty_id
use Rattle.roster.specs.declared.state.LoggedCommand.{LoggedCommand}
use Rattle.roster.specs.declared.state.PairingEntry.{PairingEntry}

-- ---- Seats

-- the change by which the seat of the member's kind in the pairing gets this holder, or is freed
abbrev pub seat_change : State → List ℕ → List ℕ → Option (List ℕ) → List SeatChange
seat_change s id who new =
    option_map_or (λ m. record { pairing = id; seat = m.seat; holder = new } ∷ [])
    (fin.get s.crew who) []

-- the seats that get or lose a holder by an instruction
abbrev pub seats_of : State → Instruction → List SeatChange
seats_of s (Assign id who) = seat_change s id who (Some who)
seats_of s (Release id who) = seat_change s id who None
seats_of s (Swap w) =
    seat_change s w.pairing w.crew (Some w.other_crew)
    ++ seat_change s w.other_pairing w.other_crew (Some w.crew)
seats_of s instruction = []

-- ---- Exceedances

-- the period with the times of an actual, as a new duty of a member
abbrev pub flown_duty : State → List ℕ → List ℕ → ActualTimes → List DutyInForce
flown_duty s who id a =
    option_map_or (λ fdp. in_force (zone_of s who) (duty.Fdp (flown_at fdp a)) ∷ [])
    (planned s id a.period) []

-- the exceedances of a holder of the pairing by the times of an actual: the law
-- `broken_by_is_rules` says which limits are listed
abbrev pub broken_by_holder : State → List ℕ → ActualTimes → Option (List ℕ) → List Exceedance
broken_by_holder s id a holder =
    option_map_or
    (λ who. broken_by who (others s who (the_period id a.period)) (flown_duty s who id a))
    holder []

-- the exceedances that an instruction records: an actual's, the captain's first, and an outside
-- period's; no other instruction records any
unfoldable pub recorded_by : State → Instruction → List Exceedance
recorded_by s (Actual id a) =
    option_map_or
    (λ r. broken_by_holder s id a r.captain ++ broken_by_holder s id a r.first_officer)
    (fin.get s.pairings id) []
recorded_by s (RecordOutside who o) =
    broken_by who (others s who (the_outside o.id)) (outside_duty o ∷ [])
recorded_by s instruction = []

-- ---- The answer

-- what an accepted instruction changes: its key, the command with its reply, and the seats
abbrev pub change_of : State → KeyParts → Instruction → Change
change_of s key instruction = record {
  key = key;
  command = instruction;
  reply = record { exceedances = recorded_by s instruction };
  seats = seats_of s instruction;
}

-- the verdict under a free key: the instruction is refused if a refusal applies, else accepted
abbrev pub judged : State → KeyParts → Instruction → Option Refusal → Verdict
judged s key instruction (Some refusal) = Refuse refusal
judged s key instruction None =
    Accept (change_of s key instruction) (record { exceedances = recorded_by s instruction })

-- the verdict by what the key holds: the command that the key holds is repeated, and no other
-- command takes a key that is held
abbrev pub answered : State → KeyParts → Instruction → Option LoggedCommand → Verdict
answered s key instruction (Some kept) =
    if commands.eq kept.command instruction then Repeat kept.reply else Refuse NumberUsed
answered s key instruction None = judged s key instruction (refusal_of s instruction)

-- the verdict on an instruction that is asked under a key
unfoldable pub step_of : State → KeyParts → Instruction → Verdict
step_of s key instruction = answered s key instruction (fin.get s.requests (key_name key))

-- the verdict accepts no command under a key that is held
abbrev pub IsUnderFreeKey : State → Verdict → Type 0
IsUnderFreeKey s (Accept change reply) = fin.get s.requests (key_name change.key) ≡ None
IsUnderFreeKey s verdict = Unit {0}

-- ---- The next state

-- the pairings after one seat got its new holder, or was freed
abbrev pub reseated :
    fin.FinMap name_cmp PairingEntry → SeatChange → fin.FinMap name_cmp PairingEntry
reseated pairings seat = changed_at pairings seat.pairing (with_holder seat.seat seat.holder)

-- the pairing with this actual of a period, in the place of any earlier one
abbrev pub with_actual : ActualTimes → PairingEntry → PairingEntry
with_actual a r = record r { actuals = slice_set r.actuals (a.period - 1) (Some a) }

-- the exceedances with one more exceedance, which names this duty
abbrev pub recorded :
    KeyParts → DutyId → fin.FinMap name_cmp DutyId → Exceedance → fin.FinMap name_cmp DutyId
recorded key named records e = fin.insert records (exceedance_name key e.crew e.section) named

-- the state that an accepted instruction leaves, before its key holds the instruction
abbrev pub effect : State → Change → Instruction → State
effect s change (AddBase id zone) = record s { bases = fin.insert s.bases id zone }
effect s change (AddCrew who member) = record s { crew = fin.insert s.crew who member }
effect s change (AddPairing plan) =
    record s { pairings = fin.insert s.pairings plan.id (unheld plan) }
effect s change (CancelPairing id) = record s { pairings = fin.remove s.pairings id }
effect s change (Assign id who) = record s { pairings = fold reseated s.pairings change.seats }
effect s change (Release id who) = record s { pairings = fold reseated s.pairings change.seats }
effect s change (Swap w) = record s { pairings = fold reseated s.pairings change.seats }
effect s change (AddGround g) = record s { grounds = fin.insert s.grounds g.id g }
effect s change (CancelGround id) = record s { grounds = fin.remove s.grounds id }
effect s change (Actual id a) = record s {
  pairings = changed_at s.pairings id (with_actual a);
  exceedances =
      fold (recorded change.key (duty_id.Period (record { pairing = id; number = a.period })))
      s.exceedances change.reply.exceedances;
}
effect s change (RecordOutside who o) = record s {
  outsides = fin.insert s.outsides o.id (record { crew = who; period = o });
  exceedances =
      fold (recorded change.key (duty_id.Outside o.id)) s.exceedances change.reply.exceedances;
}

-- the state in which the key of a change holds its command with its reply
abbrev pub kept : State → Change → State
kept s change = record s {
  requests =
      fin.insert s.requests (key_name change.key)
      (record { command = change.command; reply = change.reply });
}

-- the state that an accepted command leaves: with the command's effect, and with its key holding
-- the command
unfoldable pub after : State → Change → State
after s change = kept (effect s change change.command) change
