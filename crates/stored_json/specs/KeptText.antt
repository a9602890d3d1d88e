-- The kept text of a command: the compact JSON text of its members, the members of each object in
-- byte order of their names.
use Rattle.std.specs.Prelude.{ℕ, List, [], ◌∷◌, ◌++◌, map, codes, if◌then◌else◌}
use Rattle.std.specs.Str.{bytes_eq}
use Rattle.serde_json.specs.Data.{Data, number, unsigned, string}
use Rattle.serde_json.specs.Written.{compact_text}
use Rattle.duty.specs.Shape.{home}
use Rattle.duty.specs.declared.fdp.Fdp.{Fdp}
use Rattle.duty.specs.declared.segment.BlockTimes.{BlockTimes}
use Rattle.duty.specs.declared.segment.Segment.{Segment}
use Rattle.command.specs.Texts.{seat_text}
use Rattle.command.specs.declared.instruction.Instruction.{Instruction}
use Rattle.command.specs.declared.instruction.Instruction.TheVariants.{AddBase, AddCrew, AddPairing}
use Rattle.command.specs.declared.instruction.Instruction.TheVariants.{CancelPairing, Assign}
use Rattle.command.specs.declared.instruction.Instruction.TheVariants.{Release, Swap, AddGround}
use Rattle.command.specs.declared.instruction.Instruction.TheVariants.{CancelGround, Actual}
use Rattle.command.specs.declared.instruction.Instruction.TheVariants.{RecordOutside}
use Rattle.stored_json.specs.Values.{object_of, array_of, instant_json}

-- the object of a segment as it is planned
abbrev pub segment_json : Segment → Data
segment_json s = object_of ((codes "flight", string s.flight) ∷ (codes "from", string s.from)
    ∷ (codes "in", instant_json s.block_in) ∷ (codes "out", instant_json s.block_out)
    ∷ (codes "to", string s.to) ∷ [])

-- the object of the times of a segment as it was flown
abbrev pub times_json : BlockTimes → Data
times_json t =
    object_of ((codes "in", instant_json t.block_in) ∷ (codes "out", instant_json t.block_out) ∷ [])

-- the object of a period with its segments
abbrev pub period_json : Fdp → Data
period_json f =
    object_of ((codes "release", instant_json f.release) ∷ (codes "report", instant_json f.report)
    ∷ (codes "segments", array_of (map segment_json f.segments)) ∷ [])

-- the member `base`, which is left out if the base is HOME
abbrev pub base_member : List ℕ → List (List ℕ × Data)
base_member base = if bytes_eq base home then [] else (codes "base", string base) ∷ []

-- the object of an instruction: what the instruction asks under `do`, and the members of its kind
abbrev pub instruction_json : Instruction → Data
instruction_json (AddBase id zone) =
    object_of ((codes "base", string id) ∷ (codes "do", string (codes "add-base"))
    ∷ (codes "zone", string zone) ∷ [])
instruction_json (AddCrew id m) =
    object_of (base_member m.base ++ (codes "crew", string id)
    ∷ (codes "do", string (codes "add-crew"))
    ∷ (codes "name", string m.name) ∷ (codes "seat", string (seat_text m.seat)) ∷ [])
instruction_json (AddPairing p) =
    object_of ((codes "do", string (codes "add-pairing")) ∷ (codes "pairing", string p.id)
    ∷ (codes "periods", array_of (map period_json p.periods)) ∷ [])
instruction_json (CancelPairing id) =
    object_of ((codes "do", string (codes "cancel-pairing")) ∷ (codes "pairing", string id) ∷ [])
instruction_json (Assign id who) =
    object_of ((codes "crew", string who) ∷ (codes "do", string (codes "assign"))
    ∷ (codes "pairing", string id) ∷ [])
instruction_json (Release id who) =
    object_of ((codes "crew", string who) ∷ (codes "do", string (codes "release"))
    ∷ (codes "pairing", string id) ∷ [])
instruction_json (Swap w) =
    object_of ((codes "crew", string w.crew) ∷ (codes "do", string (codes "swap"))
    ∷ (codes "other_crew", string w.other_crew) ∷ (codes "other_pairing", string w.other_pairing)
    ∷ (codes "pairing", string w.pairing) ∷ [])
instruction_json (AddGround g) =
    object_of ((codes "begin", instant_json g.begin) ∷ (codes "crew", string g.crew)
    ∷ (codes "do", string (codes "add-ground")) ∷ (codes "end", instant_json g.end)
    ∷ (codes "ground", string g.id) ∷ (codes "task", string g.task) ∷ [])
instruction_json (CancelGround id) =
    object_of ((codes "do", string (codes "cancel-ground")) ∷ (codes "ground", string id) ∷ [])
instruction_json (Actual id a) =
    object_of ((codes "do", string (codes "actual")) ∷ (codes "pairing", string id)
    ∷ (codes "period", number (unsigned a.period)) ∷ (codes "release", instant_json a.release)
    ∷ (codes "report", instant_json a.report)
    ∷ (codes "segments", array_of (map times_json a.segments)) ∷ [])
instruction_json (RecordOutside who o) =
    object_of ((codes "crew", string who) ∷ (codes "do", string (codes "record-outside"))
    ∷ (codes "outside", string o.id) ∷ (codes "release", instant_json o.release)
    ∷ (codes "report", instant_json o.report)
    ∷ (codes "segments", array_of (map times_json o.segments)) ∷ [])

-- the kept text of an instruction: the compact text of its object
unfoldable pub kept_text : Instruction → List ℕ
kept_text instruction = compact_text (instruction_json instruction)
