-- Subjects as contracts see them.
use Rattle.std.specs.Borrow.{Bor}
use Rattle.std.specs.Prelude.{String, ℕ, List, string_bytes, option_map}
use Rattle.std.specs.Global.{Global}
use Rattle.request.specs.declared.subject.Subject.{Subject}
use Rattle.request.specs.declared.subject.Subject.TheVariants.{Crew, Limits, Pairing, Exceedances}
use Rattle.request.specs.declared.subject.Subject.TheVariants.{Members, Pairings, Board}
use Rattle.request.specs.declared.subject.Subject.TheVariants.{Request}

-- a subject with other ids: what two functions make of the ids of a crew member and of a pairing
abbrev pub subject_map : {C P C' P' : Type 0} → (C → C') → (P → P') → Subject C P → Subject C' P'
subject_map crew pairing (Crew id) = Crew (crew id)
subject_map crew pairing (Limits id with) = Limits (crew id) (option_map pairing with)
subject_map crew pairing (Pairing id) = Pairing (pairing id)
subject_map crew pairing Exceedances = Exceedances
subject_map crew pairing Members = Members
subject_map crew pairing (Pairings which) = Pairings which
subject_map crew pairing (Board days) = Board days
subject_map crew pairing (Request number) = Request number

-- a subject whose ids are references, by what stands behind them
abbrev pub subject_copied : {C P : Type 0} → Subject (Bor C) (Bor P) → Subject C P
subject_copied subject = subject_map (λ id. id.now) (λ id. id.now) subject

-- a subject whose ids are strings, by their bytes
abbrev pub subject_bytes : Subject (String Global) (String Global) → Subject (List ℕ) (List ℕ)
subject_bytes subject = subject_map string_bytes string_bytes subject
