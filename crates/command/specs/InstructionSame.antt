-- That `==` of instructions is equality.
use Rattle.std.specs.Prelude.{◌≡◌, ◌↔◌, Bool, IsTrue}
use Rattle.std.proofs.Common.{ap}
use Rattle.std.proofs.lemmas.Slice.Eq.{bytes_eq-Decides}
use Rattle.values.specs.Same.{both_same}
use Rattle.duty.specs.contracts.pairing.PairingLawfulEq.TheImpl.Laws.{exact-law as pairing_law}
use Rattle.duty.specs.contracts.ground_duty.GroundLawfulEq.TheImpl.Laws.{exact-law as ground_law}
use Rattle.duty.specs.contracts.outside.OutsideLawfulEq.TheImpl.Laws.{exact-law as outside_law}
use Rattle.duty.specs.contracts.actual.ActualLawfulEq.TheImpl.Laws.{exact-law as actual_law}
use Rattle.command.specs.contracts.member.MemberLawfulEq.TheImpl.Laws.{exact-law as member_law}
use Rattle.command.specs.contracts.instruction.SwapLawfulEq.TheImpl.Laws.{exact-law as swap_law}
use Rattle.command.specs.contracts.instruction.InstructionPartialEq.TheImpl.{ghosts}
use Rattle.command.specs.declared.instruction.Instruction.{Instruction}
use Rattle.command.specs.declared.instruction.Instruction.TheVariants.{AddBase, AddCrew, AddPairing}
use Rattle.command.specs.declared.instruction.Instruction.TheVariants.{CancelPairing, Assign}
use Rattle.command.specs.declared.instruction.Instruction.TheVariants.{Release, Swap, AddGround}
use Rattle.command.specs.declared.instruction.Instruction.TheVariants.{CancelGround, Actual}
use Rattle.command.specs.declared.instruction.Instruction.TheVariants.{RecordOutside}

-- `==` of two values of a variant is exact, if `==` of their parts is exact and equal values have
-- equal parts.
made_same : {A D : Type 0} (make : A → D) (a b : A) → (make a ≡ make b → a ≡ b) →
    (x : Bool) → (IsTrue x ↔ (a ≡ b)) → IsTrue x ↔ (make a ≡ make b)
made_same make a b parts x same = (λ e. ap make (same.0 e), λ e. same.1 (parts e))

-- `==` of instructions is equality
pub instruction_same : (a b : Instruction) → IsTrue (ghosts.eq a b) ↔ (a ≡ b)
instruction_same (AddBase a y) (AddBase b z) =
    made_same (λ p. AddBase p.0 p.1) (a, y) (b, z) (λ e. cc) _
    (both_same _ _ (bytes_eq-Decides a b) (bytes_eq-Decides y z))
instruction_same (AddCrew a m) (AddCrew b n) =
    made_same (λ p. AddCrew p.0 p.1) (a, m) (b, n) (λ e. cc) _
    (both_same _ _ (bytes_eq-Decides a b) (member_law m n))
instruction_same (AddPairing p) (AddPairing q) =
    made_same AddPairing p q (λ e. cc) _ (pairing_law p q)
instruction_same (CancelPairing p) (CancelPairing q) =
    made_same CancelPairing p q (λ e. cc) _ (bytes_eq-Decides p q)
instruction_same (Assign p a) (Assign q b) =
    made_same (λ p. Assign p.0 p.1) (p, a) (q, b) (λ e. cc) _
    (both_same _ _ (bytes_eq-Decides p q) (bytes_eq-Decides a b))
instruction_same (Release p a) (Release q b) =
    made_same (λ p. Release p.0 p.1) (p, a) (q, b) (λ e. cc) _
    (both_same _ _ (bytes_eq-Decides p q) (bytes_eq-Decides a b))
instruction_same (Swap p) (Swap q) = made_same Swap p q (λ e. cc) _ (swap_law p q)
instruction_same (AddGround g) (AddGround h) = made_same AddGround g h (λ e. cc) _ (ground_law g h)
instruction_same (CancelGround p) (CancelGround q) =
    made_same CancelGround p q (λ e. cc) _ (bytes_eq-Decides p q)
instruction_same (Actual p a) (Actual q b) =
    made_same (λ p. Actual p.0 p.1) (p, a) (q, b) (λ e. cc) _
    (both_same _ _ (bytes_eq-Decides p q) (actual_law a b))
instruction_same (RecordOutside a o) (RecordOutside b p) =
    made_same (λ p. RecordOutside p.0 p.1) (a, o) (b, p) (λ e. cc) _
    (both_same _ _ (bytes_eq-Decides a b) (outside_law o p))
instruction_same a b = (λ e. cc, λ e. cc)
