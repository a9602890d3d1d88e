-- Why a gathering fails, of calls in turn.
use Rattle.std.proofs.Common.{inl, inr, Result, Ok, Err, IfErr, OnOk}
use Rattle.part.specs.Sources.{IsCauseOfGathering}

module _ {X F M : Type 0} (fails : X → X → F → Type 0) (made : M → F → Type 0) (stays : X → X → Type 0)
    (then : (x y z : X) (fault : F) → stays x y → stays y z → fails y z fault → fails x z fault) where
  -- after a call that left the source as it was
  pub caused_then : (x y z : X) (fault : F) → stays x y → stays y z → IsCauseOfGathering fails made y z fault → IsCauseOfGathering fails made x z fault
  caused_then x y z fault p q (inl failed) = inl (then x y z fault p q failed)
  caused_then x y z fault p q (inr none) = inr none

  -- as the answer of a whole function
  pub answers_caused : {A : Type 0} (x y z : X) (result : Result A F) → stays x y → stays y z → IfErr result (IsCauseOfGathering fails made y z) → IfErr result (IsCauseOfGathering fails made x z)
  answers_caused x y z (Ok a) p q caused = tt
  answers_caused x y z (Err fault) p q caused = caused_then x y z fault p q caused

pub ok_as : {A F P Q : Type 0} (result : Result A F) → OnOk result P → (P → Q) → OnOk result Q
ok_as (Ok a) told other = other told
ok_as (Err fault) told other = tt
