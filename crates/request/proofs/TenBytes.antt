-- A text of ten bytes is its bytes in turn.
use Rattle.std.proofs.Common.{◌≡◌, ◌<◌, ◌≤◌, ℕ, List, [], ◌∷◌, length, slice_index_or, arith, refl}

pub ten : (t : List ℕ) → 10 ≤ length t → length t < 11
    → t ≡ slice_index_or t 0 0 ∷ slice_index_or t 1 0 ∷ slice_index_or t 2 0 ∷ slice_index_or t 3 0
    ∷ slice_index_or t 4 0 ∷ slice_index_or t 5 0 ∷ slice_index_or t 6 0 ∷ slice_index_or t 7 0
    ∷ slice_index_or t 8 0 ∷ slice_index_or t 9 0 ∷ []
ten [] low high = absurd (omega arith)
ten (a ∷ []) low high = absurd (omega arith)
ten (a ∷ b ∷ []) low high = absurd (omega arith)
ten (a ∷ b ∷ c ∷ []) low high = absurd (omega arith)
ten (a ∷ b ∷ c ∷ d ∷ []) low high = absurd (omega arith)
ten (a ∷ b ∷ c ∷ d ∷ e ∷ []) low high = absurd (omega arith)
ten (a ∷ b ∷ c ∷ d ∷ e ∷ f ∷ []) low high = absurd (omega arith)
ten (a ∷ b ∷ c ∷ d ∷ e ∷ f ∷ g ∷ []) low high = absurd (omega arith)
ten (a ∷ b ∷ c ∷ d ∷ e ∷ f ∷ g ∷ h ∷ []) low high = absurd (omega arith)
ten (a ∷ b ∷ c ∷ d ∷ e ∷ f ∷ g ∷ h ∷ i ∷ []) low high = absurd (omega arith)
ten (a ∷ b ∷ c ∷ d ∷ e ∷ f ∷ g ∷ h ∷ i ∷ j ∷ []) low high = refl
ten (a ∷ b ∷ c ∷ d ∷ e ∷ f ∷ g ∷ h ∷ i ∷ j ∷ k ∷ more) low high = absurd (omega arith)
