-- Segments and the times that they are made of.
use Rattle.std.proofs.Common.{◌≡◌, ℕ, suc, ◌+◌, ◌-◌, ◌*◌, ◌<◌, ◌≤◌, List, [], ◌∷◌, ◌++◌, length, get_or, drop, refl, ap, sym, ◌∙◌, arith, append_assoc, append-nil, true}
use Rattle.std.proofs.lemmas.Bool.Decides.{nat_tests}
use Rattle.std.proofs.lemmas.List.{length-map}
use Rattle.std.proofs.Math.Seq.{drop-cons}
use Rattle.std.proofs.Common.{length-drop}
use Rattle.duty.specs.DutiesInForce.{fdp_times}
use Rattle.duty.specs.declared.segment.Segment.{Segment}
use Rattle.period_verdict.specs.FlightDuty.{segments_of, timed_segment, fdp_of, is_block_time_count}

-- a time that is left over makes no segment
segments_of-short : (times : List ℕ) → length times ≤ 1 → segments_of times ≡ []
segments_of-short [] h = refl
segments_of-short (a ∷ []) h = refl
segments_of-short (a ∷ b ∷ rest) h = absurd (omega arith)

pub segments_of-rest : (segments : List Segment) (times : List ℕ) (i : ℕ) → length times ≤ 2 * i + 1 → segments ++ segments_of (drop (2 * i) times) ≡ segments_of times → segments ≡ segments_of times
segments_of-rest segments times i h e =
    let short : length (drop (2 * i) times) ≤ 1 = simp length-drop (omega arith) in
    let none : segments_of (drop (2 * i) times) ≡ [] = segments_of-short (drop (2 * i) times) short in
    let same : segments ++ segments_of (drop (2 * i) times) ≡ segments = rw none (append-nil segments) in
    sym same ∙ e

-- the next two times make the next segment
pub segments_of-next : (segments : List Segment) (times : List ℕ) (i a b : ℕ) → 2 * i + 1 < length times → a ≡ get_or times (2 * i) a → b ≡ get_or times (2 * i + 1) b → segments ++ segments_of (drop (2 * i) times) ≡ segments_of times → (segments ++ timed_segment a b ∷ []) ++ segments_of (drop (2 * (i + 1)) times) ≡ segments_of times
segments_of-next segments times i a b h ea eb e =
    let first : drop (2 * i) times ≡ get_or times (2 * i) a ∷ drop (suc (2 * i)) times = drop-cons times (2 * i) a (omega arith) in
    let second : drop (suc (2 * i)) times ≡ get_or times (suc (2 * i)) b ∷ drop (suc (suc (2 * i))) times = drop-cons times (suc (2 * i)) b (omega arith) in
    let one : suc (2 * i) ≡ 2 * i + 1 = omega arith in
    let two : suc (suc (2 * i)) ≡ 2 * (i + 1) = omega arith in
    let pair : drop (2 * i) times ≡ a ∷ b ∷ drop (2 * (i + 1)) times = cc in
    let made : segments_of (drop (2 * i) times) ≡ timed_segment a b ∷ segments_of (drop (2 * (i + 1)) times) = ap segments_of pair in
    let moved : (segments ++ timed_segment a b ∷ []) ++ segments_of (drop (2 * (i + 1)) times) ≡ segments ++ (timed_segment a b ∷ segments_of (drop (2 * (i + 1)) times)) = append_assoc segments _ _ in
    moved ∙ sym (ap (λ rest. segments ++ rest) made) ∙ e

-- half as many segments as times
pub length-segments_of : (times : List ℕ) → 2 * length (segments_of times) ≤ length times
length-segments_of [] = omega arith
length-segments_of (a ∷ []) = omega arith
length-segments_of (a ∷ b ∷ rest) =
    let less : 2 * length (segments_of rest) ≤ length rest = length-segments_of rest in omega arith

-- a period of this many times has at most 12 segments
pub length-fdp_of : (zone : List ℕ) (report : ℕ) (times : List ℕ) → is_block_time_count (length times) ≡ true → length (fdp_times zone (fdp_of report times)).segments ≤ 12
length-fdp_of zone report times h =
    let most : length times ≤ 24 = grind (arith, nat_tests) in
    let half : 2 * length (segments_of times) ≤ length times = length-segments_of times in
    simp length-map (omega arith)
