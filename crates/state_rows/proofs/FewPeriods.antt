-- A pairing has at most ten periods, and each of them at most twelve segments; so has an actual.
use Rattle.std.proofs.Common.{◌≡◌, ◌≤◌, inl, inr, refl, sym, ap, ◌∙◌, ℕ, zero, suc, ◌+◌, Bool, true, false, not, nat_le, List, [], ◌∷◌, length, Option, Some, None, slice_get, option_map}
use Rattle.std.specs.List.{list_all, position_from}
use Rattle.std.proofs.lemmas.Bool.{and_parts, cases_Bool, leb-true}
use Rattle.duty.specs.Pairings.{pairing_fault, count_fault, times_fault, chain_fault, actual_fault, are_shaped, is_segment_count, is_in_order}
use Rattle.duty.specs.Shape.{is_within, is_id}
use Rattle.duty.specs.Plans.{Plan, ActualTimes}
use Rattle.duty.specs.Words.{first_fault, first_failing, unless}
use Rattle.duty.specs.declared.fault.DutyFault.{DutyFault}
use Rattle.duty.specs.declared.fault.DutyFault.TheVariants.{BadTimes, BadField, SegmentCount}
use Rattle.duty.specs.declared.fault.Field.TheVariants as field
use Rattle.duty.specs.declared.fdp.Fdp.{Fdp}
use Rattle.state_rows.specs.Counts.{HaveFewSegments}
use Rattle.state_rows.proofs.Lists.{some_same}

no_first : (fault : Option DutyFault) (rest : List (Option DutyFault)) → first_fault (fault ∷ rest) ≡ None → (fault ≡ None) × (first_fault rest ≡ None)
no_first None rest e = (refl, e)
no_first (Some fault) rest e = absurd (cc)

passes : (b : Bool) (fault : DutyFault) → unless b fault ≡ None → b ≡ true
passes true fault e = refl
passes false fault e = absurd (cc)

none_of : {A B : Type 0} (f : A → B) (o : Option A) → option_map f o ≡ None → o ≡ None
none_of f None e = refl
none_of f (Some a) e = absurd (cc)

first_or_later : (test : Fdp → Bool) (f : Fdp) (fdps : List Fdp) (from : ℕ) → test f ≡ true → ((place : ℕ) (fdp : Fdp) → slice_get fdps place ≡ Some fdp → test fdp ≡ true) →
    (place : ℕ) (fdp : Fdp) → slice_get (f ∷ fdps) place ≡ Some fdp → test fdp ≡ true
first_or_later test f fdps from passed rest zero fdp at = ap test (some_same (sym at)) ∙ passed
first_or_later test f fdps from passed rest (suc place) fdp at = rest place fdp at

each_passes : (test : Fdp → Bool) (fdps : List Fdp) (from : ℕ) → position_from (λ f. not (test f)) from fdps ≡ None → (place : ℕ) (fdp : Fdp) → slice_get fdps place ≡ Some fdp → test fdp ≡ true
each_passes test [] from e place fdp at = absurd (cc)
each_passes test (f ∷ fdps) from e place fdp at = elim (cases_Bool (test f)) [
  | inl passed ↦ first_or_later test f fdps from passed (each_passes test fdps (from + 1) (rw passed at e)) place fdp at
  | inr failed ↦ absurd (let no = rw failed at e in cc)
]

counted : (p : Plan) → pairing_fault p ≡ None → count_fault p.periods ≡ None
unfolding pairing_fault
counted p e =
    let shaped = (no_first (unless (is_id p.id) (BadField field.Pairing)) (unless (list_all are_shaped p.periods) (BadField field.Periods) ∷ count_fault p.periods ∷ times_fault p.periods ∷ chain_fault p.periods ∷ []) e).1 in
    let all = (no_first (unless (list_all are_shaped p.periods) (BadField field.Periods)) (count_fault p.periods ∷ times_fault p.periods ∷ chain_fault p.periods ∷ []) shaped).1 in
    (no_first (count_fault p.periods) (times_fault p.periods ∷ chain_fault p.periods ∷ []) all).0

pub all_shaped : (p : Plan) → pairing_fault p ≡ None → list_all are_shaped p.periods ≡ true
unfolding pairing_fault
all_shaped p e =
    let rest = (no_first (unless (is_id p.id) (BadField field.Pairing)) (unless (list_all are_shaped p.periods) (BadField field.Periods) ∷ count_fault p.periods ∷ times_fault p.periods ∷ chain_fault p.periods ∷ []) e).1 in
    passes (list_all are_shaped p.periods) (BadField field.Periods)
    (no_first (unless (list_all are_shaped p.periods) (BadField field.Periods)) (count_fault p.periods ∷ times_fault p.periods ∷ chain_fault p.periods ∷ []) rest).0

abbrev is_short : Fdp → Bool
is_short f = is_segment_count (length f.segments)

counts : (periods : List Fdp) → count_fault periods ≡ None → (is_within 1 10 (length periods) ≡ true) × (first_failing is_short periods ≡ None)
unfolding count_fault
counts periods e =
    let it = no_first (unless (is_within 1 10 (length periods)) (SegmentCount 0)) (option_map SegmentCount (first_failing is_short periods) ∷ []) e in
    (passes _ _ it.0, none_of SegmentCount (first_failing is_short periods) (no_first (option_map SegmentCount (first_failing is_short periods)) [] it.1).0)

up_to : (low high n : ℕ) → is_within low high n ≡ true → n ≤ high
up_to low high n e = leb-true n high (and_parts (nat_le low n) (nat_le n high) e).1

pub few_periods : (p : Plan) → pairing_fault p ≡ None → length p.periods ≤ 10
few_periods p e = up_to 1 10 (length p.periods) (counts p.periods (counted p e)).0

pub few_segments : (p : Plan) → pairing_fault p ≡ None → HaveFewSegments p.periods
few_segments p e place fdp at = up_to 1 12 (length fdp.segments) (each_passes is_short p.periods 1 (counts p.periods (counted p e)).1 place fdp at)

pub few_flown : (a : ActualTimes) → actual_fault a ≡ None → length a.segments ≤ 12
unfolding actual_fault
few_flown a e = up_to 1 12 (length a.segments) (passes _ _ (no_first (unless (is_segment_count (length a.segments)) (SegmentCount a.period)) (unless (is_in_order a.report a.release a.segments) (BadTimes a.period) ∷ []) e).0)
