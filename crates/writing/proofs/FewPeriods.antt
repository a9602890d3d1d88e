-- What a pairing, an actual and an outside period count, where their rows are written.
use Rattle.std.proofs.Common.{◌≡◌, ◌≤◌, List, [], ◌∷◌, length, Option, Some, None}
use Rattle.duty.specs.Pairings.{pairing_fault, outside_fault, actual_fault, is_segment_count, is_in_order}
use Rattle.duty.specs.Plans.{Plan, ActualTimes, OutsidePlan}
use Rattle.duty.specs.Shape.{is_id}
use Rattle.duty.specs.Words.{first_fault, unless}
use Rattle.duty.specs.declared.fault.DutyFault.{DutyFault}
use Rattle.duty.specs.declared.fault.DutyFault.TheVariants.{BadTimes, BadField, SegmentCount}
use Rattle.duty.specs.declared.fault.Field.TheVariants as field
use Rattle.state_rows.proofs.FewPeriods as loading
use Rattle.state_rows.specs.Counts.{HaveFewSegments}

pub few_periods : (p : Plan) → pairing_fault p ≡ None → length p.periods ≤ 10
few_periods = loading.few_periods

pub few_segments : (p : Plan) → pairing_fault p ≡ None → HaveFewSegments p.periods
few_segments = loading.few_segments

pub few_flown : (a : ActualTimes) → actual_fault a ≡ None → length a.segments ≤ 12
few_flown = loading.few_flown

no_later : (fault : Option DutyFault) (rest : List (Option DutyFault)) → first_fault (fault ∷ rest) ≡ None → first_fault rest ≡ None
no_later None rest e = e
no_later (Some fault) rest e = absurd (cc)

-- the times of an outside period have the shape of an actual's
timed : (o : OutsidePlan) → outside_fault o ≡ None → actual_fault (record { period = 0; report = o.report; release = o.release; segments = o.segments }) ≡ None
unfolding outside_fault actual_fault
timed o e =
    no_later (unless (is_id o.id) (BadField field.Outside))
    (unless (is_segment_count (length o.segments)) (SegmentCount 0) ∷ unless (is_in_order o.report o.release o.segments) (BadTimes 0) ∷ []) e

pub few_outside : (o : OutsidePlan) → outside_fault o ≡ None → length o.segments ≤ 12
few_outside o e = few_flown (record { period = 0; report = o.report; release = o.release; segments = o.segments }) (timed o e)
