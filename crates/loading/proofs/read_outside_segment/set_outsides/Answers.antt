use Rattle.std.proofs.Common.{rules, ◌≡◌, refl, inl, inr, Err}
use Rattle.loading.specs.OutsideTables.{AreOutsidesSet, AreOutsidesUnset}
use Rattle.entries.specs.OutsideRows.{AreOutsideSegmentsWanting, HasUnmade}
use Rattle.entries.specs.declared.fault.TableName.TheVariants as table_name
use Rattle.entries.proofs.PlanLemmas.{passed_on}
use Rattle.loading.proofs.read_outside_segment.set_outsides.Goals as goal

pub returns-in_err-segments : goal.returns-in_err-segments
returns-in_err-segments c =
    let m = c.args.outsides.now in
    let records = c.args.records.now in
    let fault = c.in_err-segments.field-0.0 in
    let is : c.from_residual.result ≡ Err fault = search rules in
    passed_on (λ _. AreOutsidesSet m records c.args.roster.now c.args.roster.now) table_name.OutsideSegment (AreOutsideSegmentsWanting m records) (AreOutsidesUnset m records) c.from_residual.result fault is (λ why. inl why) c.in_err-segments.ensures

pub returns-in_err-made : goal.returns-in_err-made
returns-in_err-made c =
    let m = c.args.outsides.now in
    let records = c.args.records.now in
    let segments = c.in_ok-segments.segments in
    let fault = c.in_err-made.field-0.0 in
    let is : c.from_residual-in_err-made.result ≡ Err fault = search rules in
    passed_on (λ _. AreOutsidesSet m records c.args.roster.now c.args.roster.now) table_name.OutsideSegment (HasUnmade m segments) (AreOutsidesUnset m records) c.from_residual-in_err-made.result fault is
    (λ why. inr (segments, c.in_ok-segments.ensures, why)) c.in_err-made.ensures

pub returns : goal.returns
returns c = record { same = refl; segments = c.in_ok-segments.segments; whole = c.in_ok-segments.ensures; made = c.in_ok-made.ensures }
