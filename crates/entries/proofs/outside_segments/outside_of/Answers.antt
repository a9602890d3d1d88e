use Rattle.std.proofs.Common.{rules, ◌≡◌, inl, subst, Err, MatchResult, List}
use Rattle.tables.specs.declared.outside_segment.OutsideSegmentRecord.{OutsideSegmentRecord}
use Rattle.entries.specs.OneOutside.{IsOutsideToldBy, GiveNoOutside}
use Rattle.entries.specs.OutsideRows.{HasTooMany, IsMadeFrom, SaysNoOutside}
use Rattle.entries.specs.Faults.{Blames}
use Rattle.entries.specs.declared.fault.TableName.TheVariants as table_name
use Rattle.entries.proofs.PlanLemmas.{passed_on}
use Rattle.entries.proofs.KeyedOutsideSegments.{told}
use Rattle.entries.proofs.outside_segments.outside_of.Goals as goal

pub returns-in_err-its : goal.returns-in_err-its
returns-in_err-its c =
    let segments = c.args.segments.now in
    let id = c.args.id.now in
    let it = c.args.it.now in
    let fault = c.in_err-its.field-0.0 in
    let is : c.from_residual.result ≡ Err fault = search rules in
    passed_on (IsMadeFrom segments id it) table_name.OutsideSegment (HasTooMany segments id) (SaysNoOutside segments id it) c.from_residual.result fault is (λ many. inl many) c.in_err-its.ensures

pub returns : goal.returns
returns c =
    let it = c.args.it.now in
    let result = c.outside_of_records.result in
    told c.args.segments.now c.args.id.now it c.in_ok-its.its.items c.in_ok-its.ensures result
    (subst (λ (l : List OutsideSegmentRecord). MatchResult result (IsOutsideToldBy it l) (Blames table_name.OutsideSegment (GiveNoOutside it l))) c.deref.ensures.value c.outside_of_records.ensures)
