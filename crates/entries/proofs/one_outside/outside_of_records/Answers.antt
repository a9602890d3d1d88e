use Rattle.std.proofs.Common.{rules, ◌≡◌, refl, subst, List, Ok, Err}
use Rattle.duty.specs.Pairings.{outside_fault}
use Rattle.duty.specs.Plans.{OutsidePlan}
use Rattle.duty.specs.Words.{checked}
use Rattle.duty.specs.declared.segment.BlockTimes.{BlockTimes}
use Rattle.entries.specs.OneOutside.{AreAllOf, HasBadTimes, HasNoSegmentOf, IsOutsideToldBy, GiveNoOutside}
use Rattle.entries.specs.declared.fault.TableName.TheVariants as table_name
use Rattle.entries.proofs.OneOutside.{bad_times, drafted, is_told, no_segment, not_made}
use Rattle.entries.proofs.PlanLemmas.{passed_on}
use Rattle.entries.proofs.one_outside.outside_of_records.Goals as goal

pub returns-in_err-all : goal.returns-in_err-all
returns-in_err-all c =
    let it = c.args.it.now in
    let segments = c.args.segments.now in
    let fault = c.in_err-all.field-0.0 in
    let is : c.from_residual-in_err-all.result ≡ Err fault = search rules in
    passed_on (IsOutsideToldBy it segments) table_name.OutsideSegment (HasBadTimes segments) (GiveNoOutside it segments) c.from_residual-in_err-all.result fault is (bad_times it segments) c.in_err-all.ensures

pub returns-in_err-check_all : goal.returns-in_err-check_all
returns-in_err-check_all c =
    let it = c.args.it.now in
    let segments = c.args.segments.now in
    let all = c.in_ok-all.all.items in
    let fault = c.in_err-check_all.field-0.0 in
    let is : c.from_residual-in_err-check_all.result ≡ Err fault = search rules in
    passed_on (IsOutsideToldBy it segments) table_name.OutsideSegment (HasNoSegmentOf it.id c.deref.result.now segments) (GiveNoOutside it segments) c.from_residual-in_err-check_all.result fault is
    (λ bad. no_segment it segments all c.in_ok-all.ensures (subst (λ (l : List BlockTimes). HasNoSegmentOf it.id l segments) c.deref.ensures.value bad)) c.in_err-check_all.ensures

pub returns-in-Ok : goal.returns-in-Ok
returns-in-Ok c =
    let it = c.args.it.now in
    let segments = c.args.segments.now in
    let all = c.in_ok-all.all.items in
    let among : AreAllOf it.id all segments = subst (λ (l : List BlockTimes). AreAllOf it.id l segments) c.deref.ensures.value c.in_ok-check_all.ensures in
    let draft : OutsidePlan = drafted it segments all c.in_ok-all.ensures in
    let ok : checked (outside_fault draft) draft ≡ Ok c.in-Ok.period = search rules in
    let crew : c.new-crew.result ≡ it.crew = search rules in
    is_told it segments all c.in_ok-all.ensures among (record { crew = c.new-crew.result; period = c.in-Ok.period }) crew c.in_ok-report.ensures.1 c.in_ok-release.ensures.1 ok

pub returns-in-Err : goal.returns-in-Err
returns-in-Err c =
    let it = c.args.it.now in
    let segments = c.args.segments.now in
    let all = c.in_ok-all.all.items in
    let draft : OutsidePlan = drafted it segments all c.in_ok-all.ensures in
    let err : checked (outside_fault draft) draft ≡ Err c.in-Err.field-0 = search rules in
    (refl, not_made it segments all c.in_ok-all.ensures c.in-Err.field-0 err)
