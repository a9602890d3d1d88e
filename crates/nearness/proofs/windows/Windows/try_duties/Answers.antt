use Rattle.std.proofs.Common.{◌<◌, length, arith, inl, inr, sym, subst}
use Rattle.std.specs.Prelude.{slice_index_or}
use Rattle.std.specs.List.{flat_map}
use Rattle.std.proofs.lemmas.Bool.{cases_eq}
use Rattle.std.proofs.lemmas.List.{get_or_read}
use Rattle.duty.specs.Minutes.{spans_of, minutes_in}
use Rattle.duty.specs.declared.duty_in_force.DutyInForce.{DutyInForce}
use Rattle.nearness.specs.Searches.{IsTried}
use Rattle.nearness.proofs.Rounds.{kept_tried}
use Rattle.nearness.proofs.windows.Windows.try_duties.Goals as goal

pub loop-duty-preserved : goal.loop-duty-preserved
loop-duty-preserved c =
    let windows = c.args.self.now in
    let all = flat_map (spans_of windows.kind) windows.all.now in
    let new = minutes_in windows.kind windows.new.now in
    let tried = c.try_duty-best.ensures in
    let best = c.try_duty-best.result in
    let duties = c.args.duties.now in
    let inv = c.loop-duty.invariant in
    record {
      holds = tried.holds;
      met = tried.met;
      kept = λ e g. tried.kept e (inv.kept e g);
      tried = λ j e k d l. elim (cases_eq j c.loop-duty.duty-index) [
        | inl same ↦ (let T : DutyInForce → Type 0 = λ x. k < length (spans_of windows.kind x) →
            IsTried all new windows.width best c.args.after_begin (slice_index_or (spans_of windows.kind x) k d) in
            let at = get_or_read duties c.loop-duty.duty-index c.duty-item.result (omega arith) c.duty-item.is e in
            let here : T (slice_index_or duties c.loop-duty.duty-index e) = subst T at (tried.tried k d) in
            subst (λ i. T (slice_index_or duties i e)) (sym same) here)
        | inr other ↦ (λ m. kept_tried all new windows.width c.loop-duty.best best c.args.after_begin _ tried.kept
            (inv.tried j e k d (omega arith) m))
      ];
    }
