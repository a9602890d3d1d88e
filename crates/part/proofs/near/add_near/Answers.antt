use Rattle.std.proofs.Common.{◌∙◌, ap, subst, sym}
use Rattle.std.proofs.lemmas.Result.{err_from_is_err_and}
use Rattle.roster.specs.State.{State}
use Rattle.part.specs.Near.{HasNear}
use Rattle.part.proofs.Causes.{caused_then}
use Rattle.part.proofs.Picked.{judged_same}
use Rattle.part.proofs.PickedNear.{crew_known, judged_as, named_so, near_as, times_same}
use Rattle.part.proofs.near.add_near.Goals as goal

pub returns-clause-told : goal.returns-clause-told
returns-clause-told g c = (
  λ clean. c.pick_members.ensures.told.0 (c.add_near_of_all.ensures.told.0 (c.add_other_duties.ensures.told.0 clean)),
  λ clean s shows.
      let second = c.add_other_duties.ensures.told.0 clean in
      let first = c.add_near_of_all.ensures.told.0 second in
      let members = c.in_ok-pick_members.ensures.told.1 first s shows in
      let near = c.in_ok-add_near_of_all.ensures.told.1 second s members.0 in
      let others = c.in_ok-add_other_duties.ensures.told.1 clean s near.0 in
      let instruction = c.args.instruction.now in (
        others.0,
        λ key named.
            let named_pairings = ap (λ (x : State). x.pairings) named in
            let judged = c.in_ok-judged.ensures ∙ judged_same s instruction _ named_pairings in
            let spans = c.in_ok-spans.ensures ∙ times_same s instruction _ named_pairings in
            let crew = judged_as s instruction _ _ _ (ap (λ (x : State). x.crew) named) (c.deref.ensures.value ∙ judged) members.1 in
            let known = crew_known s instruction _ _ crew (c.deref-2.ensures.value ∙ judged) in
            let pairings = near_as s instruction _ _ _ _ named_pairings (c.deref-2.ensures.value ∙ judged) (c.deref-3.ensures.value ∙ spans) (near.1 known (named_so s instruction _ named_pairings)) in
            let duties = others.1 instruction (c.deref-4.ensures.value ∙ judged) (ap (λ (x : State). x.grounds) named) (ap (λ (x : State). x.outsides) named) in
            record {
              pairings = subst (HasNear s instruction) (ap (λ (x : State). x.pairings) (sym duties)) pairings;
              rest = λ i. record {
                bases = (ap (λ (x : State). x.bases) duties ∙ ap (λ (x : State). x.bases) named) i;
                crew = (ap (λ (x : State). x.crew) duties ∙ crew) i;
                pairings = c.add_other_duties.new.part.pairings;
                grounds = (ap (λ (x : State). x.grounds) duties) i;
                outsides = (ap (λ (x : State). x.outsides) duties) i;
                exceedances = (ap (λ (x : State). x.exceedances) duties ∙ ap (λ (x : State). x.exceedances) named) i;
                requests = (ap (λ (x : State). x.requests) duties ∙ ap (λ (x : State). x.requests) named) i;
              };
            },
      ),
)

pub returns-in_err-add_near_of_all-clause-left : goal.returns-in_err-add_near_of_all-clause-left
returns-in_err-add_near_of_all-clause-left g c = g.S.Source.and_then _ _ _ c.pick_members.ensures.left c.add_near_of_all.ensures.left

pub returns-in_err-add_near_of_all-clause-caused : goal.returns-in_err-add_near_of_all-clause-caused
returns-in_err-add_near_of_all-clause-caused g c =
    let p = err_from_is_err_and c.from_residual-in_err-add_near_of_all.result c.from_residual-in_err-add_near_of_all.ensures.1 in
    rw (p.1, p.2) (caused_then g.S.Source.fails g.S.Fault.From.from_gives g.S.Source.stays g.S.Source.fails_then _ _ _ _ c.pick_members.ensures.left c.add_near_of_all.ensures.left c.in_err-add_near_of_all.ensures.caused)

pub returns-in_err-add_other_duties-clause-left : goal.returns-in_err-add_other_duties-clause-left
returns-in_err-add_other_duties-clause-left g c = g.S.Source.and_then _ _ _ c.pick_members.ensures.left (g.S.Source.and_then _ _ _ c.add_near_of_all.ensures.left c.add_other_duties.ensures.left)

pub returns-in_err-add_other_duties-clause-caused : goal.returns-in_err-add_other_duties-clause-caused
returns-in_err-add_other_duties-clause-caused g c =
    let p = err_from_is_err_and c.from_residual-in_err-add_other_duties.result c.from_residual-in_err-add_other_duties.ensures.1 in
    rw (p.1, p.2) (caused_then g.S.Source.fails g.S.Fault.From.from_gives g.S.Source.stays g.S.Source.fails_then _ _ _ _ (g.S.Source.and_then _ _ _ c.pick_members.ensures.left c.add_near_of_all.ensures.left) c.add_other_duties.ensures.left c.in_err-add_other_duties.ensures.caused)

pub returns-clause-left : goal.returns-clause-left
returns-clause-left g c = g.S.Source.and_then _ _ _ c.pick_members.ensures.left (g.S.Source.and_then _ _ _ c.add_near_of_all.ensures.left c.add_other_duties.ensures.left)

pub returns-clause-serves : goal.returns-clause-serves
returns-clause-serves g c = g.S.Source.serves_then _ _ _ c.in_ok-pick_members.ensures.serves (g.S.Source.serves_then _ _ _ c.in_ok-add_near_of_all.ensures.serves c.in_ok-add_other_duties.ensures.serves)
