use Rattle.std.proofs.Common.{◌∙◌, Some, ap, subst, sym}
use Rattle.roster.specs.ByNames.{refusals_by_names}
use Rattle.roster.specs.Refusals.{first_of}
use Rattle.roster.specs.State.{State}
use Rattle.roster.specs.Steps.{step_of}
use Rattle.part.specs.Near.{IsNearPart}
use Rattle.part.specs.Part.{NamedPart, has_histories}
use Rattle.std.proofs.lemmas.Result.{err_from_is_err_and}
use Rattle.part.proofs.Causes.{caused_then}
use Rattle.part.proofs.NearAnswers.{near_answers_commands}
use Rattle.part.proofs.Picked.{bare_part}
use Rattle.part.proofs.Settled.{bare_is, by_key, early_is}
use Rattle.part.proofs.judging.judge.Goals as goal

-- the key is held
pub returns-in-Some-clause-told : goal.returns-in-Some-clause-told
returns-in-Some-clause-told g c = (
  c.request.ensures.told.0,
  λ clean s shows.
      let it = c.in_ok-kept.ensures.told.1 clean s shows in
      (it.0, c.answer_from_log.ensures s c.args.key ∙ by_key s c.args.key c.args.command.now (Some c.in-Some.kept) (sym c.in-Some.is ∙ it.1)),
)

-- the histories are looked at
pub returns-clause-told : goal.returns-clause-told
returns-clause-told g c = (
  λ clean. c.request.ensures.told.0 (c.gather_bases.ensures.told.0 (c.add_named.ensures.told.0 (c.add_near.ensures.told.0 clean))),
  λ clean s shows.
      let third = c.add_near.ensures.told.0 clean in
      let second = c.add_named.ensures.told.0 third in
      let first = c.gather_bases.ensures.told.0 second in
      let held = c.in_ok-kept.ensures.told.1 first s shows in
      let bases = c.in_ok-part.ensures.told.1 second s held.0 in
      let named = c.in_ok-add_named.ensures.told.1 third s bases.0 in
      let whole = c.in_ok-add_near.ensures.told.1 clean s named.0 in
      let key = c.args.key in
      let command = c.args.command.now in
      let near = whole.1 key (named.1 key (bare_part s key _ (sym held.1 ∙ c.in_default.is) bases.1)) in (
        whole.0,
        c.in_ok-step-2.ensures.verdict
            ∙ near_answers_commands s _ key command (g.S.Source.shown_is_sound c.args.source.now s shows) c.instruction-instruction.ensures.made
            (subst (λ it. IsNearPart s key it c.add_near.new.part) c.instruction-instruction.ensures.instruction near),
      ),
)

-- what is named refuses it
pub returns-in-Some-refusal_by_names-clause-told : goal.returns-in-Some-refusal_by_names-clause-told
returns-in-Some-refusal_by_names-clause-told g c = (
  λ clean. c.request.ensures.told.0 (c.gather_bases.ensures.told.0 (c.add_named.ensures.told.0 clean)),
  λ clean s shows.
      let second = c.add_named.ensures.told.0 clean in
      let first = c.gather_bases.ensures.told.0 second in
      let held = c.in_ok-kept.ensures.told.1 first s shows in
      let bases = c.in_ok-part.ensures.told.1 second s held.0 in
      let it = c.in_ok-add_named.ensures.told.1 clean s bases.0 in
      let key = c.args.key in
      let command = c.args.command.now in
      let named = it.1 key (bare_part s key _ (sym held.1 ∙ c.in_default.is) bases.1) ∙ ap (NamedPart s key) c.instruction-instruction.ensures.instruction in (
        it.0,
        early_is s key command c.in-Some-refusal_by_names.refusal (sym held.1 ∙ c.in_default.is)
            (sym c.in-Some-refusal_by_names.is ∙ c.refusal_by_names.ensures ∙ (λ i. first_of (refusals_by_names (named i) (c.instruction-instruction.ensures.instruction i)))),
      ),
)

-- no history judges it
pub returns-then-not-has_histories-clause-told : goal.returns-then-not-has_histories-clause-told
returns-then-not-has_histories-clause-told g c = (
  λ clean. c.request.ensures.told.0 (c.gather_bases.ensures.told.0 (c.add_named.ensures.told.0 clean)),
  λ clean s shows.
      let second = c.add_named.ensures.told.0 clean in
      let first = c.gather_bases.ensures.told.0 second in
      let held = c.in_ok-kept.ensures.told.1 first s shows in
      let bases = c.in_ok-part.ensures.told.1 second s held.0 in
      let it = c.in_ok-add_named.ensures.told.1 clean s bases.0 in
      let key = c.args.key in
      let command = c.args.command.now in
      let named = it.1 key (bare_part s key _ (sym held.1 ∙ c.in_default.is) bases.1) ∙ ap (NamedPart s key) c.instruction-instruction.ensures.instruction in (
        it.0,
        c.in_ok-step.ensures.verdict ∙ ap (λ (x : State). step_of x key command) named
            ∙ bare_is s key command (sym (c.has_histories.ensures ∙ ap has_histories c.instruction-instruction.ensures.instruction) ∙ c.if-not-has_histories.true),
      ),
)

pub returns-in_err-part-clause-left : goal.returns-in_err-part-clause-left
returns-in_err-part-clause-left g c = g.S.Source.and_then _ _ _ c.request.ensures.left c.gather_bases.ensures.left

pub returns-in_err-part-clause-caused : goal.returns-in_err-part-clause-caused
returns-in_err-part-clause-caused g c =
    let p = err_from_is_err_and c.from_residual-in_err-part.result c.from_residual-in_err-part.ensures.1 in
    rw (p.1, p.2) (caused_then g.S.Source.fails g.S.Fault.From.from_gives g.S.Source.stays g.S.Source.fails_then _ _ _ _ c.request.ensures.left c.gather_bases.ensures.left c.in_err-part.ensures.caused)

pub returns-in_err-add_named-clause-left : goal.returns-in_err-add_named-clause-left
returns-in_err-add_named-clause-left g c = g.S.Source.and_then _ _ _ c.request.ensures.left (g.S.Source.and_then _ _ _ c.gather_bases.ensures.left c.add_named.ensures.left)

pub returns-in_err-step-clause-left : goal.returns-in_err-step-clause-left
returns-in_err-step-clause-left g c = g.S.Source.and_then _ _ _ c.request.ensures.left (g.S.Source.and_then _ _ _ c.gather_bases.ensures.left c.add_named.ensures.left)

pub returns-in-Some-refusal_by_names-clause-left : goal.returns-in-Some-refusal_by_names-clause-left
returns-in-Some-refusal_by_names-clause-left g c = g.S.Source.and_then _ _ _ c.request.ensures.left (g.S.Source.and_then _ _ _ c.gather_bases.ensures.left c.add_named.ensures.left)

pub returns-then-not-has_histories-clause-left : goal.returns-then-not-has_histories-clause-left
returns-then-not-has_histories-clause-left g c = g.S.Source.and_then _ _ _ c.request.ensures.left (g.S.Source.and_then _ _ _ c.gather_bases.ensures.left c.add_named.ensures.left)

pub returns-in_err-add_near-clause-left : goal.returns-in_err-add_near-clause-left
returns-in_err-add_near-clause-left g c = g.S.Source.and_then _ _ _ c.request.ensures.left (g.S.Source.and_then _ _ _ c.gather_bases.ensures.left (g.S.Source.and_then _ _ _ c.add_named.ensures.left c.add_near.ensures.left))

pub returns-in_err-step-2-clause-left : goal.returns-in_err-step-2-clause-left
returns-in_err-step-2-clause-left g c = g.S.Source.and_then _ _ _ c.request.ensures.left (g.S.Source.and_then _ _ _ c.gather_bases.ensures.left (g.S.Source.and_then _ _ _ c.add_named.ensures.left c.add_near.ensures.left))

pub returns-clause-left : goal.returns-clause-left
returns-clause-left g c = g.S.Source.and_then _ _ _ c.request.ensures.left (g.S.Source.and_then _ _ _ c.gather_bases.ensures.left (g.S.Source.and_then _ _ _ c.add_named.ensures.left c.add_near.ensures.left))

pub returns-in-Some-refusal_by_names-clause-serves : goal.returns-in-Some-refusal_by_names-clause-serves
returns-in-Some-refusal_by_names-clause-serves g c = g.S.Source.serves_then _ _ _ c.in_ok-kept.ensures.serves (g.S.Source.serves_then _ _ _ c.in_ok-part.ensures.serves c.in_ok-add_named.ensures.serves)

pub returns-then-not-has_histories-clause-serves : goal.returns-then-not-has_histories-clause-serves
returns-then-not-has_histories-clause-serves g c = g.S.Source.serves_then _ _ _ c.in_ok-kept.ensures.serves (g.S.Source.serves_then _ _ _ c.in_ok-part.ensures.serves c.in_ok-add_named.ensures.serves)

pub returns-in-Some-refusal_by_names-clause-there : goal.returns-in-Some-refusal_by_names-clause-there
returns-in-Some-refusal_by_names-clause-there g c = g.S.Source.still_there _ _ c.in_ok-add_named.ensures.serves c.in_ok-part.ensures.there

pub returns-then-not-has_histories-clause-there : goal.returns-then-not-has_histories-clause-there
returns-then-not-has_histories-clause-there g c = g.S.Source.still_there _ _ c.in_ok-add_named.ensures.serves c.in_ok-part.ensures.there

pub returns-clause-serves : goal.returns-clause-serves
returns-clause-serves g c = g.S.Source.serves_then _ _ _ c.in_ok-kept.ensures.serves (g.S.Source.serves_then _ _ _ c.in_ok-part.ensures.serves (g.S.Source.serves_then _ _ _ c.in_ok-add_named.ensures.serves c.in_ok-add_near.ensures.serves))

pub returns-clause-there : goal.returns-clause-there
returns-clause-there g c = g.S.Source.still_there _ _ (g.S.Source.serves_then _ _ _ c.in_ok-add_named.ensures.serves c.in_ok-add_near.ensures.serves) c.in_ok-part.ensures.there

pub returns-in_err-add_named-clause-caused : goal.returns-in_err-add_named-clause-caused
returns-in_err-add_named-clause-caused g c =
    let p = err_from_is_err_and c.from_residual-in_err-add_named.result c.from_residual-in_err-add_named.ensures.1 in
    rw (p.1, p.2) (caused_then g.S.Source.fails g.S.Fault.From.from_gives g.S.Source.stays g.S.Source.fails_then _ _ _ _ (g.S.Source.and_then _ _ _ c.request.ensures.left c.gather_bases.ensures.left) c.add_named.ensures.left c.in_err-add_named.ensures.caused)

pub returns-in_err-add_near-clause-caused : goal.returns-in_err-add_near-clause-caused
returns-in_err-add_near-clause-caused g c =
    let p = err_from_is_err_and c.from_residual-in_err-add_near.result c.from_residual-in_err-add_near.ensures.1 in
    rw (p.1, p.2) (caused_then g.S.Source.fails g.S.Fault.From.from_gives g.S.Source.stays g.S.Source.fails_then _ _ _ _ (g.S.Source.and_then _ _ _ c.request.ensures.left (g.S.Source.and_then _ _ _ c.gather_bases.ensures.left c.add_named.ensures.left)) c.add_near.ensures.left c.in_err-add_near.ensures.caused)
