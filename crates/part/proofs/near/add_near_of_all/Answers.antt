use Rattle.std.proofs.Common.{◌≡◌, ◌+◌, ◌++◌, ◌∷◌, [], refl, sym, subst, ◌∙◌, take, Contains}
use Rattle.std.proofs.lemmas.Grind.{take_at_read}
use Rattle.std.proofs.lemmas.Result.{err_from_is_err_and}
use Rattle.part.specs.Sources.{AddsNear}
use Rattle.part.proofs.Causes.{caused_then}
use Rattle.part.proofs.NearPairings.{adds_no_member, adds_then}
use Rattle.part.proofs.near.add_near_of_all.Goals as goal
use Rattle.part.proofs.near.add_near_of_all.Goals.{in-Some+in_ok-add_near_of, in_default}

pub loop-who-preserved : goal.loop-who-preserved
loop-who-preserved g c =
    let judged = c.args.judged.now in
    let spans = c.args.spans.now in
    let i = c.loop-who.who-index in
    let who = c.who-item.result in
    let first = c.args.pairings.now in
    let more : take (i + 1) judged ≡ take i judged ++ who ∷ [] = rw c.who-item.is ((take_at_read judged i who c.loop-who-test.true).1) in
    let one : Contains judged who = (i, c.loop-who-test.true, sym c.who-item.is) in
    elim c.match-get.branch [
      | in-Some+in_ok-add_near_of w ↦ rw (w.source-is, w.pairings-is) (
        g.S.Source.and_then _ _ _ c.loop-who.invariant.0 w.add_near_of.ensures.left,
        g.S.Source.serves_then _ _ _ c.loop-who.invariant.1 w.in_ok-add_near_of.ensures.serves,
        λ clean. c.loop-who.invariant.2 (w.add_near_of.ensures.told.0 clean),
        λ clean s shows.
            let was = c.loop-who.invariant.3 (w.add_near_of.ensures.told.0 clean) s shows in
            let told = w.in_ok-add_near_of.ensures.told.1 clean s was.0 in (
              told.0,
              λ crew so. subst (λ names. AddsNear s spans names first w.add_near_of.new.pairings) (sym more)
                  (adds_then s spans (take i judged) (who ∷ []) first c.loop-who.pairings w.add_near_of.new.pairings (was.1 crew so)
                  (told.1 (w.in-Some.member.now, sym (crew who one) ∙ sym w.in-Some.ensures, refl) ((was.1 crew so).so so))),
            ),
      )
      | in_default w ↦ rw (w.source-is, w.pairings-is) (
        c.loop-who.invariant.0,
        c.loop-who.invariant.1,
        c.loop-who.invariant.2,
        λ clean s shows.
            let was = c.loop-who.invariant.3 clean s shows in (
              was.0,
              λ crew so. subst (λ names. AddsNear s spans names first c.loop-who.pairings) (sym more)
                  (adds_then s spans (take i judged) (who ∷ []) first c.loop-who.pairings c.loop-who.pairings (was.1 crew so)
                  (adds_no_member s spans (g.S.Source.shown_is_sound c.loop-who.source s was.0) who (sym (crew who one) ∙ sym w.in_default.ensures) c.loop-who.pairings)),
            ),
      )
    ]

pub returns-in_err-add_near_of-clause-caused : goal.returns-in_err-add_near_of-clause-caused
returns-in_err-add_near_of-clause-caused g c =
    let p = err_from_is_err_and c.from_residual.result c.from_residual.ensures.1 in
    rw (p.1, p.2) (caused_then g.S.Source.fails g.S.Fault.From.from_gives g.S.Source.stays g.S.Source.fails_then _ _ _ _ c.loop-who.invariant.0 c.add_near_of.ensures.left c.in_err-add_near_of.ensures.caused)
