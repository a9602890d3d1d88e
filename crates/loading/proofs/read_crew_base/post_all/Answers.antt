use Rattle.std.proofs.Common.{refl, sym, ◌∙◌}
use Rattle.loading.proofs.ReadCrewBase.{not_all_posted}
use Rattle.loading.proofs.read_crew_base.post_all.Goals as goal

pub returns-then-not-are_all_posted : goal.returns-then-not-are_all_posted
returns-then-not-are_all_posted c = (
  refl,
  not_all_posted c.args.records.now c.args.roster.now c.in_ok-posted.posted c.in_ok-posted.ensures
      (λ all. absurd (let f = sym c.if-not-are_all_posted.true ∙ c.are_all_posted.ensures.1 all in cc)),
)
