use Rattle.std.proofs.Common.{refl, sym, ◌∙◌}
use Rattle.loading.proofs.ReadOutside.{not_all_recorded}
use Rattle.loading.proofs.read_outside.all_by_ids.Goals as goal

pub returns-then-not-are_recorded : goal.returns-then-not-are_recorded
returns-then-not-are_recorded c = (
  refl,
  not_all_recorded c.args.records.now c.args.roster.now c.in_ok-outsides.outsides c.in_ok-outsides.ensures
      (λ all. absurd (let f = sym c.if-not-are_recorded.true ∙ c.are_recorded.ensures.1 all in cc)),
)
