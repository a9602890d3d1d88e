use Rattle.std.proofs.Common.{rules, sym, ◌∙◌}
use Rattle.loading.specs.Reading.{AreCrewed}
use Rattle.loading.proofs.ReadSeats.{all_crewed, falls, stands}
use Rattle.loading.proofs.read_seats.are_crewed.Goals as goal

pub loop-entry-init : goal.loop-entry-init
loop-entry-init c =
    (tt, tt, all_crewed c.into_iter-entry-iterator.result c.args.roster.now (search rules))

pub returns-then-not-is_seated : goal.returns-then-not-is_seated
returns-then-not-is_seated c =
    falls c.loop-entry.entry-iterator c.next.new.self c.in-Some.field-0-0.now c.in-Some.entry.now (AreCrewed c.args.roster.now) c.in-Some.ensures.steps c.loop-entry.invariant.2
    (sym c.is_seated.ensures ∙ c.if-not-is_seated.true)

pub loop-entry-preserved : goal.loop-entry-preserved
loop-entry-preserved c = (
  tt,
  tt,
  stands c.loop-entry.entry-iterator c.next.new.self c.in-Some.field-0-0.now c.in-Some.entry.now (AreCrewed c.args.roster.now) c.in-Some.ensures.steps c.loop-entry.invariant.2
      (sym c.is_seated.ensures ∙ c.if-not-is_seated.false),
)
