use Rattle.std.proofs.Common.{◌∙◌, sym, ap, ◌&&◌}
use Rattle.duty.specs.Pairings.{connects}
use Rattle.duty.specs.Words.{each_next}
use Rattle.duty.proofs.ListLemmas.{each_next-last_of}
use Rattle.duty.proofs.checks.is_chained.Goals as goal

pub returns-then-is_joined : goal.returns-then-is_joined
returns-then-is_joined c =
    let joined = sym c.is_joined.ensures ∙ c.if-is_joined.true in
    c.are_joined.ensures ∙ sym (each_next-last_of connects c.args.before.now c.args.segments.now
    ∙ ap (λ b. b && each_next connects c.args.segments.now) joined)

pub returns-else-is_joined : goal.returns-else-is_joined
returns-else-is_joined c =
    let joined = sym c.is_joined.ensures ∙ c.if-is_joined.false in
    c.if-is_joined.false ∙ sym (each_next-last_of connects c.args.before.now c.args.segments.now
    ∙ ap (λ b. b && each_next connects c.args.segments.now) joined)
