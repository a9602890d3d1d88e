use Rattle.std.proofs.Common.{◌∙◌}
use Rattle.std.specs.List.{flat_map}
use Rattle.duty.specs.Minutes.{spans_of}
use Rattle.duty.specs.declared.kind.Kind.TheVariants.{Duty}
use Rattle.duty.specs.Overlaps.{overlaps}
use Rattle.duty.proofs.Overlapping.{overlaps_is, share-same}
use Rattle.duty.proofs.history.History.overlaps.Goals as goal

pub returns-clause-test : goal.returns-clause-test
unfolding overlaps
returns-clause-test c =
    let history = c.self.inside in
    let other = c.other.inside in
    rw (← c.self.view_is, ← c.other.view_is) (c.shares.ensures ∙ share-same history.on_duty.spans other.on_duty.spans
    (flat_map (spans_of Duty) history.duties.items) (flat_map (spans_of Duty) other.duties.items)
    c.self.invariant.in_duty c.other.invariant.in_duty)

pub returns-clause-minute : goal.returns-clause-minute
returns-clause-minute c = rw (returns-clause-test c) (overlaps_is c.args.self.now c.args.other.now)
