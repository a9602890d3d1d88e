use Rattle.std.proofs.Common.{◌∙◌, ap, map-id}
use Rattle.duty.specs.Minutes.{last_in}
use Rattle.duty.proofs.fdp_in_force.FdpInForce.last_in.Goals as goal

pub returns : goal.returns
returns c =
    rw (← c.self.view_is) (c.last_block_in.ensures ∙
    ap (last_in c.self.inside.report) (map-id c.as_slice.result.now) ∙
    ap (last_in c.self.inside.report) c.as_slice.ensures.value)
