use Rattle.std.proofs.Common.{rules, ◌≡◌, [], ap, sym, ◌∙◌, length, string_bytes, refl}
use Rattle.report.specs.ExceedanceText as spec
use Rattle.report.proofs.ExceedanceRows.{told, counted}
use Rattle.report.proofs.exceedances.exceedance_text.Goals as goal

pub loop-id-init : goal.loop-id-init
loop-id-init c =
    let rows = c.iter-id-items.result in
    let head : string_bytes c.in_ok-text.text ≡ spec.exceedances_header (length rows) = c.in_ok-text.ensures ∙ ap spec.exceedances_header (c.len.ensures ∙ sym (counted c.args.roster.now rows c.iter-id-items.ensures)) in
    rw (c.into_iter-id-iterator.ensures.into_iter_gives, head) refl

pub returns-clause-text : goal.returns-clause-text
returns-clause-text c =
    let empty : c.loop-id.id-iterator ≡ [] = search rules in
    told c.args.roster.now c.into_iter-id-iterator.result c.loop-id.id-iterator (string_bytes c.loop-id.text) (rw c.into_iter-id-iterator.ensures.into_iter_gives c.iter-id-items.ensures) empty c.loop-id.invariant
