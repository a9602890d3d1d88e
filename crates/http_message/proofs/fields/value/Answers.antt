use Rattle.std.proofs.Common.{◌≡◌, ◌∙◌, true, false, ap, sym, Some}
use Rattle.http_message.specs.Fields as spec
use Rattle.http_message.proofs.FieldLemmas.{other_name, all_values, name_is}
use Rattle.http_message.proofs.fields.value.Goals as goal

pub loop-span-preserved : goal.loop-span-preserved
loop-span-preserved c =
    let bytes = c.args.bytes.now in
    let name = c.args.name.now in
    let spans = c.args.spans.now in
    let i = c.loop-span.span-index in
    let misses : spec.is_same (name_is bytes name spans i c.loop-span-test.true) name ≡ false = ap (λ t. spec.is_same t name) (sym c.of.ensures) ∙ sym c.is_same.ensures ∙ c.if-is_same.false in
    other_name bytes name spans i c.loop-span-test.true misses ∙ c.loop-span.invariant

pub returns-then-is_same : goal.returns-then-is_same
returns-then-is_same c =
    let bytes = c.args.bytes.now in
    let name = c.args.name.now in
    let spans = c.args.spans.now in
    let i = c.loop-span.span-index in
    let hits : spec.is_same (name_is bytes name spans i c.loop-span-test.true) name ≡ true = ap (λ t. spec.is_same t name) (sym c.of.ensures) ∙ sym c.is_same.ensures ∙ c.if-is_same.true in
    let all = all_values bytes name spans i c.loop-span-test.true hits in
    rw (all, c.loop-span.invariant) (ap Some c.of-then-is_same.ensures)
