use Rattle.std.proofs.Common.{◌≡◌, ◌∷◌, [], ◌∙◌, true, false, length, ◌+◌, ap, sym, length-append, arith}
use Rattle.http_message.specs.Fields as spec
use Rattle.http_message.proofs.FieldLemmas.{other_name, this_name, name_is, value_is}
use Rattle.http_message.proofs.fields.count.Goals as goal
use Rattle.http_message.proofs.fields.count.Goals.{then-is_same, else-is_same}

pub loop-span-preserved : goal.loop-span-preserved
loop-span-preserved c =
    let bytes = c.args.bytes.now in
    let name = c.args.name.now in
    let spans = c.args.spans.now in
    let i = c.loop-span.span-index in
    elim c.if-is_same.branch [
      | then-is_same w ↦
          let hits : spec.is_same (name_is bytes name spans i c.loop-span-test.true) name ≡ true = ap (λ t. spec.is_same t name) (sym c.of.ensures) ∙ sym c.is_same.ensures ∙ w.if-is_same.true in
          let more = this_name bytes name spans i c.loop-span-test.true hits in
          let was = c.loop-span.invariant.0 in
          (w.count-is ∙ ap (λ n. n + 1) was ∙ sym (length-append _ (value_is bytes name spans i c.loop-span-test.true ∷ [])) ∙ sym (ap length more), omega (arith, w.count-is, c.loop-span.invariant.1))
      | else-is_same w ↦
          let misses : spec.is_same (name_is bytes name spans i c.loop-span-test.true) name ≡ false = ap (λ t. spec.is_same t name) (sym c.of.ensures) ∙ sym c.is_same.ensures ∙ w.if-is_same.false in
          let more = other_name bytes name spans i c.loop-span-test.true misses in
          (w.count-is ∙ c.loop-span.invariant.0 ∙ sym (ap length more), omega (arith, w.count-is, c.loop-span.invariant.1))
    ]
