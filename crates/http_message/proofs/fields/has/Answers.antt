use Rattle.std.proofs.Common.{◌≡◌, ◌∷◌, [], ◌∙◌, true, false, ◌++◌, ap, sym, refl}
use Rattle.http_message.specs.Fields as spec
use Rattle.http_message.proofs.FieldLemmas.{other_name, this_name, all_values, name_is, value_is, has-append}
use Rattle.http_message.proofs.fields.has.Goals as goal
use Rattle.http_message.proofs.fields.has.Goals.{else-is_same-via-then-is_same+else-is_same-2, else-is_same-via-else-is_same}

pub loop-span-preserved : goal.loop-span-preserved
loop-span-preserved c =
    let bytes = c.args.bytes.now in
    let name = c.args.name.now in
    let spans = c.args.spans.now in
    let i = c.loop-span.span-index in
    let at = c.loop-span-test.true in
    let value = value_is bytes name spans i at in
    elim c.else-is_same.branch [
      | else-is_same-via-then-is_same+else-is_same-2 w ↦
          let hits : spec.is_same (name_is bytes name spans i at) name ≡ true = ap (λ t. spec.is_same t name) (sym c.of.ensures) ∙ sym c.is_same.ensures ∙ w.if-is_same.true in
          let misses : spec.is_same value c.args.value.now ≡ false = ap (λ t. spec.is_same t c.args.value.now) (sym w.of-then-is_same.ensures) ∙ sym w.is_same-then-is_same.ensures ∙ w.if-is_same-2.false in
          ap (spec.has c.args.value.now) (this_name bytes name spans i at hits) ∙ has-append c.args.value.now _ (value ∷ []) ∙ rw (c.loop-span.invariant, misses) refl
      | else-is_same-via-else-is_same w ↦
          let misses : spec.is_same (name_is bytes name spans i at) name ≡ false = ap (λ t. spec.is_same t name) (sym c.of.ensures) ∙ sym c.is_same.ensures ∙ w.if-is_same.false in
          ap (spec.has c.args.value.now) (other_name bytes name spans i at misses) ∙ c.loop-span.invariant
    ]

pub returns-then-is_same-2 : goal.returns-then-is_same-2
returns-then-is_same-2 c =
    let bytes = c.args.bytes.now in
    let name = c.args.name.now in
    let spans = c.args.spans.now in
    let i = c.loop-span.span-index in
    let at = c.loop-span-test.true in
    let hits : spec.is_same (name_is bytes name spans i at) name ≡ true = ap (λ t. spec.is_same t name) (sym c.of.ensures) ∙ sym c.is_same.ensures ∙ c.if-is_same.true in
    let this : spec.is_same (value_is bytes name spans i at) c.args.value.now ≡ true = ap (λ t. spec.is_same t c.args.value.now) (sym c.of-then-is_same.ensures) ∙ sym c.is_same-then-is_same.ensures ∙ c.if-is_same-2.true in
    sym (ap (spec.has c.args.value.now) (all_values bytes name spans i at hits) ∙ has-append c.args.value.now (_ ++ value_is bytes name spans i at ∷ []) _ ∙ rw (has-append c.args.value.now _ (value_is bytes name spans i at ∷ []), c.loop-span.invariant, this) refl)
