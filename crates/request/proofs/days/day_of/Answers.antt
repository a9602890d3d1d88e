use Rattle.std.proofs.Common.{◌≡◌, IfSome, ℕ, List, ◌∷◌, length, slice_index_or, refl, sym, ap, subst, rules, ◌∙◌}
use Rattle.std.specs.Prelude.{Result, Ok, Err, Option, IfOk, take, codes}
use Rattle.std.specs.Result.{result_ok}
use Rattle.time117.specs.Instant.{written}
use Rattle.time117.specs.declared.minute.TimeFault.{TimeFault}
use Rattle.request.proofs.TenBytes.{ten}
use Rattle.request.specs.Days as spec
use Rattle.request.proofs.days.day_of.Goals as goal

-- the first minute of the day that ten bytes name, as the program writes it
abbrev instant_on : List ℕ → List ℕ
instant_on text =
    slice_index_or text 0 0 ∷ slice_index_or text 1 0 ∷ slice_index_or text 2 0 ∷ slice_index_or text 3 0
    ∷ slice_index_or text 4 0 ∷ slice_index_or text 5 0 ∷ slice_index_or text 6 0 ∷ slice_index_or text 7 0
    ∷ slice_index_or text 8 0 ∷ slice_index_or text 9 0 ∷ codes "T00:00Z"

-- the day of an instant that is read of a text is the text before the instant's time
day_is : (text instant : List ℕ) (read : Result ℕ TimeFault) → take 10 instant ≡ text → length instant ≡ 17
    → IfOk read (λ m. length instant ≡ 17 → instant ≡ written m)
    → IfSome (result_ok read) (λ m. spec.day_text m ≡ text)
day_is text instant (Ok m) begins long form = sym (ap (take 10) (form long)) ∙ begins
day_is text instant (Err fault) begins long form = tt

pub returns-clause-value : goal.returns-clause-value
returns-clause-value c =
    let is = ten c.args.text.now c.in-len10.len_at_least c.in-len10.len_below in
    grind (rules, is, c.ok.ensures.value, c.read.ensures.value)

pub returns-clause-written : goal.returns-clause-written
returns-clause-written c =
    subst (λ (o : Option ℕ). IfSome o (λ m. spec.day_text m ≡ c.args.text.now)) (sym c.ok.ensures.value)
    (day_is c.args.text.now (instant_on c.args.text.now) c.read.result (sym (ten c.args.text.now c.in-len10.len_at_least c.in-len10.len_below)) refl
    c.read.ensures.first_form)
