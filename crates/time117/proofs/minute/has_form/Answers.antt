use Rattle.std.proofs.Common.{◌≡◌, rules, tests, arith}
use Rattle.std.specs.List.{list_all, zip}
use Rattle.std.proofs.lemmas.Bool.Decides.{nat_tests}
use Rattle.std.proofs.lemmas.Iterator.{YieldsList-from_slice, YieldsList-from_zip}
use Rattle.std.proofs.lemmas.Iterator.Search.{all_from_yields_List}
use Rattle.time117.specs.Instant.{fits}
use Rattle.time117.proofs.minute.has_form.Goals as goal

pub returns-then-form-text : goal.returns-then-form-text
returns-then-form-text c =
    let all : c.all.result ≡ list_all (λ p. fits p.0 p.1) (zip c.args.form.now c.args.text.now) =
    all_from_yields_List (λ p. fits p.0 p.1) c.all.new.self _ c.all.result c.all.ensures.ran
    (YieldsList-from_zip (YieldsList-from_slice c.args.form.now cc) (YieldsList-from_slice c.args.text.now cc))
    (λ x b q k. search (rules, tests)) in
    rw all (grind (arith, nat_tests))
