use Rattle.std.proofs.Common.{◌≡◌, ◌∙◌, sym, rules, tests}
use Rattle.std.specs.List.{list_all}
use Rattle.std.proofs.lemmas.Iterator.{YieldsList-from_slice}
use Rattle.std.proofs.lemmas.Iterator.Search.{all_from_yields_List}
use Rattle.std.proofs.lemmas.List.Folds.{list_all-map}
use Rattle.duty.specs.Pairings.{is_within_duty}
use Rattle.duty.proofs.checks.are_within.Goals as goal

pub returns : goal.returns
returns g c =
    let all : c.all.result ≡ list_all (λ s. is_within_duty c.args.report c.args.release (g.S.Timed.times s)) c.args.segments.now =
    all_from_yields_List (λ s. is_within_duty c.args.report c.args.release (g.S.Timed.times s))
    c.all.new.self _ c.all.result c.all.ensures.ran (YieldsList-from_slice c.args.segments.now cc)
    (λ x b q k. search (rules, tests)) in
    all ∙ sym (list_all-map (is_within_duty c.args.report c.args.release) g.S.Timed.times c.args.segments.now)
