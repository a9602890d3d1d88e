use Rattle.std.proofs.Common.{◌≡◌, ◌∙◌, sym, rules, tests, drop}
use Rattle.std.specs.List.{list_all, zip}
use Rattle.std.proofs.lemmas.Iterator.{YieldsList-from_slice, YieldsList-from_zip}
use Rattle.std.proofs.lemmas.Iterator.Adapters.{YieldsList-from_skip}
use Rattle.std.proofs.lemmas.Iterator.Search.{all_from_yields_List}
use Rattle.duty.specs.Pairings.{is_before}
use Rattle.duty.proofs.ListLemmas.{each_next-map}
use Rattle.duty.proofs.checks.are_in_turn.Goals as goal

pub returns : goal.returns
returns g c =
    let all : c.all.result ≡ list_all (λ p. is_before (g.S.Timed.times p.0) (g.S.Timed.times p.1)) (zip c.args.segments.now (drop 1 c.args.segments.now)) =
    all_from_yields_List (λ p. is_before (g.S.Timed.times p.0) (g.S.Timed.times p.1))
    c.all.new.self _ c.all.result c.all.ensures.ran
    (YieldsList-from_zip (YieldsList-from_slice c.args.segments.now cc)
    (YieldsList-from_skip 1 (YieldsList-from_slice c.args.segments.now cc) cc))
    (λ x b q k. search (rules, tests)) in
    all ∙ sym (each_next-map is_before g.S.Timed.times c.args.segments.now)
