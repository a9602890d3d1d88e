use Rattle.std.proofs.Common.{Some, None, refl, ap, sym, subst}
use Rattle.std.specs.Option.{option_copied, option_map}
use Rattle.limits_report.specs.NearestLimits.{AreNearestLimits, as_they_are, as_if_held}
use Rattle.limits_report.proofs.nearest.nearest_limits.Goals as goal

pub returns-in_ok-nearest_as_they_are-in-None-clause-limits :
    goal.returns-in_ok-nearest_as_they_are-in-None-clause-limits
returns-in_ok-nearest_as_they_are-in-None-clause-limits c =
    let s = c.args.roster.now in
    let who = c.args.who.now in
    let limits = c.in_ok-nearest_as_they_are-in-None.field-0.items in
    let found : AreNearestLimits s who None limits = record {
      of = as_they_are s who;
      are_judged = refl;
      are = c.in_ok-nearest_as_they_are-in-None.ensures;
    } in
    subst (λ p. AreNearestLimits s who p limits) (sym (ap option_copied c.in-None.is)) found

pub returns-in_ok-nearest_as_if_held-in-Some-get-clause-limits :
    goal.returns-in_ok-nearest_as_if_held-in-Some-get-clause-limits
returns-in_ok-nearest_as_if_held-in-Some-get-clause-limits c =
    let s = c.args.roster.now in
    let who = c.args.who.now in
    let id = c.in-Some.id.now in
    let limits = c.in_ok-nearest_as_if_held-in-Some-get.field-0.items in
    let found : AreNearestLimits s who (Some id) limits = record {
      of = as_if_held s who id c.in-Some-get.entry.now;
      are_judged = ap (option_map (as_if_held s who id)) (sym c.in-Some-get.ensures);
      are = c.in_ok-nearest_as_if_held-in-Some-get.ensures;
    } in
    subst (λ p. AreNearestLimits s who p limits) (sym (ap option_copied c.in-Some.is)) found
