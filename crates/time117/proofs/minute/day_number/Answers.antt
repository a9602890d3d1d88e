use Rattle.std.proofs.Common.{refl, rules, ◌≡◌, ◌*◌, ◌<◌, arith, pos, ap, ◌∙◌, ◌*ℤ◌, ℤ, ℕ, int_div, FitsSigned, w64, to_z, of_z}
use Rattle.std.proofs.lemmas.Int.{to_z-of_z}
use Rattle.jiff_core.proofs.SignedLemmas.{signed_arith}
use Rattle.time117.proofs.DateFacts.{days_between, hours_of_days}
use Rattle.time117.proofs.minute.day_number.Goals as goal

back : (hours : ℤ) (n : ℕ) → hours ≡ pos (24 * n) → n < 36_525 → to_z w64 (of_z w64 hours) ≡ pos (24 * n)
back hours n e lt =
    let fits : FitsSigned w64 (pos (24 * n)) = omega (arith, signed_arith) in
    rw (e, to_z-of_z w64 (pos (24 * n)) fits) refl

pub overflow_cast-result : goal.overflow_cast-result
overflow_cast-result c =
    let between = days_between c.date.result c.args.day c.date.ensures c.requires in
    let hours = c.as_hours-hours.ensures ∙ ap (λ z. int_div z (pos 3_600_000_000_000)) (c.duration_until.ensures ∙ ap (λ z. z *ℤ pos 86_400_000_000_000) between.0) ∙ hours_of_days _ in
    let b = back _ _ hours between.1 in
    rw b (search rules)

pub returns-clause-value : goal.returns-clause-value
returns-clause-value c =
    let between = days_between c.date.result c.args.day c.date.ensures c.requires in
    let hours = c.as_hours-hours.ensures ∙ ap (λ z. int_div z (pos 3_600_000_000_000)) (c.duration_until.ensures ∙ ap (λ z. z *ℤ pos 86_400_000_000_000) between.0) ∙ hours_of_days _ in
    let b = back _ _ hours between.1 in
    rw b (omega arith)

pub returns-clause-in_range : goal.returns-clause-in_range
returns-clause-in_range c =
    let between = days_between c.date.result c.args.day c.date.ensures c.requires in
    let hours = c.as_hours-hours.ensures ∙ ap (λ z. int_div z (pos 3_600_000_000_000)) (c.duration_until.ensures ∙ ap (λ z. z *ℤ pos 86_400_000_000_000) between.0) ∙ hours_of_days _ in
    let b = back _ _ hours between.1 in
    rw b (omega (arith, between.1))
