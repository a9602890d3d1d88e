use Rattle.std.proofs.Common.{rules, refl, sym, ◌∙◌}
use Rattle.loading.proofs.ReadRequests.{all_held, not_all_held}
use Rattle.loading.proofs.read_requests.check_held.Goals as goal

pub returns-then-not-have_keys : goal.returns-then-not-have_keys
returns-then-not-have_keys c = (
  refl,
  not_all_held c.args.edition c.args.records.items c.args.roster.now c.in_ok-keys.keys c.in_ok-keys.ensures
      (λ each. absurd (let f = sym c.if-not-have_keys.true ∙ c.have_keys.ensures.1 each in cc)),
)

pub returns : goal.returns
returns c = all_held c.args.edition c.args.records.items c.args.roster.now c.in_ok-keys.keys c.in_ok-keys.ensures (c.have_keys.ensures.0 (search rules))
