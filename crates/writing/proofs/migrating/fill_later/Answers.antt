use Rattle.std.proofs.Common.{◌≡◌, sym, ap, subst, ℕ, List, [], Option, Ok}
use Rattle.std.specs.Option.{unwrap_or}
use Rattle.sqlite.specs.Held.{state}
use Rattle.roster.specs.Bases.{home_zone}
use Rattle.state_rows.specs.declared.fault.StoreFault.{StoreFault}
use Rattle.writing.specs.Calls.{Wrote}
use Rattle.writing.specs.Migration.{AddsHome}
use Rattle.writing.proofs.Chaining.{then_write}
use Rattle.writing.proofs.migrating.fill_later.Goals as goal

pub returns : goal.returns
returns g c =
    let G = g.S.Store in
    let old = state G c.args.conn.now in
    let based = state G c.add_home.new.conn in
    let posts = state G c.add_posts.new.conn in
    let new = state G c.set_version.new.conn in
    let zone : c.home.result.now ≡ home_zone c.args.roster.now.bases = sym (ap (λ (at : Option (List ℕ)). unwrap_or at []) c.home.ensures) in
    then_write old based new tt c.set_version.result (subst (λ (z : List ℕ). Wrote {A = Unit {0}} {E = StoreFault} (AddsHome z) old based (Ok tt)) zone c.in_ok-add_home.ensures)
    (then_write based posts new tt c.set_version.result c.in_ok-add_posts.ensures c.set_version.ensures)
