use Rattle.std.proofs.Common.{rules, ◌≡◌, sym, subst, ℕ, List, [], ◌∷◌}
use Rattle.command.specs.declared.member.Member.{Member}
use Rattle.sqlite.specs.Held.{state}
use Rattle.writing.proofs.Migrated.{PostsAdded, none_posted, post_added, posts_added}
use Rattle.writing.proofs.migrating.add_posts.Goals as goal

pub loop-id-init : goal.loop-id-init
loop-id-init g c =
    let s = state g.S.Store c.args.conn.now in
    subst (PostsAdded c.args.crew.now s s) (sym c.into_iter-id-iterator.ensures.into_iter_gives)
    (none_posted c.args.crew.now s c.iter-id-items.result c.requires c.iter-id-items.ensures)

pub loop-id-preserved : goal.loop-id-preserved
loop-id-preserved g c =
    let G = g.S.Store in
    let old = state G c.args.conn.now in
    let mid = state G c.loop-id.conn in
    let member : List ℕ × Member = (c.in-Some.id.now, c.in-Some.member.now) in
    let left : c.loop-id.id-iterator ≡ member ∷ c.next.new.self = search rules in
    post_added c.args.crew.now old mid (state G c.add_post.new.conn) member c.next.new.self
    (subst (PostsAdded c.args.crew.now old mid) left c.loop-id.invariant) c.in_ok-add_post.ensures

pub returns : goal.returns
returns g c =
    let G = g.S.Store in
    let old = state G c.args.conn.now in
    let new = state G c.loop-id.conn in
    let none : c.loop-id.id-iterator ≡ [] = search rules in
    posts_added c.args.crew.now old new (subst (PostsAdded c.args.crew.now old new) none c.loop-id.invariant)
