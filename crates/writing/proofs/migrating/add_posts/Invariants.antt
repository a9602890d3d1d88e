use Rattle.sqlite.specs.Held.{state}
use Rattle.writing.proofs.Migrated.{PostsAdded}
use Rattle.writing.proofs.migrating.add_posts.Given as goal

abbrev pub invariant-loop-id : goal.invariant-loop-id
invariant-loop-id g l = PostsAdded l.crew (state g.S.Store l.fn.conn) (state g.S.Store l.conn) l.id-iterator
