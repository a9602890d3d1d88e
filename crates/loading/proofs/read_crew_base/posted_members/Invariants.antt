use Rattle.loading.specs.Reading.{PostsRead}
use Rattle.loading.proofs.read_crew_base.posted_members.Given as goal

abbrev pub invariant-loop-row : goal.invariant-loop-row
invariant-loop-row l = PostsRead l.roster.bases l.roster.crew l.records l.row-index l.posted
