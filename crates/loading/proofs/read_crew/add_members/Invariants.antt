use Rattle.loading.specs.Reading.{MembersRead}
use Rattle.loading.proofs.read_crew.add_members.Given as goal

abbrev pub invariant-loop-row : goal.invariant-loop-row
invariant-loop-row l = MembersRead l.records l.row-index l.fn.roster l.roster
