use Rattle.part.proofs.Picked.{entry_as}
use Rattle.part.proofs.showing.one_member.Goals as goal

pub returns-clause-told : goal.returns-clause-told
returns-clause-told g c = (
  c.member.ensures.told.0,
  λ clean s shows.
      let told = c.in_ok-found.ensures.told.1 clean s shows in
      (told.0, entry_as s.crew c.new-crew.result c.put_found.new.map c.args.who.now c.in_ok-found.found c.new-crew.ensures c.in_ok-put_found.ensures told.1),
)
