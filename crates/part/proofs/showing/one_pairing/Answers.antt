use Rattle.part.proofs.Picked.{entry_as}
use Rattle.part.proofs.showing.one_pairing.Goals as goal

pub returns-clause-told : goal.returns-clause-told
returns-clause-told g c = (
  c.pairing.ensures.told.0,
  λ clean s shows.
      let told = c.in_ok-found.ensures.told.1 clean s shows in
      (told.0, entry_as s.pairings c.new-pairings.result c.put_found.new.map c.args.id.now c.in_ok-found.found c.new-pairings.ensures c.in_ok-put_found.ensures told.1),
)
