-- What is read of a pairing that isn't known is so, whatever is known of others.
use Rattle.sqlite.specs.Held.{state}
use Rattle.lookup.proofs.NearPairings.{read_anyway}
use Rattle.lookup.proofs.near.known_or_read.Goals as goal

pub returns-in-None : goal.returns-in-None
returns-in-None g c =
    read_anyway c.args.known.now c.args.id.now c.args.periods.now (state g.S.Store c.args.conn.now) (state g.S.Store c.free_pairing.new.conn) c.free_pairing.result c.free_pairing.ensures
