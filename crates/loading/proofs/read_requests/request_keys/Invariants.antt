use Rattle.std.proofs.Common.{◌≡◌, ◌++◌, length}
use Rattle.std.specs.Vec.Iter.{into_iter_items}
use Rattle.loading.specs.Reading.{KeysRead}
use Rattle.loading.proofs.read_requests.request_keys.Given as goal

abbrev pub invariant-loop-row : goal.invariant-loop-row
invariant-loop-row l =
    (l.yielded ++ into_iter_items l.row-iterator ≡ l.fn.records.items)
    × KeysRead l.fn.edition l.fn.records.items (length l.yielded) l.keys
