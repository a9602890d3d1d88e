use Rattle.std.proofs.Common.{◌≡◌}
use Rattle.values.specs.Name.{named_rows}
use Rattle.values.proofs.Rows.{insert_all}
use Rattle.values.proofs.ord_map.OrdMapTryClone.try_clone.Given as goal

abbrev pub invariant-loop-key : goal.invariant-loop-key
invariant-loop-key g l = insert_all l.copy (named_rows g.K.OrdKey.name l.key-iterator) ≡ l.self
