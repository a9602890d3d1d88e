use Rattle.std.proofs.Common.{◌≡◌, ◌++◌, drop, map}
use Rattle.std.specs.List.{list_all}
use Rattle.serde_json.specs.View.{view}
use Rattle.stored_json.proofs.encoded.array.Given as goal

abbrev pub invariant-loop-part : goal.invariant-loop-part
invariant-loop-part g l =
    (map view l.values.items ++ map g.T.Encoded.json (drop l.part-index l.parts) ≡ map g.T.Encoded.json l.parts)
    × (list_all g.T.Encoded.has_instants (drop l.part-index l.parts) ≡ list_all g.T.Encoded.has_instants l.parts)
