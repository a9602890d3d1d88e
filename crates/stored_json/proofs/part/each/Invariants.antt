use Rattle.std.proofs.Common.{◌≡◌, drop}
use Rattle.serde_json.specs.View.{items_view}
use Rattle.stored_json.specs.Parts.{read_each}
use Rattle.stored_json.proofs.EachRead.{read_from}
use Rattle.stored_json.proofs.part.each.Given as goal

abbrev pub invariant-loop-value : goal.invariant-loop-value
invariant-loop-value g l =
    read_from g.T.JsonPart.reads l.parts.items (drop l.value-index l.values) ≡ read_each g.T.JsonPart.reads (items_view l.values)
