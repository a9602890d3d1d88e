use Rattle.std.proofs.Common.{◌≡◌, ◌≤◌, length, take, map}
use Rattle.httparse.specs.Spans.{header_bytes}
use Rattle.http_message.specs.Fields as spec
use Rattle.http_message.proofs.fields.count.Given as goal

abbrev pub invariant-loop-span : goal.invariant-loop-span
invariant-loop-span l = (l.count ≡ length (spec.values l.name (map (header_bytes l.bytes) (take l.span-index l.spans)))) × (l.count ≤ l.span-index)
