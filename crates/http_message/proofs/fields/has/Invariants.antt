use Rattle.std.proofs.Common.{◌≡◌, false, take, map}
use Rattle.httparse.specs.Spans.{header_bytes}
use Rattle.http_message.specs.Fields as spec
use Rattle.http_message.proofs.fields.has.Given as goal

abbrev pub invariant-loop-span : goal.invariant-loop-span
invariant-loop-span l = spec.has l.value (spec.values l.name (map (header_bytes l.bytes) (take l.span-index l.spans))) ≡ false
