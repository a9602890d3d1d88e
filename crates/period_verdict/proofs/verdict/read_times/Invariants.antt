use Rattle.std.proofs.Common.{◌≡◌, map, string_bytes}
use Rattle.period_verdict.specs.Verdict.{read_instants}
use Rattle.period_verdict.proofs.ReadLemmas.{read_from}
use Rattle.period_verdict.proofs.verdict.read_times.Given as goal

abbrev pub invariant-loop-text : goal.invariant-loop-text
invariant-loop-text l = read_from l.times.items l.texts l.text-index ≡ read_instants (map string_bytes l.texts)
