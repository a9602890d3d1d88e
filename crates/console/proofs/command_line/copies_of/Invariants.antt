use Rattle.std.proofs.Common.{◌≡◌, map, string_bytes, take}
use Rattle.clap.specs.Walk.{texts}
use Rattle.console.proofs.command_line.copies_of.Given as goal

abbrev pub invariant-loop-word : goal.invariant-loop-word
invariant-loop-word l = map string_bytes l.copies.items ≡ texts (take l.word-index l.words)
