use Rattle.std.proofs.Common.{◌≤◌, arith}
use Rattle.console.proofs.NumberRead.{number_at_most}
use Rattle.console.specs.CommandLine.{most_connections}
use Rattle.console.proofs.command_line.connections_of.Goals as goal

pub whole_of-requires : goal.whole_of-requires
whole_of-requires c = (most_connections, c.requires)

pub overflow_cast-result : goal.overflow_cast-result
overflow_cast-result c =
    let within : c.whole_of.result ≤ most_connections =
    number_at_most most_connections _ _ _ c.requires (c.whole_of.ensures most_connections c.requires) in
    omega arith

pub returns : goal.returns
returns c = c.whole_of.ensures most_connections c.requires
