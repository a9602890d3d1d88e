use Rattle.std.proofs.Common.{◌≤◌, arith}
use Rattle.console.proofs.NumberRead.{number_at_most}
use Rattle.console.specs.CommandLine.{last_port}
use Rattle.console.proofs.command_line.port_of.Goals as goal

pub whole_of-requires : goal.whole_of-requires
whole_of-requires c = (last_port, c.requires)

pub overflow_cast-result : goal.overflow_cast-result
overflow_cast-result c =
    let within : c.whole_of.result ≤ last_port =
    number_at_most last_port _ _ _ c.requires (c.whole_of.ensures last_port c.requires) in
    omega arith

pub returns : goal.returns
returns c = c.whole_of.ensures last_port c.requires
