use Rattle.std.proofs.lemmas.Result.{IfOk-weaker}
use Rattle.console.specs.CommandLine.{bare, subcommand_table}
use Rattle.console.proofs.Commands.{subcommands_added}
use Rattle.console.proofs.command_line.command.Goals as goal

pub returns : goal.returns
returns c =
    IfOk-weaker c.subcommands.result _ _
    (λ r added. subcommands_added _ subcommand_table bare _ r c.in_ok-add_subcommands.ensures c.in_ok-bare_command.ensures added) c.subcommands.ensures
