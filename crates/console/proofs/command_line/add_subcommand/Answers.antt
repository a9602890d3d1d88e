use Rattle.std.proofs.Common.{rules}
use Rattle.clap.specs.Simple.{new_app}
use Rattle.console.specs.CommandLine.{IsCommandOfApp, arguments_of, subcommand}
use Rattle.console.proofs.Commands.{arguments_added}
use Rattle.console.proofs.command_line.add_subcommand.Goals as goal

pub returns : goal.returns
returns c =
    let start : IsCommandOfApp (new_app c.args.name.now) c.after_help.result = (search rules, search rules) in
    let made : IsCommandOfApp (subcommand c.args.name.now) c.in_ok-command.command =
    arguments_added _ (arguments_of c.args.name.now) _ _ c.in_ok-command.command c.requires start c.in_ok-command.ensures in
    (c.in_ok-command.command, c.in_ok-push.ensures.items, made)
