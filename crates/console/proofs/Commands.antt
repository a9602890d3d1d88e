-- A command that grows as its description does.
use Rattle.std.proofs.Common.{◌≡◌, ◌∙◌, ◌||◌, ap, ap₂, subst, false, List, [], ◌∷◌}
use Rattle.std.specs.Prelude.{fold}
use Rattle.clap.specs.Walk.{Rule, Text, rule_of}
use Rattle.clap.specs.Built.{AddsArg, AddsInTurn, AddsSubcommand}
use Rattle.clap.specs.Simple.{App, with_rule, with_subcommand}
use Rattle.clap.specs.declared.builder.arg.Arg.{Arg}
use Rattle.clap.specs.declared.builder.command.Command.{Command}
use Rattle.console.specs.CommandLine.{Argument, AreArguments, AreSubcommands, IsCommandOfApp, rule, with_arguments}

argument_added : (app : App) (new_rule : Rule) (old : Command) (arg : Arg) (new : Command) → IsCommandOfApp app old
    → AddsArg old arg new
    → rule_of arg ≡ new_rule → arg.global ≡ false → IsCommandOfApp (with_rule app new_rule) new
argument_added app new_rule old arg new is added says local =
    (added.shape local ∙ ap₂ with_rule is.0 says, added.globals ∙ ap₂ (λ x y. x || y) is.1 local)

pub arguments_added : (args : List Arg) (arguments : List Argument) (app : App) (old new : Command)
    → AreArguments args arguments → IsCommandOfApp app old → AddsInTurn AddsArg old args new
    → IsCommandOfApp (fold (λ x a. with_rule x (rule a)) app arguments) new
arguments_added [] [] app old new are is same = subst (IsCommandOfApp app) same is
arguments_added [] (a ∷ later) app old new are is same = absurd are
arguments_added (arg ∷ rest) [] app old new are is added = absurd are
arguments_added (arg ∷ rest) (a ∷ later) app old new are is added =
    arguments_added rest later (with_rule app (rule a)) added.0 new are.2
    (argument_added app (rule a) old arg added.0 is added.1 are.0 are.1) added.2

subcommand_added : (app sub : App) (old given new : Command) → IsCommandOfApp app old → AddsSubcommand old given new
    → IsCommandOfApp sub given
    → IsCommandOfApp (with_subcommand app sub.top) new
subcommand_added app sub old given new is added own = (
  added.shape own.1 ∙ ap₂ with_subcommand is.0 (ap (λ (a : App). a.top) own.0),
  added.globals
      ∙ ap₂ (λ x y. x || y) is.1 own.1,
)

pub subcommands_added : (commands : List Command) (rows : List (Text × List Argument)) (app : App) (old new : Command)
    → AreSubcommands commands rows → IsCommandOfApp app old → AddsInTurn AddsSubcommand old commands new
    → IsCommandOfApp (fold (λ a row. with_subcommand a (with_arguments row.0 row.1).top) app rows) new
subcommands_added [] [] app old new are is same = subst (IsCommandOfApp app) same is
subcommands_added [] (row ∷ rows) app old new are is same = absurd are
subcommands_added (c ∷ rest) [] app old new are is added = absurd are
subcommands_added (c ∷ rest) (row ∷ rows) app old new are is added =
    subcommands_added rest rows (with_subcommand app (with_arguments row.0 row.1).top) added.0 new are.1
    (subcommand_added app (with_arguments row.0 row.1) old c added.0 is added.1 are.0) added.2
