use Rattle.std.proofs.Common.{◌≡◌, ◌∙◌, ap, sym, subst, inl, inr, rules, List, [], ◌∷◌, Option}
use Rattle.std.specs.Prelude.{IfOk, IsSomeAnd}
use Rattle.clap.specs.Kinds.{FailsBy, HasKind, Kinds, or_else}
use Rattle.clap.specs.Simple.{subcommand_of, subcommand_rows_of}
use Rattle.clap.specs.Faults.{fault_of}
use Rattle.clap.specs.Walk.{Row, Text, texts}
use Rattle.clap.specs.declared.error.Error.{Error}
use Rattle.console.proofs.Entered.{arguments_there, fault_told, no_fault, rows_stated}
use Rattle.console.specs.CommandLine.{IsActionOf, command_line, days_fault, line_fault}
use Rattle.console.proofs.command_line.read.Goals as goal

-- an error of the first kinds is one of these or of others
or_others : (kinds next : Kinds) (e : Error) → HasKind kinds e → HasKind (or_else kinds next) e
or_others [] next e (inl memory) = inl memory
or_others [] next e (inr bad) = absurd bad
or_others (k ∷ kinds) next e has = has

-- where `clap` finds no fault, that of the line is that of its days
of_days : (words : List Text) (rows : Option (Text × List Row)) → fault_of command_line words ≡ []
    → rows ≡ subcommand_of command_line words → days_fault rows ≡ line_fault words
of_days words rows none stated =
    ap days_fault stated ∙ sym (ap (λ (kinds : Kinds). or_else kinds (days_fault (subcommand_of command_line words))) none)

pub action_of-requires : goal.action_of-requires
action_of-requires c =
    arguments_there _ (texts c.args.words.now) c.in_ok-command.ensures.0 c.in_ok-matches.matches
    c.in_ok-matches.ensures.matches c.in_ok-matches.ensures.kinds

pub returns-clause-refused : goal.returns-clause-refused
returns-clause-refused c =
    subst (λ (kinds : Kinds). FailsBy kinds c.action_of.result)
    (of_days (texts c.args.words.now) (subcommand_rows_of c.in_ok-matches.matches)
    (no_fault _ (texts c.args.words.now) c.in_ok-command.ensures.0 c.in_ok-matches.ensures.kinds)
    (rows_stated _ (texts c.args.words.now) c.in_ok-command.ensures.0 c.in_ok-matches.matches
    c.in_ok-matches.ensures.matches)) c.action_of.ensures.refused

pub returns-in_err-matches-clause-refused : goal.returns-in_err-matches-clause-refused
returns-in_err-matches-clause-refused c =
    let told = or_others (fault_of command_line (texts c.args.words.now))
    (days_fault (subcommand_of command_line (texts c.args.words.now))) c.in_err-matches.field-0.0
    (fault_told _ (texts c.args.words.now) c.in_ok-command.ensures.0 c.in_err-matches.field-0.0
    c.in_err-matches.ensures.kinds) in
    search rules

pub returns-clause-ok : goal.returns-clause-ok
returns-clause-ok c =
    subst (λ (met : Option (Text × List Row)).
    IfOk c.action_of.result (λ a. IsSomeAnd met (IsActionOf a)))
    (rows_stated _ (texts c.args.words.now) c.in_ok-command.ensures.0 c.in_ok-matches.matches
    c.in_ok-matches.ensures.matches) c.action_of.ensures.ok
