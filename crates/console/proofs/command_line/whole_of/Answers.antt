use Rattle.std.proofs.Common.{◌∙◌}
use Rattle.std.specs.Str.Parse.{ExplainsUnsignedError, HasUnsignedDigitsIfOk, ParsesUnsigned}
use Rattle.clap.specs.Words.{found_of}
use Rattle.console.proofs.NumberRead.{number_taken, taken_there}
use Rattle.console.proofs.command_line.whole_of.Goals as goal

pub unwrap-requires : goal.unwrap-requires
unwrap-requires c =
    let taken = number_taken c.requires.0 (found_of c.args.matches.now) c.args.id.now _ c.get_one.result
    (λ bs r. ParsesUnsigned 64 10 bs r × ExplainsUnsignedError 10 bs r × HasUnsignedDigitsIfOk bs r)
    c.get_one.ensures.value (λ u x g. g.0) c.requires.1 in
    taken_there _ _ taken c.requires.1.number

pub returns : goal.returns
returns c most has =
    number_taken most (found_of c.args.matches.now) c.args.id.now _ c.get_one.result
    (λ bs r. ParsesUnsigned 64 10 bs r × ExplainsUnsignedError 10 bs r × HasUnsignedDigitsIfOk bs r)
    c.get_one.ensures.value (λ u x g. g.0) has ∙ c.unwrap.ensures
