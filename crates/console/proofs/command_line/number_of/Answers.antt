use Rattle.std.proofs.Common.{◌∙◌, sym}
use Rattle.console.proofs.NumberRead.{number_made, some_there}
use Rattle.console.specs.CommandLine.{last_number}
use Rattle.console.proofs.command_line.number_of.Goals as goal

pub whole_of-requires : goal.whole_of-requires
whole_of-requires c = (last_number, c.requires)

pub unwrap-requires : goal.unwrap-requires
unwrap-requires c =
    some_there _ _ (number_made _ _ _ c.new.result c.requires (c.whole_of.ensures last_number c.requires) c.new.ensures)

pub returns : goal.returns
returns c =
    let is = c.whole_of.ensures last_number c.requires in
    is ∙ (sym (number_made _ _ _ c.new.result c.requires is c.new.ensures) ∙ c.unwrap.ensures)
