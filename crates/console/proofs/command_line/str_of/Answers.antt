use Rattle.clap.specs.Matches.{found_of}
use Rattle.console.proofs.Getters.{text_read, text_there}
use Rattle.console.proofs.command_line.str_of.Goals as goal

pub unwrap-requires : goal.unwrap-requires
unwrap-requires c = text_there (found_of c.args.matches.now) c.args.id.now c.get_str.result c.get_str.ensures c.requires

pub returns : goal.returns
returns c =
    text_read (found_of c.args.matches.now) c.args.id.now c.get_str.result c.unwrap.result
    c.get_str.ensures c.unwrap.ensures
