use Rattle.clap.specs.Matches.{found_of}
use Rattle.console.proofs.FlagRead.{flag_read}
use Rattle.console.proofs.command_line.flag_of.Goals as goal

pub returns : goal.returns
returns c =
    flag_read (found_of c.args.matches.now) c.args.id.now c.get_flag.result c.get_flag.ensures.none c.get_flag.ensures.value
    c.get_flag.ensures.other c.requires
