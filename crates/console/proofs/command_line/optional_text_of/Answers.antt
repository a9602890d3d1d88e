use Rattle.std.proofs.Common.{◌∙◌, ap, sym, Some}
use Rattle.clap.specs.Matches.{found_of}
use Rattle.console.proofs.Getters.{no_text_read, text_read}
use Rattle.console.proofs.command_line.optional_text_of.Goals as goal

pub returns-in_ok-from_str-in-Some : goal.returns-in_ok-from_str-in-Some
returns-in_ok-from_str-in-Some c =
    text_read (found_of c.args.matches.now) c.args.id.now c.get_str.result c.in-Some.text c.get_str.ensures c.in-Some.is
    ∙ ap Some (sym c.in_ok-from_str-in-Some.ensures.ok)

pub returns-in-None : goal.returns-in-None
returns-in-None c = no_text_read (found_of c.args.matches.now) c.args.id.now c.get_str.result c.get_str.ensures c.in-None.is
