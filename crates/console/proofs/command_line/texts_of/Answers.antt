use Rattle.std.proofs.Common.{◌∙◌, ap, sym, Some}
use Rattle.std.proofs.lemmas.Result.{IfOk-weaker}
use Rattle.clap.specs.Matches.{found_of}
use Rattle.console.proofs.Getters.{texts_read, texts_there}
use Rattle.console.proofs.command_line.texts_of.Goals as goal

pub unwrap-requires : goal.unwrap-requires
unwrap-requires c = texts_there (found_of c.args.matches.now) c.args.id.now c.get_strs.result c.get_strs.ensures
    c.requires

pub returns : goal.returns
returns c =
    let read = texts_read (found_of c.args.matches.now) c.args.id.now c.get_strs.result c.unwrap.result
    c.get_strs.ensures c.unwrap.ensures in
    IfOk-weaker c.copies_of.result _ _ (λ v copied. read ∙ ap Some (sym copied)) c.copies_of.ensures
