use Rattle.roster.specs.State.{empty}
use Rattle.book.proofs.Opened.{names_found}
use Rattle.book.proofs.file.create_from.Goals as goal

pub returns : goal.returns
returns g c = λ clean.
    let before = c.in_ok-book.ensures.disk (c.close.ensures.disk clean) in (
      names_found _ c.in_ok-connect.field-0 c.in_ok-connect.ensures.found c.in_ok-connect.ensures.opened c.in_ok-book.ensures.free before,
      c.close.ensures.kept (empty c.args.zone) c.in_ok-book.ensures.made clean,
    )
