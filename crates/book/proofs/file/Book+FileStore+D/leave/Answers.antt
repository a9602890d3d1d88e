use Rattle.std.proofs.Common.{sym, subst}
use Rattle.sqlite.specs.Files.{file_state}
use Rattle.book.specs.Kept.{Keeps}
use Rattle.book.proofs.Left.{uncopied, uncopied_crash}
use Rattle.book.proofs.file.Book+FileStore+D.leave.Goals as goal

pub returns-clause-kept : goal.returns-clause-kept
returns-clause-kept g c s at clean =
    uncopied c.into_connection.result s (subst (λ h. Keeps (file_state h) s) (sym c.into_connection.ensures.same) at) c.into_store.result c.into_store.ensures.quiet clean

pub returns-clause-crash : goal.returns-clause-crash
returns-clause-crash g c clean = uncopied_crash c.args.self c.into_store.result (rw c.into_connection.ensures.same at c.into_store.ensures.quiet)
