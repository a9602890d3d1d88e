use Rattle.std.proofs.Common.{sym, subst}
use Rattle.sqlite.specs.Files.{file_state}
use Rattle.sqlite.specs.State.{HasCleanDisk}
use Rattle.book.specs.Kept.{Keeps}
use Rattle.sqlite.specs.Closing.{IsCopied}
use Rattle.book.proofs.Left.{copied, copied_crash, uncopied, uncopied_crash}
use Rattle.book.proofs.file.Book+FileStore+D.close.Goals as goal

pub returns-in-Ok-clause-disk : goal.returns-in-Ok-clause-disk
returns-in-Ok-clause-disk g c clean = subst (λ h. HasCleanDisk (file_state h)) c.into_connection.ensures.same (c.in-Ok.ensures.copied clean).was_clean

pub returns-in-Ok-clause-kept : goal.returns-in-Ok-clause-kept
returns-in-Ok-clause-kept g c s at clean =
    copied c.into_connection.result s (subst (λ h. Keeps (file_state h) s) (sym c.into_connection.ensures.same) at) g.met.D.Disk.seen_may_stay c.in-Ok.files (c.in-Ok.ensures.copied clean)

pub returns-in-Err-clause-kept : goal.returns-in-Err-clause-kept
returns-in-Err-clause-kept g c s at clean =
    uncopied c.into_connection.result s (subst (λ h. Keeps (file_state h) s) (sym c.into_connection.ensures.same) at) c.in-Err.store c.in-Err.ensures.err.0.quiet clean

pub returns-in-Ok-clause-crash : goal.returns-in-Ok-clause-crash
returns-in-Ok-clause-crash g c clean =
    copied_crash c.args.self g.met.D.Disk.seen_may_stay c.in-Ok.files (subst (λ h. IsCopied h c.in-Ok.files) c.into_connection.ensures.same (c.in-Ok.ensures.copied clean))

pub returns-in-Err-clause-crash : goal.returns-in-Err-clause-crash
returns-in-Err-clause-crash g c clean = uncopied_crash c.args.self c.in-Err.store (rw c.into_connection.ensures.same at c.in-Err.ensures.err.0.quiet)
