use Rattle.book.proofs.Opened.{refused_before}
use Rattle.book.proofs.file.adopt_over.Goals as goal

pub returns-in-Err-clause-refused : goal.returns-in-Err-clause-refused
returns-in-Err-clause-refused g c clean = refused_before c.args.conn c.in-Err.conn c.into_store.result c.in-Err.fault c.in-Err.ensures.not_loaded c.into_store.ensures.quiet clean
