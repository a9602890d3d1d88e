use Rattle.std.proofs.Common.{rules}
use Rattle.lookup.proofs.Unread.{why_unread}
use Rattle.lookup.proofs.pairing.pairing_of_rows.Goals as goal

pub returns-in-Err : goal.returns-in-Err
returns-in-Err c = record {
  told = tt;
  unread = λ is. (
    (search rules),
    rw (c.deref-2.ensures.value, c.deref-3.ensures.value) at (why_unread _ _ _ c.in-Err.fault c.as_store_fault.result c.as_store_fault.ensures c.in-Err.ensures.untold is),
  );
}
