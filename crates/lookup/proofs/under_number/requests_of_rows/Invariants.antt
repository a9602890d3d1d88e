use Rattle.lookup.specs.Requests.{AreKept}
use Rattle.lookup.proofs.under_number.requests_of_rows.Given as goal

abbrev pub invariant-loop-row : goal.invariant-loop-row
invariant-loop-row l = AreKept l.records l.row-index l.all
