use Rattle.std.proofs.Common.{string_bytes}
use Rattle.std.specs.FinMap as fin
use Rattle.values.specs.Name.{named_rows}
use Rattle.report.specs.BoardText.{IsMemberInDays}
use Rattle.report.proofs.BoardLemmas.{IsBegun}
use Rattle.report.proofs.board_members.members_text.Given as goal

abbrev pub invariant-loop-id : goal.invariant-loop-id
invariant-loop-id l =
    IsBegun (IsMemberInDays l.roster l.days) (fin.entries l.roster.crew) (named_rows (λ id. id) l.id-iterator) (string_bytes l.text)
