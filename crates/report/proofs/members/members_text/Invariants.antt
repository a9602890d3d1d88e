use Rattle.std.proofs.Common.{◌≡◌, ◌++◌, string_bytes}
use Rattle.std.specs.FinMap as fin
use Rattle.std.specs.List.{flat_map}
use Rattle.values.specs.Name.{named_rows}
use Rattle.report.specs.MembersText.{member_line, members_header}
use Rattle.report.proofs.members.members_text.Given as goal

abbrev pub invariant-loop-id : goal.invariant-loop-id
invariant-loop-id l =
    string_bytes l.text ++ flat_map member_line (named_rows (λ id. id) l.id-iterator)
    ≡ members_header (fin.len l.roster.crew) ++ flat_map member_line (fin.entries l.roster.crew)
