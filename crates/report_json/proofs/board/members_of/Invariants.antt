use Rattle.std.proofs.Common.{◌≡◌, ◌++◌, map}
use Rattle.std.specs.FinMap as fin
use Rattle.serde_json.specs.View.{view}
use Rattle.values.specs.Name.{named_rows}
use Rattle.report_json.specs.BoardJson.{board_member_json}
use Rattle.report_json.proofs.board.members_of.Given as goal

abbrev pub invariant-loop-id : goal.invariant-loop-id
invariant-loop-id l =
    map view l.rows.items ++ map (board_member_json l.days l.roster) (named_rows (λ id. id) l.id-iterator)
    ≡ map (board_member_json l.days l.roster) (fin.entries l.roster.crew)
