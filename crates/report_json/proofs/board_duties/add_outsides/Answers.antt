use Rattle.std.proofs.Common.{rules, ◌≡◌, ◌∙◌, sym, refl, subst, true, ◌&&◌, List, ℕ, ◌∷◌, ◌++◌, map}
use Rattle.std.specs.List.{filter}
use Rattle.std.specs.Str.{bytes_eq}
use Rattle.serde_json.specs.View.{view}
use Rattle.values.specs.Name.{named_rows}
use Rattle.roster.specs.declared.state.OutsideEntry.{OutsideEntry}
use Rattle.report.specs.Board.{outside_meets, outsides_in}
use Rattle.report_json.specs.BoardJson.{board_outside_json}
use Rattle.report_json.proofs.Rows.{one_row_more}
use Rattle.report_json.proofs.board_duties.add_outsides.Goals as goal

pub loop-id-preserved-then-outside_meets : goal.loop-id-preserved-then-outside_meets
loop-id-preserved-then-outside_meets c =
    let who = c.args.who.now in
    let days = c.args.days in
    let row : List ℕ × OutsideEntry = (c.in-Some.id.now, c.in-Some.outside.now) in
    let test = λ (row : List ℕ × OutsideEntry). bytes_eq row.1.crew who && outside_meets days row.1 in
    let object = board_outside_json c.args.exceeded.now in
    let before = c.loop-id.duties.items in
    let all = map view c.args.duties.now.items ++ map object (outsides_in days c.args.roster.now who) in
    let steps : c.loop-id.id-iterator ≡ row ∷ c.next.new.self = search rules in
    let own : bytes_eq c.in-Some.outside.now.crew who ≡ true = sym c.eq.ensures ∙ c.if-eq.true in
    let met : outside_meets days c.in-Some.outside.now ≡ true = sym c.outside_meets.ensures ∙ c.if-outside_meets.true in
    let passed : test row ≡ true = rw (own, met) refl in
    one_row_more object test before c.push.new.self.items c.in_ok-board_outside.field-0 all row
    (named_rows {K = List ℕ} {V = OutsideEntry} (λ id. id) c.next.new.self) passed c.in_ok-board_outside.ensures c.in_ok-push.ensures.items
    (subst (λ (rows : List (List ℕ × OutsideEntry)). map view before ++ map object (filter test (named_rows {K = List ℕ} {V = OutsideEntry} (λ id. id) rows)) ≡ all)
    steps c.loop-id.invariant)
