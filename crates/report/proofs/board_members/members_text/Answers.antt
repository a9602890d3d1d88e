use Rattle.std.proofs.Common.{rules, ◌≡◌, List, ℕ, [], ◌∷◌, ◌++◌, ap, subst, string_bytes}
use Rattle.std.specs.FinMap as fin
use Rattle.values.specs.Name.{named_rows}
use Rattle.command.specs.declared.member.Member.{Member}
use Rattle.report.specs.BoardText.{IsMemberInDays}
use Rattle.report.proofs.BoardLemmas.{IsBegun, all_done, one_more}
use Rattle.report.proofs.board_members.members_text.Goals as goal

pub loop-id-preserved : goal.loop-id-preserved
loop-id-preserved c =
    let is_member = IsMemberInDays c.args.roster.now c.args.days in
    let all = fin.entries c.args.roster.now.crew in
    let text = string_bytes c.loop-id.text in
    let steps : c.loop-id.id-iterator ≡ (c.in-Some.id.now, c.in-Some.member.now) ∷ c.next.new.self = search rules in
    let joined : string_bytes c.push_str.new.self ≡ text ++ string_bytes c.in_ok-member_text.field-0 = search rules in
    one_more is_member all (c.in-Some.id.now, c.in-Some.member.now) (named_rows {K = List ℕ} {V = Member} (λ id. id) c.next.new.self)
    text (string_bytes c.in_ok-member_text.field-0) (string_bytes c.push_str.new.self) c.in_ok-member_text.ensures joined
    (subst (λ (rows : List (List ℕ × Member)). IsBegun is_member all (named_rows {K = List ℕ} {V = Member} (λ id. id) rows) text) steps c.loop-id.invariant)

pub returns : goal.returns
returns c =
    let empty : c.loop-id.id-iterator ≡ [] = search rules in
    let told =
    all_done (IsMemberInDays c.args.roster.now c.args.days) (fin.entries c.args.roster.now.crew)
    (named_rows {K = List ℕ} {V = Member} (λ id. id) c.loop-id.id-iterator) (string_bytes c.loop-id.text)
    (ap (named_rows {K = List ℕ} {V = Member} (λ id. id)) empty) c.loop-id.invariant in
    record { members = told.0; are_members = told.1; is = told.2 }
