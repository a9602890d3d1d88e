use Rattle.std.proofs.Common.{rules, ◌≡◌, ◌∙◌, sym, ap, subst, true, false, List, ℕ, [], ◌∷◌, ◌++◌}
use Rattle.std.specs.Str.{bytes_eq}
use Rattle.values.specs.Name.{named_rows}
use Rattle.roster.specs.State.{exceedance_name}
use Rattle.roster.specs.declared.state.DutyId.{DutyId}
use Rattle.roster.specs.declared.state.ExceedanceId.{ExceedanceId}
use Rattle.report_json.specs.BoardJson.{exceeded_by}
use Rattle.report_json.specs.declared.exceeded.Exceeded.{Exceeded}
use Rattle.report_json.proofs.OwnSections.{exceeded_in, one_other, one_own}
use Rattle.report_json.proofs.exceeded.exceeded_by.Goals as goal

abbrev rows_of : List (ExceedanceId × DutyId) → List (List ℕ × DutyId)
rows_of rows = named_rows (λ id. exceedance_name id.key id.crew id.section) rows

pub loop-id-preserved-in_ok-push : goal.loop-id-preserved-in_ok-push
loop-id-preserved-in_ok-push c =
    let id = c.in-Some.id.now in
    let who = c.args.who.now in
    let before = c.loop-id.exceeded.items in
    let all = exceeded_by c.args.roster.now who in
    let made : DutyId → Exceeded = λ duty. record { section = id.section; duty = duty } in
    let steps : c.loop-id.id-iterator ≡ (id, c.in-Some.named.now) ∷ c.next.new.self = search rules in
    let own : bytes_eq id.crew who ≡ true = sym c.eq.ensures ∙ c.if-eq.true in
    let added : c.push.new.self.items ≡ before ++ made c.in-Some.named.now ∷ [] =
    c.in_ok-push.ensures.items ∙ ap (λ duty. before ++ made duty ∷ []) c.in_ok-try_clone.ensures in
    one_own before c.push.new.self.items id c.in-Some.named.now who (rows_of c.next.new.self) all own added
    (subst (λ (rows : List (ExceedanceId × DutyId)). before ++ exceeded_in who (rows_of rows) ≡ all) steps c.loop-id.invariant)

pub loop-id-preserved : goal.loop-id-preserved
loop-id-preserved c =
    let id = c.in-Some.id.now in
    let who = c.args.who.now in
    let before = c.loop-id.exceeded.items in
    let all = exceeded_by c.args.roster.now who in
    let steps : c.loop-id.id-iterator ≡ (id, c.in-Some.named.now) ∷ c.next.new.self = search rules in
    let other : bytes_eq id.crew who ≡ false = sym c.eq.ensures ∙ c.if-eq.false in
    one_other before id c.in-Some.named.now who (rows_of c.next.new.self) all other
    (subst (λ (rows : List (ExceedanceId × DutyId)). before ++ exceeded_in who (rows_of rows) ≡ all) steps c.loop-id.invariant)
