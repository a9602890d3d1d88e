use Rattle.std.proofs.Common.{◌≡◌, ◌∙◌, [], arith, map, rules, subst, sym, Result}
use Rattle.std.proofs.lemmas.Bool.{eqb-true}
use Rattle.std.proofs.lemmas.List.{nil_from_length}
use Rattle.tables.specs.Records.{crew_base_row, crew_row}
use Rattle.std.proofs.lemmas.Result.{err_from_is_err_and}
use Rattle.sqlite.specs.Held.{state}
use Rattle.state_rows.specs.Rows.{crew, crew_base}
use Rattle.state_rows.specs.declared.fault.StoreFault.{StoreFault}
use Rattle.lookup.specs.Members.{ReadsMember}
use Rattle.lookup.specs.declared.member.MemberRecords.{MemberRecords}
use Rattle.lookup.proofs.MemberReads.{both_read, no_member, not_first, not_second}
use Rattle.lookup.proofs.ReadLemmas.{IsReady, holds_open, reads, reads_not, ready_on}
use Rattle.lookup.proofs.member.member_rows.Goals as goal

pub returns-in_err-crew : goal.returns-in_err-crew
returns-in_err-crew g c =
    let a = state g.S.Store c.args.conn.now in
    let b = state g.S.Store c.crew_by_id.new.conn in
    let ready : IsReady a = record { outside = c.requires.outside; over = c.requires.over; settled = search rules } in
    let p = err_from_is_err_and c.from_residual.result c.from_residual.ensures.1 in
    let failed = reads_not crew _ a b ready c.crew_by_id.ensures.crash c.in_err-crew.field-0.0 p.0 c.in_err-crew.ensures.read p.2 in
    subst (λ (r : Result MemberRecords StoreFault). ReadsMember c.args.id.now a b r) (sym p.1)
    (not_first c.args.id.now a b p.0 failed.stays failed.caused)

pub crew_base_by_crew-requires : goal.crew_base_by_crew-requires
crew_base_by_crew-requires g c =
    let a = state g.S.Store c.args.conn.now in
    let b = state g.S.Store c.crew_by_id.new.conn in
    let ready : IsReady a = record { outside = c.requires.outside; over = c.requires.over; settled = search rules } in
    let first = reads crew _ a b ready c.crew_by_id.ensures.crash (map crew_row c.in_ok-crew.crew.items) c.in_ok-crew.ensures.read in
    let ready_b = ready_on crew _ a b (map crew_row c.in_ok-crew.crew.items) ready first in
    holds_open crew_base b ready_b.over

pub returns-in_err-bases : goal.returns-in_err-bases
returns-in_err-bases g c =
    let a = state g.S.Store c.args.conn.now in
    let b = state g.S.Store c.crew_by_id.new.conn in
    let d = state g.S.Store c.crew_base_by_crew.new.conn in
    let ready : IsReady a = record { outside = c.requires.outside; over = c.requires.over; settled = search rules } in
    let first = reads crew _ a b ready c.crew_by_id.ensures.crash (map crew_row c.in_ok-crew.crew.items) c.in_ok-crew.ensures.read in
    let ready_b = ready_on crew _ a b (map crew_row c.in_ok-crew.crew.items) ready first in
    let p = err_from_is_err_and c.from_residual-in_err-bases.result c.from_residual-in_err-bases.ensures.1 in
    let failed = reads_not crew_base _ b d ready_b c.crew_base_by_crew.ensures.crash c.in_err-bases.field-0.0 p.0 c.in_err-bases.ensures.read p.2 in
    subst (λ (r : Result MemberRecords StoreFault). ReadsMember c.args.id.now a d r) (sym p.1)
    (not_second c.args.id.now a b d p.0 first.stays failed.stays failed.caused)

pub returns-then-is_empty : goal.returns-then-is_empty
returns-then-is_empty g c =
    let a = state g.S.Store c.args.conn.now in
    let b = state g.S.Store c.crew_by_id.new.conn in
    let ready : IsReady a = record { outside = c.requires.outside; over = c.requires.over; settled = search rules } in
    let first = reads crew _ a b ready c.crew_by_id.ensures.crash (map crew_row c.in_ok-crew.crew.items) c.in_ok-crew.ensures.read in
    let rows = c.in_ok-crew.crew in
    let len : rows.len ≡ 0 = eqb-true rows.len 0 (sym c.is_empty.ensures ∙ c.if-is_empty.true) in
    let none : rows.items ≡ [] = nil_from_length rows.items (omega (arith, len, rows.ok.0)) in
    no_member c.args.id.now a b _ first.stays first.told none

pub returns : goal.returns
returns g c =
    let a = state g.S.Store c.args.conn.now in
    let b = state g.S.Store c.crew_by_id.new.conn in
    let d = state g.S.Store c.crew_base_by_crew.new.conn in
    let ready : IsReady a = record { outside = c.requires.outside; over = c.requires.over; settled = search rules } in
    let first = reads crew _ a b ready c.crew_by_id.ensures.crash (map crew_row c.in_ok-crew.crew.items) c.in_ok-crew.ensures.read in
    let ready_b = ready_on crew _ a b (map crew_row c.in_ok-crew.crew.items) ready first in
    let second = reads crew_base _ b d ready_b c.crew_base_by_crew.ensures.crash (map crew_base_row c.in_ok-bases.bases.items) c.in_ok-bases.ensures.read in
    both_read c.args.id.now a b d _ first.stays second.stays first.told second.told
