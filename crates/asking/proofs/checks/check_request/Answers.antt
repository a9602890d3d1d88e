use Rattle.std.proofs.Common.{rules, inl, inr, refl}
use Rattle.book.specs.Calls.{HasRead, call_for_reading}
use Rattle.book.proofs.CallLemmas.{is_reading_call, no_calls, one_call}
use Rattle.asking.proofs.Asked.{check_read, check_unread}
use Rattle.asking.proofs.checks.check_request.Goals as goal

pub returns-in-Ok : goal.returns-in-Ok
returns-in-Ok g c =
    let read = c.in-Ok.number-1-given.0.0 in
    let checked = c.check-answer.ensures in
    let call : HasRead g.S.Store c.args.book.now c.check-answer.new.self c.check-answer.result = record { failed = checked.failed; shut = checked.shut; unchanged = checked.unchanged; kept = checked.kept } in
    record {
      checked = check_read g.S.Store c.args.book.now c.check-answer.new.self c.args.body.now read.0 read.1 c.new.result c.report_answer.result
          c.in-Ok.ensures.command c.new.ensures
          (record { answer = c.check-answer.result; checked = record { call = call; reply = checked.reply; tables = checked.shown }; reported = c.report_answer.ensures });
      calls = one_call g.S.Store (call_for_reading c.check-answer.result) (is_reading_call g.S.Store c.check-answer.result call);
    }

pub returns-in-Err-Memory : goal.returns-in-Err-Memory
returns-in-Err-Memory g c = record { checked = inr (refl, refl); calls = no_calls g.S.Store refl }

pub returns-in-Err : goal.returns-in-Err
returns-in-Err g c = record {
  checked = elim c.in-Err.ensures.refused [
    | inl memory ↦ absurd (search (rules, memory))
    | inr is ↦ check_unread g.S.Store c.args.book.now c.args.body.now c.in-Err.fault c.refuse_unread.result is c.refuse_unread.ensures
  ];
  calls = no_calls g.S.Store refl;
}
