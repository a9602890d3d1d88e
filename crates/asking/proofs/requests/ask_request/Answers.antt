use Rattle.std.proofs.Common.{rules, inl, inr, refl}
use Rattle.book.specs.Calls.{call_for_one}
use Rattle.book.proofs.CallLemmas.{is_one_call, no_calls, one_call}
use Rattle.asking.proofs.Asked.{request_read, request_unread}
use Rattle.asking.proofs.requests.ask_request.Goals as goal

pub returns-in-Ok : goal.returns-in-Ok
returns-in-Ok g c =
    let read = c.in-Ok.number-1-given.0.0 in
    record {
      asked = request_read g.S.Store c.args.book.now c.ask-answer.new.self c.args.body.now read.0 read.1 c.new.result c.report_answer.result
          c.in-Ok.ensures.command c.new.ensures
          (record { answer = c.ask-answer.result; answered = c.ask-answer.ensures; reported = c.report_answer.ensures });
      calls = one_call g.S.Store (call_for_one (c.new.result, read.1) c.ask-answer.result)
          (is_one_call g.S.Store (c.new.result, read.1) c.ask-answer.result c.instruction-made.ensures.made c.ask-answer.ensures);
    }

pub returns-in-Err-Memory : goal.returns-in-Err-Memory
returns-in-Err-Memory g c = record { asked = inr (refl, refl); calls = no_calls g.S.Store refl }

pub returns-in-Err : goal.returns-in-Err
returns-in-Err g c = record {
  asked = elim c.in-Err.ensures.refused [
    | inl memory ↦ absurd (search (rules, memory))
    | inr is ↦ request_unread g.S.Store c.args.book.now c.args.body.now c.in-Err.fault c.refuse_unread.result is c.refuse_unread.ensures
  ];
  calls = no_calls g.S.Store refl;
}
