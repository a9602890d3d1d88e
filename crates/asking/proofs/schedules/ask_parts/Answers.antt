use Rattle.std.proofs.Common.{◌≡◌, ◌<◌, ◌+◌, ◌-◌, Ok, Err, sym, subst, arith, refl, length}
use Rattle.std.proofs.lemmas.Option.{slice_get_within}
use Rattle.roster.specs.Folds.{import}
use Rattle.book.specs.Answered.{IsAnswered}
use Rattle.book.specs.Calls.{IsAfterCalls, call_for_one}
use Rattle.book.specs.Kept.{result_of}
use Rattle.book.proofs.CallLemmas.{is_one_call, no_calls, one_call, then_calls}
use Rattle.asking.proofs.Parts.{all_asked, is_past, length-import, none_yet, one_at_fault, one_more, one_unheard, part_made, the_part}
use Rattle.asking.proofs.schedules.ask_parts.Goals as goal

pub loop-answer-init : goal.loop-answer-init
loop-answer-init g c = record {
  place = (omega arith, omega arith);
  next = c.import-import.ensures.begun;
  so_far = none_yet g.S.Store g.L.Listener.hears c.args.book.now c.args.listener.now (import c.args.number c.args.pairings.items);
  calls = no_calls g.S.Store refl;
}

pub loop-answer-preserved : goal.loop-answer-preserved
loop-answer-preserved g c =
    let was = c.loop-answer.invariant in
    let part = c.loop-answer.part in
    let parts = import c.args.number c.args.pairings.items in
    let asked = the_part g.S.Store c.loop-answer.book c.next.new.book c.args.number c.args.pairings.items part c.loop-answer.import c.next.result c.in-Some.answer was.next c.in-Some.is c.next.ensures.part in
    let back : part - 1 + 1 ≡ part = omega (arith, was.place.0) in
    let answered : IsAnswered g.S.Store c.loop-answer.book c.next.new.book asked.0 (Ok c.in-Ok.answer) = subst (IsAnswered g.S.Store _ _ asked.0) c.in-Ok.is asked.2 in
    let moved = rw (c.in-Some.is, c.in-Ok.is) at c.next.ensures.moves in
    record {
      place = (omega arith, omega (arith, slice_get_within parts (part - 1) asked.0 asked.1, length-import c.args.number c.args.pairings.items));
      next = rw was.next at moved;
      so_far = one_more g.S.Store g.L.Listener.hears c.args.book.now c.args.listener.now parts part c.loop-answer.book c.loop-answer.listener was.so_far (part - 1) asked.0 c.in-Ok.answer c.next.new.book c.hear-heard.new.self
          asked.1 back answered (subst (g.L.Listener.hears _ _ part (result_of c.in-Ok.answer)) c.in_default-heard.is c.hear-heard.ensures);
      calls = then_calls g.S.Store was.calls (one_call g.S.Store (call_for_one asked.0 (Ok c.in-Ok.answer))
          (is_one_call g.S.Store asked.0 (Ok c.in-Ok.answer) (part_made parts (part - 1) asked.0 c.requires.made asked.1) answered));
    }

pub returns : goal.returns
returns g c =
    let was = c.loop-answer.invariant in
    let part = c.loop-answer.part in
    let parts = import c.args.number c.args.pairings.items in
    let past : length c.args.pairings.items < part = is_past c.next.result part (length c.args.pairings.items) c.in_default.is (rw was.next at c.next.ensures.some) in
    let none = rw was.next at c.next.ensures.none in
    let same = (none past).2 in
    record {
      asked = all_asked g.S.Store g.L.Listener.hears c.args.book.now c.args.listener.now parts part c.loop-answer.book c.loop-answer.listener was.so_far c.next.new.book same
          (omega (arith, past, length-import c.args.number c.args.pairings.items));
      calls = subst (IsAfterCalls g.S.Store c.args.book.now) (sym same) was.calls;
    }

pub returns-in-Err : goal.returns-in-Err
returns-in-Err g c =
    let was = c.loop-answer.invariant in
    let part = c.loop-answer.part in
    let parts = import c.args.number c.args.pairings.items in
    let asked = the_part g.S.Store c.loop-answer.book c.next.new.book c.args.number c.args.pairings.items part c.loop-answer.import c.next.result c.in-Some.answer was.next c.in-Some.is c.next.ensures.part in
    let back : part - 1 + 1 ≡ part = omega (arith, was.place.0) in
    let answered : IsAnswered g.S.Store c.loop-answer.book c.next.new.book asked.0 (Err c.in-Err.fault) = subst (IsAnswered g.S.Store _ _ asked.0) c.in-Err.is asked.2 in
    record {
      asked = one_at_fault g.S.Store g.L.Listener.hears c.args.book.now c.args.listener.now parts part c.loop-answer.book c.loop-answer.listener was.so_far (part - 1) asked.0 c.in-Err.fault c.next.new.book asked.1 back answered;
      calls = then_calls g.S.Store was.calls (one_call g.S.Store (call_for_one asked.0 (Err c.in-Err.fault))
          (is_one_call g.S.Store asked.0 (Err c.in-Err.fault) (part_made parts (part - 1) asked.0 c.requires.made asked.1) answered));
    }

pub returns-in-Err-heard : goal.returns-in-Err-heard
returns-in-Err-heard g c =
    let was = c.loop-answer.invariant in
    let part = c.loop-answer.part in
    let parts = import c.args.number c.args.pairings.items in
    let asked = the_part g.S.Store c.loop-answer.book c.next.new.book c.args.number c.args.pairings.items part c.loop-answer.import c.next.result c.in-Some.answer was.next c.in-Some.is c.next.ensures.part in
    let back : part - 1 + 1 ≡ part = omega (arith, was.place.0) in
    let answered : IsAnswered g.S.Store c.loop-answer.book c.next.new.book asked.0 (Ok c.in-Ok.answer) = subst (IsAnswered g.S.Store _ _ asked.0) c.in-Ok.is asked.2 in
    record {
      asked = one_unheard g.S.Store g.L.Listener.hears c.args.book.now c.args.listener.now parts part c.loop-answer.book c.loop-answer.listener was.so_far (part - 1) asked.0 c.in-Ok.answer c.in-Err-heard.fault c.next.new.book c.hear-heard.new.self
          asked.1 back answered (subst (g.L.Listener.hears _ _ part (result_of c.in-Ok.answer)) c.in-Err-heard.is c.hear-heard.ensures);
      calls = then_calls g.S.Store was.calls (one_call g.S.Store (call_for_one asked.0 (Ok c.in-Ok.answer))
          (is_one_call g.S.Store asked.0 (Ok c.in-Ok.answer) (part_made parts (part - 1) asked.0 c.requires.made asked.1) answered));
    }
