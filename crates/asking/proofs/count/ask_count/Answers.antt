use Rattle.book.specs.Calls.{HasRead, call_for_reading}
use Rattle.book.proofs.CallLemmas.{is_reading_call, one_call}
use Rattle.asking.proofs.count.ask_count.Goals as goal

pub returns : goal.returns
returns g c =
    let it = c.count-count.ensures in
    let call : HasRead g.S.Store c.args.book.now c.count-count.new.self c.count-count.result = record { failed = it.failed; shut = it.shut; unchanged = it.unchanged; kept = it.kept } in
    record {
      asked = record {
        count = c.count-count.result;
        has_counted = record { call = call; counted = it.count; tables = it.shown };
        reported = c.write_count.ensures;
      };
      calls = one_call g.S.Store (call_for_reading c.count-count.result) (is_reading_call g.S.Store c.count-count.result call);
    }
