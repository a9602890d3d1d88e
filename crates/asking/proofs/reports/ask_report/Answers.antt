use Rattle.std.proofs.Common.{inr, refl}
use Rattle.book.specs.Calls.{call_for_reading}
use Rattle.book.proofs.CallLemmas.{is_reading_call, no_calls, one_call}
use Rattle.asking.proofs.Asked.{has_shown, report_shown}
use Rattle.asking.proofs.reports.ask_report.Goals as goal

pub returns-in_default : goal.returns-in_default
returns-in_default g c = record { asked = inr (refl, refl); calls = no_calls g.S.Store refl }

pub returns : goal.returns
returns g c =
    let shown = c.show-shown.ensures in
    let has = has_shown g.S.Store c.args.book.now c.show-shown.new.self c.in-Ok.what c.show-shown.result shown.failed shown.shut shown.unchanged shown.kept shown.text shown.part shown.shown in
    record {
      asked = report_shown g.S.Store c.args.book.now c.show-shown.new.self c.in-Ok.what _ c.args.form c.write_report.result c.in-Ok.ensures
          (record { shown = c.show-shown.result; has_shown = has; reported = c.write_report.ensures });
      calls = one_call g.S.Store (call_for_reading c.show-shown.result) (is_reading_call g.S.Store c.show-shown.result has.call);
    }
