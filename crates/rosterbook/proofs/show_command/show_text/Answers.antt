use Rattle.std.proofs.lemmas.Result.{IfOk-weaker}
use Rattle.rosterbook.proofs.Showing.{some_told}
use Rattle.rosterbook.proofs.show_command.show_text.Goals as goal

pub returns-clause-some : goal.returns-clause-some
returns-clause-some g c =
    IfOk-weaker c.print_shown.result _ _
    (λ status prints. some_told g.S.Store c.args.book.now c.ask_report.new.book _ _ c.in_ok-shown.shown status _ _ _ _ prints c.in_ok-shown.ensures.asked)
    c.print_shown.ensures.printed
