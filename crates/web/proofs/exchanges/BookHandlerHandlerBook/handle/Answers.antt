use Rattle.std.proofs.Common.{rules}
use Rattle.request.specs.Subjects.{subject_copied}
use Rattle.http_message.specs.declared.plan.Submission.TheVariants.{Check, Command, LineChecks, Lines}
use Rattle.http_exchange.specs.Handler.{answer_or_fault, submit}
use Rattle.web.specs.Handling.{IsHandled}
use Rattle.web.proofs.CountHandled.{count_handled}
use Rattle.web.proofs.Handled.{check_handled, desk_handled, report_handled, request_handled}
use Rattle.web.proofs.LinesHandled.{checks_handled, lines_handled}
use Rattle.web.proofs.exchanges.BookHandlerHandlerBook.handle.Goals as goal

pub returns-in-Submit-Command-default : goal.returns-in-Submit-Command-default
returns-in-Submit-Command-default g c =
    let here = c.in-Submit-Command-default in
    let it = c.ask_request.ensures in
    let did : IsHandled g.S.Store c.args.book.now c.ask_request.new.book (submit Command here.body.now) (answer_or_fault c.respond.result) =
    rw c.respond.ensures (request_handled g.S.Store c.args.book.now c.ask_request.new.book here.body.now c.ask_request.result it.asked it.calls) in
    search (rules, did)

pub returns-in-Submit-Check-default : goal.returns-in-Submit-Check-default
returns-in-Submit-Check-default g c =
    let here = c.in-Submit-Check-default in
    let it = c.check_request.ensures in
    let did : IsHandled g.S.Store c.args.book.now c.check_request.new.book (submit Check here.body.now) (answer_or_fault c.respond-in-Submit-Check-default.result) =
    rw c.respond-in-Submit-Check-default.ensures (check_handled g.S.Store c.args.book.now c.check_request.new.book here.body.now c.check_request.result it.checked it.calls) in
    search (rules, did)

pub returns-in-Submit-Lines-default : goal.returns-in-Submit-Lines-default
returns-in-Submit-Lines-default g c =
    let here = c.in-Submit-Lines-default in
    let it = c.ask_lines.ensures in
    let did : IsHandled g.S.Store c.args.book.now c.ask_lines.new.book (submit Lines here.body.now) (answer_or_fault c.respond_lines.result) =
    rw c.respond_lines.ensures (lines_handled g.S.Store c.args.book.now c.ask_lines.new.book it.calls here.body.now c.ask_lines.result it.asked) in
    search (rules, did)

pub returns-in-Submit-LineChecks-default : goal.returns-in-Submit-LineChecks-default
returns-in-Submit-LineChecks-default g c =
    let here = c.in-Submit-LineChecks-default in
    let it = c.check_lines.ensures in
    let did : IsHandled g.S.Store c.args.book.now c.check_lines.new.book (submit LineChecks here.body.now) (answer_or_fault c.respond_lines-in-Submit-LineChecks-default.result) =
    rw c.respond_lines-in-Submit-LineChecks-default.ensures (checks_handled g.S.Store c.args.book.now c.check_lines.new.book it.calls here.body.now c.check_lines.result it.checked) in
    search (rules, did)

pub returns-in-Show : goal.returns-in-Show
returns-in-Show g c =
    let it = c.ask_report.ensures in
    rw c.in-Show.is (report_handled g.S.Store c.args.book.now c.ask_report.new.book (subject_copied c.in-Show.subject) c.in-Show.form it.calls c.ask_report.result (answer_or_fault c.show.result)
    it.asked c.show.ensures)

pub returns-in-ShowDesk : goal.returns-in-ShowDesk
returns-in-ShowDesk g c = rw c.in-ShowDesk.is (desk_handled g.S.Store c.args.book.now (answer_or_fault c.show_desk.result) c.show_desk.ensures)

pub returns-in-ShowCount : goal.returns-in-ShowCount
returns-in-ShowCount g c =
    let it = c.ask_count.ensures in
    rw (c.in-ShowCount.is, c.show_count.ensures) (count_handled g.S.Store c.args.book.now c.ask_count.new.book it.calls c.ask_count.result it.asked)
