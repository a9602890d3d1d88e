use Rattle.std.proofs.Common.{◌∙◌, sym}
use Rattle.http_message.specs.declared.plan.Submission.TheVariants as submission
use Rattle.http_exchange.specs.Handler.{answer_or_fault, submit}
use Rattle.web.proofs.Handled.{no_memory, tells_text}
use Rattle.web.proofs.PartsAsked.{added, added_by_failed, not_read, stopped, unheard}
use Rattle.web.proofs.imports.answer_schedule.Goals as goal

pub returns-in_default : goal.returns-in_default
returns-in_default g c = no_memory g.S.Store c.args.book.now (submit (submission.Import c.args.number) c.args.body.now)

pub returns-in-Ok-ask_schedule : goal.returns-in-Ok-ask_schedule
returns-in-Ok-ask_schedule g c =
    let it = c.in-Ok-ask_schedule.ensures in
    added_by_failed g.S.Store c.args.book.now c.ask_schedule.new.book it.calls c.in-Ok.parts c.ask_schedule.new.listener c.args.number c.args.body.now
    (sym c.has_failed.ensures ∙ c.if-has_failed.true) it.asked

pub returns-in-Ok-2 : goal.returns-in-Ok-2
returns-in-Ok-2 g c =
    let it = c.in-Ok-2.ensures in
    added g.S.Store c.args.book.now c.ask_schedule.new.book it.calls c.in-Ok.parts c.ask_schedule.new.listener c.args.number c.args.body.now
    c.in-Ok.ensures (sym c.has_failed.ensures ∙ c.if-has_failed.false) (answer_or_fault c.in_json.result) (tells_text _ c.end.result _ (answer_or_fault c.in_json.result) c.end.ensures c.in_json.ensures) it.asked

pub returns-in-Err-Unread : goal.returns-in-Err-Unread
returns-in-Err-Unread g c =
    let it = c.in-Err-Unread.ensures in
    not_read g.S.Store c.args.book.now c.ask_schedule.new.book it.calls c.in-Ok.parts c.ask_schedule.new.listener c.args.number c.args.body.now
    c.in-Err-Unread.fault (answer_or_fault c.respond_unread.result) c.respond_unread.ensures (rw c.in-Err-Unread.field-0-is at it.asked)

pub returns-in-Err-Ask : goal.returns-in-Err-Ask
returns-in-Err-Ask g c =
    let it = c.in-Err-Ask.ensures in
    rw c.fault_of.ensures (stopped g.S.Store c.args.book.now c.ask_schedule.new.book it.calls c.in-Ok.parts c.ask_schedule.new.listener c.args.number c.args.body.now
    c.in-Err-Ask.fault (rw c.in-Err-Ask.field-0-is at it.asked))

pub returns : goal.returns
returns g c =
    let it = c.in-Err-Unheard.ensures in
    unheard g.S.Store c.args.book.now c.ask_schedule.new.book it.calls c.in-Ok.parts c.ask_schedule.new.listener c.args.number c.args.body.now
    c.in-Err-Unheard.field-0-0 (rw c.in-Err-Unheard.field-0-is at it.asked)
