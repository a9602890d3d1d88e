use Rattle.std.proofs.Common.{rules, refl, sym, subst}
use Rattle.rosterbook.specs.Asking.{IsImportStopped}
use Rattle.rosterbook.proofs.PartsAdded.{imported, refused, refused_untold, same_writer, same_writer_at_fault, same_writer_unread, stopped, unwritten}
use Rattle.rosterbook.proofs.Stopping.{err_told}
use Rattle.rosterbook.proofs.import_command.import_csv.Goals as goal

pub returns-in-Ok-clause-imported : goal.returns-in-Ok-clause-imported
returns-in-Ok-clause-imported g c =
    let text = c.in_ok-text.text.items in
    let asked = rw c.deref.ensures.value at c.in-Ok.ensures.asked in
    let same = same_writer g.S.Store g.O.Write.contents c.args.book.now c.ask_schedule.new.book _ c.ask_schedule.new.listener c.args.number text asked in
    imported g.S.Store g.O.Write.contents c.args.book.now c.ask_schedule.new.book _ c.ask_schedule.new.listener c.args.number text _ c.in_ok-text.ensures _ (search (rules, same)) _ refl asked

pub returns-in-Err-Unread-clause-imported : goal.returns-in-Err-Unread-clause-imported
returns-in-Err-Unread-clause-imported g c =
    let text = c.in_ok-text.text.items in
    let fault = c.in-Err-Unread.fault in
    let asked = rw (c.deref.ensures.value, c.in-Err-Unread.field-0-is) at c.in-Err-Unread.ensures.asked in
    let same = same_writer_unread g.S.Store g.O.Write.contents c.args.book.now c.ask_schedule.new.book _ c.ask_schedule.new.listener c.args.number text fault asked in
    refused g.S.Store g.O.Write.contents c.args.book.now c.ask_schedule.new.book _ c.ask_schedule.new.listener c.args.number text _ c.in_ok-text.ensures _ (search (rules, same)) _ _ fault asked (rw c.in-Err-Unread.field-0-is at c.in_ok-refuse-in-Err-Unread.ensures)

pub returns-in_err-refuse-in-Err-Unread-clause-stopped : goal.returns-in_err-refuse-in-Err-Unread-clause-stopped
returns-in_err-refuse-in-Err-Unread-clause-stopped g c =
    let text = c.in_ok-text.text.items in
    let fault = c.in-Err-Unread.fault in
    let asked = rw (c.deref.ensures.value, c.in-Err-Unread.field-0-is) at c.in-Err-Unread.ensures.asked in
    let same = same_writer_unread g.S.Store g.O.Write.contents c.args.book.now c.ask_schedule.new.book _ c.ask_schedule.new.listener c.args.number text fault asked in
    err_told c.from_residual-in_err-refuse-in-Err-Unread.result _ _ c.from_residual-in_err-refuse-in-Err-Unread.ensures.1 (λ stop which.
    refused_untold g.S.Store g.O.Write.contents c.args.book.now c.ask_schedule.new.book _ c.ask_schedule.new.listener c.args.number text _ c.in_ok-text.ensures _ (search (rules, same)) _ _ fault stop which asked)

pub returns-in-Err-Ask-clause-stopped : goal.returns-in-Err-Ask-clause-stopped
returns-in-Err-Ask-clause-stopped g c =
    let text = c.in_ok-text.text.items in
    let fault = c.in-Err-Ask.fault in
    let asked = rw (c.deref.ensures.value, c.in-Err-Ask.field-0-is) at c.in-Err-Ask.ensures.asked in
    let same = same_writer_at_fault g.S.Store g.O.Write.contents c.args.book.now c.ask_schedule.new.book _ c.ask_schedule.new.listener c.args.number text fault asked in
    subst (IsImportStopped g.S.Store c.args.book.now c.ask_schedule.new.book c.args.number _ _ _ _ _) (sym (rw c.in-Err-Ask.field-0-is at c.from.ensures))
    (stopped g.S.Store g.O.Write.contents c.args.book.now c.ask_schedule.new.book _ c.ask_schedule.new.listener c.args.number text _ c.in_ok-text.ensures _ (search (rules, same)) _ fault asked)

pub returns-clause-stopped : goal.returns-clause-stopped
returns-clause-stopped g c =
    let text = c.in_ok-text.text.items in
    let error = c.in-Err-Unheard.error in
    let asked = rw (c.deref.ensures.value, c.in-Err-Unheard.field-0-is) at c.in-Err-Unheard.ensures.asked in
    unwritten g.S.Store g.O.Write.contents c.args.book.now c.ask_schedule.new.book _ c.ask_schedule.new.listener c.args.number text _ c.in_ok-text.ensures _ _ error _ c.from-in-Err-Unheard.ensures asked
