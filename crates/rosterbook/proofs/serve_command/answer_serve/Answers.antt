use Rattle.std.proofs.Common.{inl, inr, refl}
use Rattle.std.proofs.lemmas.Result.{IfErr-weaker, IfOk-weaker}
use Rattle.sqlite.specs.Files.{over_files}
use Rattle.book.proofs.CallLemmas.{no_calls}
use Rattle.rosterbook.proofs.ByFiles.{refused_as, session}
use Rattle.rosterbook.proofs.ServedInTurn.{calls_of_ended, ended_as}
use Rattle.rosterbook.proofs.serve_command.answer_serve.Goals as goal

-- (the book isn't opened)
pub returns-in-Err-clause-refused : goal.returns-in-Err-clause-refused
returns-in-Err-clause-refused g c = refused_as _ _ c.of_refusal.ensures.left c.in-Err.refused.fault c.in-Err.refused.left _ _ c.of_refusal.ensures.refused c.of_refusal.ensures.done c.in-Err.ensures.refused

-- (the port isn't bound)
pub returns-in_default-clause-stopped : goal.returns-in_default-clause-stopped
returns-in_default-clause-stopped g c =
    let book = c.in-Ok.book in (
      book,
      book,
      session _ book book c.close.result c.in-Ok.ensures.means c.close.ensures.disk c.close.ensures.crash c.in-Ok.ensures.fresh (no_calls over_files refl),
      inl (refl, refl, refl, refl),
    )

-- (it isn't reported)
pub returns-in-Err-tell_port-clause-stopped : goal.returns-in-Err-tell_port-clause-stopped
returns-in-Err-tell_port-clause-stopped g c =
    let book = c.in-Ok.book in (
      book,
      book,
      session _ book book c.close-in-Err-tell_port.result c.in-Ok.ensures.means c.close-in-Err-tell_port.ensures.disk c.close-in-Err-tell_port.ensures.crash c.in-Ok.ensures.fresh
          (no_calls over_files refl),
      inr (inl (c.from.ensures, refl, refl)),
    )

-- (connections are served)
pub returns-clause-served : goal.returns-clause-served
returns-clause-served g c =
    let book = c.in-Ok.book in
    let last = c.serve_all-ending.new.book in
    let after = calls_of_ended over_files c.args.connections book last _ _ c.serve_all-ending.result.told c.serve_all-ending.result.failed c.serve_all-ending.ensures in
    let told = ended_as over_files c.args.port c.args.connections book last _ _ _ _ c.serve_all-ending.result.told c.serve_all-ending.result.failed
    c.status_of.result c.status_of.ensures c.in_default-tell_port.ensures c.serve_all-ending.ensures in
    IfOk-weaker c.status_of.result _ _ (λ status it. (
      book,
      last,
      session _ book last c.close-2.result c.in-Ok.ensures.means c.close-2.ensures.disk c.close-2.ensures.crash c.in-Ok.ensures.fresh after,
      it,
    )) told.0

pub returns-clause-stopped : goal.returns-clause-stopped
returns-clause-stopped g c =
    let book = c.in-Ok.book in
    let last = c.serve_all-ending.new.book in
    let after = calls_of_ended over_files c.args.connections book last _ _ c.serve_all-ending.result.told c.serve_all-ending.result.failed c.serve_all-ending.ensures in
    let told = ended_as over_files c.args.port c.args.connections book last _ _ _ _ c.serve_all-ending.result.told c.serve_all-ending.result.failed
    c.status_of.result c.status_of.ensures c.in_default-tell_port.ensures c.serve_all-ending.ensures in
    IfErr-weaker c.status_of.result _ _ (λ stop it. (
      book,
      last,
      session _ book last c.close-2.result c.in-Ok.ensures.means c.close-2.ensures.disk c.close-2.ensures.crash c.in-Ok.ensures.fresh after,
      inr it,
    )) told.1
