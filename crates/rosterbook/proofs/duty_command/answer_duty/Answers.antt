use Rattle.rosterbook.proofs.RefusalLemmas.{gives-refusal}
use Rattle.rosterbook.proofs.duty_command.answer_duty.Goals as goal

pub returns-in_ok-refuse-in-Err : goal.returns-in_ok-refuse-in-Err
returns-in_ok-refuse-in-Err g c =
    gives-refusal c.in-Err.fault _ c.of_fault.result _ _ _ c.of_fault.ensures.failed c.of_fault.ensures.refused
    c.in-Err.ensures.refused c.in_ok-refuse-in-Err.ensures
