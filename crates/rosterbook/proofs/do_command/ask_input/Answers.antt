use Rattle.rosterbook.proofs.do_command.ask_input.Goals as goal

pub returns-in-false-false-clause-answered : goal.returns-in-false-false-clause-answered
returns-in-false-false-clause-answered g c = rw (c.in-false-false.is-0, c.in-false-false.is-1) c.ask_json.ensures.asked

pub returns-in-false-false-clause-stopped : goal.returns-in-false-false-clause-stopped
returns-in-false-false-clause-stopped g c = rw (c.in-false-false.is-0, c.in-false-false.is-1) c.ask_json.ensures.stopped

pub returns-in-true-false-clause-answered : goal.returns-in-true-false-clause-answered
returns-in-true-false-clause-answered g c = rw (c.in-true-false.is-0, c.in-true-false.is-1) c.check_json.ensures.checked

pub returns-in-true-false-clause-stopped : goal.returns-in-true-false-clause-stopped
returns-in-true-false-clause-stopped g c = rw (c.in-true-false.is-0, c.in-true-false.is-1) c.check_json.ensures.stopped

pub returns-in-false-true-clause-answered : goal.returns-in-false-true-clause-answered
returns-in-false-true-clause-answered g c = rw (c.in-false-true.is-0, c.in-false-true.is-1) c.ask_lines.ensures.answered

pub returns-in-false-true-clause-stopped : goal.returns-in-false-true-clause-stopped
returns-in-false-true-clause-stopped g c = rw (c.in-false-true.is-0, c.in-false-true.is-1) c.ask_lines.ensures.stopped

pub returns-in-true-true-clause-answered : goal.returns-in-true-true-clause-answered
returns-in-true-true-clause-answered g c = rw (c.in-true-true.is-0, c.in-true-true.is-1) c.check_lines.ensures.checked

pub returns-in-true-true-clause-stopped : goal.returns-in-true-true-clause-stopped
returns-in-true-true-clause-stopped g c = rw (c.in-true-true.is-0, c.in-true-true.is-1) c.check_lines.ensures.stopped
