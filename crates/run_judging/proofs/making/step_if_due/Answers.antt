use Rattle.std.proofs.lemmas.Bool.{both_ways}
use Rattle.sv_events.specs.Entry.{plain_entry}
use Rattle.run_judging.proofs.JudgeLemmas.{stepped}
use Rattle.run_judging.proofs.making.step_if_due.Goals as goal

pub returns-in_ok-step : goal.returns-in_ok-step
returns-in_ok-step c = stepped c.args.core.now c.step.new.core (plain_entry c.args.entry.now) c.in_ok-step.ensures

pub returns-else-due : goal.returns-else-due
returns-else-due c = λ may. both_ways c.is_due-due.result c.if-due.false (c.is_due-due.ensures.1 may.due)
