use Rattle.sv_events.specs.Answer.{plain_answer}
use Rattle.sv_rules.specs.Outcome as rules
use Rattle.sv_plain.specs.declared.outcome.ActOutcome.{ActOutcome}

-- the outcome, whatever room is left in its lists
abbrev pub plain_outcome : ActOutcome → rules.ActOutcome
plain_outcome o = record { answer = plain_answer o.answer; made = o.made.items }
