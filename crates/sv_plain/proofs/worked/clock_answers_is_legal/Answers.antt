use Rattle.std.proofs.Common.{rules}
use Rattle.std.specs.Fmt.{digits}
use Rattle.sv_plain.proofs.worked.clock_answers_is_legal.Goals as goal

pub returns-clause-legal : goal.returns-clause-legal
unfolding digits
returns-clause-legal c = search rules

pub returns-clause-own_value : goal.returns-clause-own_value
unfolding digits
returns-clause-own_value c = search rules

pub returns-clause-owners : goal.returns-clause-owners
unfolding digits
returns-clause-owners c = search rules

pub returns-clause-reply : goal.returns-clause-reply
unfolding digits
returns-clause-reply c = search rules
