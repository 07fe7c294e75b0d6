use Rattle.std.proofs.Common.{rules}
use Rattle.std.specs.Fmt.{digits}
use Rattle.sv_plain.proofs.worked.file_is_copied_is_legal.Goals as goal

pub returns-clause-legal : goal.returns-clause-legal
unfolding digits
returns-clause-legal c = search rules

pub returns-clause-pair : goal.returns-clause-pair
unfolding digits
returns-clause-pair c = search rules

pub returns-clause-owners : goal.returns-clause-owners
unfolding digits
returns-clause-owners c = search rules
