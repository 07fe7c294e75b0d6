use Rattle.std.proofs.Common.{rules}
use Rattle.std.specs.Fmt.{digits}
use Rattle.sv_plain.proofs.worked.text_files_answer_is_legal.Goals as goal

pub returns-clause-legal : goal.returns-clause-legal
unfolding digits
returns-clause-legal c = search rules

pub returns-clause-other_reply : goal.returns-clause-other_reply
unfolding digits
returns-clause-other_reply c = search rules

pub returns-clause-owner : goal.returns-clause-owner
unfolding digits
returns-clause-owner c = search rules

pub returns-clause-name : goal.returns-clause-name
unfolding digits
returns-clause-name c = search rules

pub returns-clause-control : goal.returns-clause-control
unfolding digits
returns-clause-control c = search rules
