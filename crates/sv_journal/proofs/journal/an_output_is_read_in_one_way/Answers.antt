use Rattle.sv_journal.proofs.SameOutput.{same_output}
use Rattle.sv_journal.proofs.journal.an_output_is_read_in_one_way.Goals as goal

pub returns : goal.returns
returns c = same_output
