use Rattle.aux_components.proofs.FileLemmas.{same_components}
use Rattle.aux_components.proofs.laws.files_are_read_in_one_way.Goals as goal

pub returns : goal.returns
returns c = same_components
