use Rattle.run_picture.proofs.Nested.{well_formed}
use Rattle.run_picture.proofs.laws.a_picture_is_well_formed.Goals as goal

pub returns : goal.returns
returns c = well_formed
