use Rattle.run_picture.proofs.EscapeLaws.{reads_back, signless}
use Rattle.run_picture.proofs.laws.texts_are_read_back.Goals as goal

pub returns : goal.returns
returns c = record { again = reads_back; signs = signless }
