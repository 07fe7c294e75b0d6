use Rattle.run_picture.proofs.EachOnce.{shows_each}
use Rattle.run_picture.proofs.laws.a_picture_shows_each_entry_once.Goals as goal

pub returns : goal.returns
returns c = shows_each
