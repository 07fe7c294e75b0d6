use Rattle.std.proofs.Common.{arith}
use Rattle.run_picture.proofs.CutTexts.{cut_short}
use Rattle.run_picture.proofs.laws.things_stand_apart.Goals as goal

pub returns : goal.returns
returns c = record {
  lanes = λ lanes party other. omega arith;
  cut = cut_short;
}
