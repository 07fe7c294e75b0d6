use Rattle.std.proofs.Common.{refl}
use Rattle.std.specs.Fmt.{digits}
use Rattle.apl_display.proofs.worked.numbers_stand_at_the_right.Goals as goal

pub returns : goal.returns
unfolding digits
returns c = record {
  two_rows = refl;
  one_column = refl;
  vector = refl;
  scalar = refl;
}
