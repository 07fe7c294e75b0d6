use Rattle.std.proofs.Common.{refl}
use Rattle.std.specs.Fmt.{digits}
use Rattle.apl_display.proofs.worked.nothing_is_shown.Goals as goal

pub returns : goal.returns
unfolding digits
returns c = record {
  numbers = refl;
  characters = refl;
  no_columns = refl;
  no_rows = refl;
  no_matrices = refl;
}
