use Rattle.std.proofs.Common.{refl}
use Rattle.std.specs.Fmt.{digits}
use Rattle.apl_display.proofs.worked.numbers_become_characters.Goals as goal

pub returns : goal.returns
unfolding digits
returns c = record {
  scalar = refl;
  vector = refl;
  matrix = refl;
  matrices = refl;
  no_rows = refl;
  no_columns = refl;
  characters = refl;
}
