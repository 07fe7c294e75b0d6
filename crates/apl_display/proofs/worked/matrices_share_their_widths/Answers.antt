use Rattle.std.proofs.Common.{refl}
use Rattle.std.specs.Fmt.{digits}
use Rattle.apl_display.proofs.worked.matrices_share_their_widths.Goals as goal

pub returns : goal.returns
unfolding digits
returns c = record {
  wider_below = refl;
  rank_4 = refl;
  characters = refl;
}
