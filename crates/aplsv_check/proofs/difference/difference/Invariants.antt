use Rattle.std.proofs.Common.{map}
use Rattle.apl_arrays.specs.List.{glyphs_in}
use Rattle.aplsv_check.proofs.Differences.{AreSameUpTo}
use Rattle.aplsv_check.proofs.difference.difference.Given as goal

abbrev pub invariant-loop-at : goal.invariant-loop-at
invariant-loop-at l = AreSameUpTo (map glyphs_in l.lines) (map glyphs_in l.others) l.at
