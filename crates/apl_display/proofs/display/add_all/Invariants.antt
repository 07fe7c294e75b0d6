use Rattle.std.proofs.Common.{◌≡◌, ◌++◌, map}
use Rattle.apl_arrays.specs.List.{glyphs_in}
use Rattle.apl_display.proofs.display.add_all.Given as goal

abbrev pub invariant-loop-line : goal.invariant-loop-line
invariant-loop-line l = l.lines.items ≡ l.initial.lines.items ++ map glyphs_in l.yielded
