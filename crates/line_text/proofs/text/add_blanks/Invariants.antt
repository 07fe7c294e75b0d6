use Rattle.std.proofs.Common.{◌≡◌, ◌++◌, replicate}
use Rattle.apl_arrays.specs.Glyph.{blank}
use Rattle.line_text.proofs.text.add_blanks.Given as goal

abbrev pub invariant-loop : goal.invariant-loop
invariant-loop l = l.line.items ≡ l.fn.line.items ++ replicate l.counter blank
