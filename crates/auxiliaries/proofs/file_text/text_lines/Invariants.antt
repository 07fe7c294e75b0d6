use Rattle.std.proofs.Common.{ℕ, List, ◌++◌, map, length}
use Rattle.std.specs.List.{AllZip}
use Rattle.apl_arrays.specs.List.{glyphs_in}
use Rattle.auxiliaries.specs.File.{lines_in, IsFileLine}
use Rattle.auxiliaries.proofs.file_text.text_lines.Given as goal

abbrev pub invariant-loop-rest : goal.invariant-loop-rest
invariant-loop-rest l = record {
  spelt : (more : List (List ℕ)) → AllZip IsFileLine (lines_in l.rest) more → AllZip IsFileLine (lines_in l.bytes) (map glyphs_in l.lines.items ++ more);
  others : (lines : List (List ℕ)) → AllZip IsFileLine (lines_in l.bytes) lines → (more : List (List ℕ)) × AllZip IsFileLine (lines_in l.rest) more;
}

abbrev pub decreases-loop-rest : goal.decreases-loop-rest
decreases-loop-rest l = length l.rest
