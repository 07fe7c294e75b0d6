use Rattle.std.proofs.Common.{◌≡◌, take, map}
use Rattle.apl_arrays.specs.List.{glyphs_in}
use Rattle.apl_workspace.specs.Label.{AreLabels}
use Rattle.apl_workspace.proofs.label.labelled_lines.Given as goal

-- the labels are those of the lines so far, and so many are these
abbrev pub invariant-loop-line : goal.invariant-loop-line
invariant-loop-line l = record {
  labels : AreLabels (map glyphs_in (take l.line-index l.lines)) l.labels.items;
  number : l.number ≡ l.line-index;
}
