use Rattle.std.proofs.Common.{◌≡◌, ◌+◌, map, take}
use Rattle.apl_arrays.specs.List.{glyphs_in}
use Rattle.fn_editor.specs.Editor.{numbered}
use Rattle.fn_editor.specs.Number.{line_number}
use Rattle.fn_editor.proofs.editor.numbered.Given as goal

-- the lines so far, and the number after them
abbrev pub invariant-loop-line : goal.invariant-loop-line
invariant-loop-line l = record {
  lines : l.map.entries ≡ numbered 1 (map glyphs_in (take l.line-index l.lines));
  number : l.number ≡ line_number (l.line-index + 1) 0;
}
