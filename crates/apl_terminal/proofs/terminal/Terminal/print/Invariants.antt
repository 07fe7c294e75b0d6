use Rattle.std.proofs.Common.{◌≡◌, ◌++◌, map}
use Rattle.apl_arrays.specs.List.{glyphs_in}
use Rattle.apl_terminal.proofs.terminal.Terminal.print.Given as goal

-- the lines so far are printed
abbrev pub invariant-loop-line : goal.invariant-loop-line
invariant-loop-line l = record {
  workspace : l.self-inside.workspace ≡ l.initial.self-inside.workspace;
  id : l.self-inside.id ≡ l.initial.self-inside.id;
  definition : l.self-inside.editor ≡ l.initial.self-inside.editor;
  printed : l.self-inside.transcript.items ≡ l.initial.self-inside.transcript.items ++ map glyphs_in l.yielded;
  ended : l.self-inside.ended ≡ l.initial.self-inside.ended;
}
