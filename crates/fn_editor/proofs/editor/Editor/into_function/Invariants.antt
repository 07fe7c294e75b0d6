use Rattle.std.proofs.Common.{◌≡◌}
use Rattle.fn_editor.proofs.editor.Editor.into_function.Given as goal

-- the lines so far
abbrev pub invariant-loop-text : goal.invariant-loop-text
invariant-loop-text l = l.lines.items ≡ l.yielded
