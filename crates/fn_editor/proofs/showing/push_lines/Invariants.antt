use Rattle.std.proofs.Common.{◌≡◌, ◌++◌, map}
use Rattle.std.specs.Map.Iter.{deref_pair}
use Rattle.fn_editor.specs.Editor.{shown_line}
use Rattle.fn_editor.proofs.showing.push_lines.Given as goal

-- the lines so far stand behind their prompts
abbrev pub invariant-loop-number : goal.invariant-loop-number
invariant-loop-number l = l.list.items ≡ l.fn.list.items ++ map shown_line (map deref_pair l.yielded)
