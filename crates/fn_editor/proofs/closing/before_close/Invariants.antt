use Rattle.std.proofs.Common.{◌≡◌, ◌≤◌, true, length, drop}
use Rattle.fn_editor.specs.Closing.{is_blank_text}
use Rattle.fn_editor.proofs.closing.before_close.Given as goal

-- only blanks stand from here on
abbrev pub invariant-loop-end : goal.invariant-loop-end
invariant-loop-end l = (l.end ≤ length l.line) × (is_blank_text (drop l.end l.line) ≡ true)

abbrev pub decreases-loop-end : goal.decreases-loop-end
decreases-loop-end l = l.end
