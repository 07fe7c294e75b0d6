use Rattle.std.proofs.Common.{◌≡◌, [], drop}
use Rattle.line_trees.specs.declared.machine.Before.TheVariants as before
use Rattle.line_trees.specs.declared.machine.Mode.TheVariants.{Begins}
use Rattle.line_trees.specs.Marks.{marks_from}
use Rattle.line_trees.proofs.Loops.{with_marks}
use Rattle.line_trees.proofs.marking.marks_of.Given as goal

-- the marks so far and those of the tokens to come are all
abbrev pub invariant-loop-token : goal.invariant-loop-token
invariant-loop-token l =
    with_marks l.marks.items (marks_from l.classes.items l.tokens.length l.mode l.brackets (drop l.token-index l.tokens.tokens.items)) ≡ marks_from l.classes.items l.tokens.length (Begins before.Line) [] l.tokens.tokens.items
