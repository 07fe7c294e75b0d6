use Rattle.std.proofs.Common.{length}
use Rattle.apl_values.specs.Rows.{AreRows, rest_of_rows, rows_left}
use Rattle.apl_statements.specs.Moves.{part_gives}
use Rattle.apl_statements.proofs.Same.{SameAt}
use Rattle.apl_statements.proofs.interpreter.Interpreter.next_row.Given as goal

-- the rows so far asked no act
abbrev pub invariant-loop-row : goal.invariant-loop-row
invariant-loop-row l = record {
  rows : AreRows l.self.workspace l.rows;
  same : SameAt l.self (part_gives l.self l.e (rest_of_rows l.fn.rows.numbers.items (rows_left l.fn.rows) l.fn.rows.shape.items)) (part_gives l.self l.e (rest_of_rows l.rows.numbers.items (rows_left l.rows) l.rows.shape.items));
}

abbrev pub decreases-loop-row : goal.decreases-loop-row
decreases-loop-row l = length (rows_left l.rows)
