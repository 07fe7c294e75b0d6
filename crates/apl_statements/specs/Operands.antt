-- The arguments of a function among the values of a statement.
use Rattle.std.specs.Prelude.{◌++◌, ℕ, Bool, true, false, List, ◌∷◌, option_to_list}
use Rattle.apl_values.specs.declared.values.StackValue.{StackValue}
use Rattle.apl_statements.specs.declared.evaluation.Operands.{Operands}

-- the arguments in the order in which they were evaluated: the right one, the axis, and the left one
abbrev pub operand_list : Operands → List StackValue
operand_list operands = operands.right ∷ (option_to_list operands.axis ++ option_to_list operands.left)

-- how many there are
abbrev pub operand_count : Bool → Bool → ℕ
operand_count false false = 1
operand_count false true = 2
operand_count true false = 2
operand_count true true = 3
