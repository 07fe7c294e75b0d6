-- The nodes of a line, built from the marks of its tokens from right to left, which is the order of evaluation.
use Rattle.std.specs.Prelude.{◌++◌, ℕ, Bool, true, false, List, [], ◌∷◌, Option, Some, None, length}
use Rattle.apl_arrays.specs.Array.{PlainItems}
use Rattle.apl_arrays.specs.Array as array
use Rattle.apl_verbs.specs.declared.verb.Dyad.{Dyad}
use Rattle.apl_verbs.specs.declared.verb.Monad.{Monad}
use Rattle.apl_verbs.specs.declared.verb.Verb.TheVariants as verb
use Rattle.line_scanner.specs.Token.{PlainKind, numbers, chars, name, system, sign, PlainToken}
use Rattle.line_trees.specs.declared.tree.Fun.{Fun}
use Rattle.line_trees.specs.declared.tree.Fun.TheVariants as fun
use Rattle.line_trees.specs.declared.symbol.Fold.{Fold}
use Rattle.line_trees.specs.declared.tree.Mark.{Mark}
use Rattle.line_trees.specs.declared.tree.Mark.TheVariants as mark
use Rattle.line_trees.specs.declared.tree.Pending.{Pending}
use Rattle.line_trees.specs.declared.tree.Pending.TheVariants as pending
use Rattle.line_trees.specs.declared.symbol.Symbol.{Symbol}
use Rattle.line_trees.specs.declared.symbol.Symbol.TheVariants as symbol
use Rattle.line_trees.specs.declared.class.Class.{Class}
use Rattle.line_trees.specs.Signs.{folded, between}
use Rattle.line_trees.specs.Symbols.{symbol_of}
use Rattle.apl_arrays.specs.List.{first_of, others_of}
use Rattle.line_trees.specs.Nodes.{PlainNode, constant, value, niladic, paren, indexed, apply, assign, assign_at}

-- the numbers of the subscripts of one list, with none for one that is omitted
abbrev pub Numbers : Type 0
Numbers = List (Option ℕ)

-- the label of a line, its nodes so far, what waits for more to the left, the leftmost first, and the lists of subscripts that wait for the operand before them
pub record Built : Type 0 where
  pub label : Option (List ℕ)
  pub nodes : List PlainNode
  pub waiting : List Pending
  pub lists : List Numbers

-- nothing has been read
abbrev pub nothing_built : Built
nothing_built = record { label = None; nodes = []; waiting = []; lists = [] }

-- other things wait
abbrev pub with_waiting : Built → List Pending → Built
with_waiting b waiting = record { label = b.label; nodes = b.nodes; waiting = waiting; lists = b.lists }

-- a whole expression, the number of its node given
abbrev pub whole_expression : ℕ → Pending
whole_expression n = pending.Expr None n

-- a node more, which is a whole expression, and what waits behind it
abbrev pub with_whole : Built → PlainNode → List Pending → Built
with_whole b n waiting = record { label = b.label; nodes = b.nodes ++ n ∷ []; waiting = whole_expression (length b.nodes) ∷ waiting; lists = b.lists }

-- the first list
abbrev pub first_list : List Numbers → Numbers
first_list [] = []
first_list (list ∷ lists) = list

-- the lists behind the first
abbrev pub other_lists : List Numbers → List Numbers
other_lists [] = []
other_lists (list ∷ lists) = lists

-- an operand whose value has this number, where no subscripts wait: a dyadic function that waits takes it, and else it is a whole expression
abbrev pub finished : Option (List ℕ) → ℕ → List PlainNode → List Pending → List Numbers → Option Pending → List Pending → Built
finished label v nodes waiting lists (Some (pending.Dyadic f axis right)) others = record { label = label; nodes = nodes ++ apply f (Some v) right axis ∷ []; waiting = whole_expression (length nodes) ∷ others; lists = lists }
finished label v nodes waiting lists first others = record { label = label; nodes = nodes; waiting = whole_expression v ∷ waiting; lists = lists }

-- an operand whose value has this number: lists of subscripts that wait index it first
unfoldable pub attached : Option (List ℕ) → ℕ → List PlainNode → List Pending → List Numbers → Built
attached label v nodes (pending.Indexing ∷ waiting) lists = attached label (length nodes) (nodes ++ indexed v (first_list lists) ∷ []) waiting (other_lists lists)
attached label v nodes waiting lists = finished label v nodes waiting lists (first_of waiting) (others_of waiting)

-- a list of subscripts waits
abbrev pub is_indexing : Option Pending → Bool
is_indexing (Some pending.Indexing) = true
is_indexing first = false

-- the items of a constant
abbrev pub items_of : PlainKind → PlainItems
items_of (numbers list) = array.numbers list
items_of (chars list) = array.chars list
items_of (name n) = array.chars []
items_of (system s) = array.chars []
items_of (sign g) = array.chars []

-- an operand of one more node, and what waits behind it
abbrev pub operand_built : Built → PlainNode → List Pending → Built
operand_built b n waiting = attached b.label (length b.nodes) (b.nodes ++ n ∷ []) waiting b.lists

-- a name of a value: a label, a target, or an operand
abbrev pub name_built : List ℕ → Built → Option Pending → List Pending → Built
name_built n b (Some pending.Label) others = record { label = Some n; nodes = b.nodes; waiting = others; lists = b.lists }
name_built n b (Some (pending.Gets right)) others = with_whole b (assign n right) others
name_built n b (Some (pending.GetsAt right)) others = record { label = b.label; nodes = b.nodes ++ assign_at n (first_list b.lists) right ∷ []; waiting = whole_expression (length b.nodes) ∷ others; lists = other_lists b.lists }
name_built n b first others = operand_built b (value n) b.waiting

-- an expression in parentheses, behind which others wait
abbrev pub parenthesis_behind : ℕ → Built → Option Pending → List Pending → Built
parenthesis_behind e b (Some pending.Parenthesis) others = operand_built b (paren e) others
parenthesis_behind e b first others = with_waiting b others

-- an expression in parentheses
abbrev pub parenthesis_built : Built → Option Pending → List Pending → Built
parenthesis_built b (Some (pending.Expr axis e)) others = parenthesis_behind e b (first_of others) (others_of others)
parenthesis_built b first others = with_waiting b others

-- a subscript ends to the left: it is the expression that was read, or omitted
abbrev pub subscript_built : List Pending → Option Pending → List Pending → List Pending
subscript_built waiting (Some (pending.Expr axis e)) others = pending.Subscript (Some e) ∷ others
subscript_built waiting first others = pending.Subscript None ∷ waiting

-- the subscripts that wait at the front, in the order of the text
abbrev pub subscripts : List Pending → Numbers
subscripts (pending.Subscript place ∷ waiting) = place ∷ subscripts waiting
subscripts waiting = []

-- what waits behind the subscripts at the front
abbrev pub behind_subscripts : List Pending → List Pending
behind_subscripts (pending.Subscript place ∷ waiting) = behind_subscripts waiting
behind_subscripts waiting = waiting

-- a list of subscripts waits for its operand, or before an assignment for its target
abbrev pub target_or_operand : List Pending → Option Pending → List Pending → List Pending
target_or_operand waiting (Some (pending.Gets right)) others = pending.GetsAt right ∷ others
target_or_operand waiting first others = pending.Indexing ∷ waiting

-- the same, behind the bracket that closes the list
abbrev pub indexing : List Pending → List Pending
indexing waiting = target_or_operand (others_of waiting) (first_of (others_of waiting)) (others_of (others_of waiting))

-- a list of subscripts is read
abbrev pub subscripts_built : Built → List Pending → Built
subscripts_built b waiting = record { label = b.label; nodes = b.nodes; waiting = indexing (behind_subscripts waiting); lists = subscripts waiting ∷ b.lists }

-- an axis stands before an expression
abbrev pub axis_before : ℕ → Option Pending → List Pending → List Pending
axis_before k (Some (pending.Expr axis right)) others = pending.Expr (Some k) right ∷ others
axis_before k first others = others

-- an axis, behind it the bracket that closes it and an expression
abbrev pub axis_built : Option Pending → List Pending → List Pending
axis_built (Some (pending.Expr axis k)) others = axis_before k (first_of (others_of others)) (others_of (others_of others))
axis_built first others = others

-- a monadic function of an expression
abbrev pub monadic_built : Fun → Built → Option Pending → List Pending → Built
monadic_built f b (Some (pending.Expr axis right)) others = with_whole b (apply f None right axis) others
monadic_built f b first others = with_waiting b others

-- a sign of scalar functions with which an expression begins: monadic before an expression, the operand of a slash before that
abbrev pub lead_built : Option Monad → Option Dyad → Built → Option Pending → List Pending → Built
lead_built (Some m) d b (Some (pending.Expr axis right)) others = with_whole b (apply (fun.Verb (verb.One m)) None right axis) others
lead_built m (Some d) b (Some (pending.Slash fold axis right)) others = with_whole b (apply (fun.Verb (folded d fold)) None right axis) others
lead_built m d b first others = with_waiting b others

-- a slash behind a scalar function waits for it
abbrev pub slash_built : Fold → Option Pending → List Pending → List Pending
slash_built fold (Some (pending.Expr axis right)) others = pending.Slash fold axis right ∷ others
slash_built fold first others = others

-- a dyadic function waits for its left operand
abbrev pub dyadic_built : Fun → Option Pending → List Pending → List Pending
dyadic_built f (Some (pending.Expr axis right)) others = pending.Dyadic f axis right ∷ others
dyadic_built f first others = others

-- a dyadic scalar function, alone or before a dot
abbrev pub scalar_built : Dyad → Option Pending → List Pending → List Pending
scalar_built d (Some (pending.Expr axis right)) others = pending.Dyadic (fun.Verb (verb.Two d)) axis right ∷ others
scalar_built d (Some (pending.Factor g right)) others = pending.Dyadic (fun.Verb (verb.Inner d g)) None right ∷ others
scalar_built d first others = others

-- ∘ before a dot
abbrev pub jot_built : Option Pending → List Pending → List Pending
jot_built (Some (pending.Factor g right)) others = pending.Dyadic (fun.Verb (verb.Outer g)) None right ∷ others
jot_built first others = others

-- a factor behind a dot
abbrev pub factor_built : Dyad → Option Pending → List Pending → List Pending
factor_built g (Some (pending.Expr axis right)) others = pending.Factor g right ∷ others
factor_built g first others = others

-- a value waits for its target
abbrev pub gets_built : Option Pending → List Pending → List Pending
gets_built (Some (pending.Expr axis right)) others = pending.Gets right ∷ others
gets_built first others = others

-- the whole expression of a branch
abbrev pub branch_built : Option Pending → List Pending → List Pending
branch_built (Some (pending.Expr axis right)) others = pending.Branch right ∷ others
branch_built first others = others

-- the whole expression that is executed
abbrev pub execute_built : Option Pending → List Pending → List Pending
execute_built (Some (pending.Expr axis right)) others = pending.Execute right ∷ others
execute_built first others = others

-- a name of a value, where the symbol is one
abbrev pub name_by : Symbol → Built → Built
name_by (symbol.Value n) b = name_built n b (first_of b.waiting) (others_of b.waiting)
name_by s b = b

-- a name of a niladic function, where the symbol is one
abbrev pub niladic_by : Symbol → Built → Built
niladic_by (symbol.Niladic n) b = operand_built b (niladic n) b.waiting
niladic_by s b = b

-- a sign of scalar functions with which an expression begins, where the symbol is one
abbrev pub lead_by : Symbol → Built → Built
lead_by (symbol.Scalar m d) b = lead_built m d b (first_of b.waiting) (others_of b.waiting)
lead_by s b = b

-- a slash behind it, where the symbol is one
abbrev pub slash_by : Symbol → Built → Built
slash_by (symbol.Slash fold) b = with_waiting b (slash_built fold (first_of b.waiting) (others_of b.waiting))
slash_by s b = b

-- a monadic function, where the symbol is one
abbrev pub monadic_by : Symbol → Built → Built
monadic_by (symbol.Function (Some f) d) b = monadic_built f b (first_of b.waiting) (others_of b.waiting)
monadic_by s b = b

-- a dyadic function, where the symbol is one
abbrev pub dyadic_by : Symbol → Built → Built
dyadic_by (symbol.Function m (Some f)) b = with_waiting b (dyadic_built f (first_of b.waiting) (others_of b.waiting))
dyadic_by (symbol.Slash fold) b = with_waiting b (dyadic_built (fun.Verb (between fold)) (first_of b.waiting) (others_of b.waiting))
dyadic_by s b = b

-- a dyadic scalar function, where the symbol is one
abbrev pub scalar_by : Symbol → Built → Built
scalar_by (symbol.Scalar m (Some d)) b = with_waiting b (scalar_built d (first_of b.waiting) (others_of b.waiting))
scalar_by s b = b

-- a scalar function behind a dot, where the symbol is one
abbrev pub factor_by : Symbol → Built → Built
factor_by (symbol.Scalar m (Some d)) b = with_waiting b (factor_built d (first_of b.waiting) (others_of b.waiting))
factor_by s b = b

-- a mark more to the left, with the symbol and the kind of its token
unfoldable pub built_by : Mark → Symbol → PlainKind → Built → Built
built_by mark.Constant s kind b = operand_built b (constant (items_of kind)) b.waiting
built_by mark.Name s kind b = name_by s b
built_by mark.Niladic s kind b = niladic_by s b
built_by mark.LeftParenthesis s kind b = parenthesis_built b (first_of b.waiting) (others_of b.waiting)
built_by mark.RightParenthesis s kind b = with_waiting b (pending.Parenthesis ∷ b.waiting)
built_by mark.OpenSubscripts s kind b = subscripts_built b (subscript_built b.waiting (first_of b.waiting) (others_of b.waiting))
built_by mark.Semicolon s kind b = with_waiting b (subscript_built b.waiting (first_of b.waiting) (others_of b.waiting))
built_by mark.CloseSubscripts s kind b = with_waiting b (pending.Subscripts ∷ b.waiting)
built_by mark.OpenAxis s kind b = with_waiting b (axis_built (first_of b.waiting) (others_of b.waiting))
built_by mark.CloseAxis s kind b = with_waiting b (pending.Axis ∷ b.waiting)
built_by mark.Lead s kind b = lead_by s b
built_by mark.Slash s kind b = slash_by s b
built_by mark.Monadic s kind b = monadic_by s b
built_by mark.Dyadic s kind b = dyadic_by s b
built_by mark.Scalar s kind b = scalar_by s b
built_by mark.Dot s kind b = b
built_by mark.Jot s kind b = with_waiting b (jot_built (first_of b.waiting) (others_of b.waiting))
built_by mark.Factor s kind b = factor_by s b
built_by mark.Gets s kind b = with_waiting b (gets_built (first_of b.waiting) (others_of b.waiting))
built_by mark.Colon s kind b = with_waiting b (pending.Label ∷ b.waiting)
built_by mark.Branch s kind b = with_waiting b (branch_built (first_of b.waiting) (others_of b.waiting))
built_by mark.Execute s kind b = with_waiting b (execute_built (first_of b.waiting) (others_of b.waiting))

-- what the marks of tokens build
unfoldable pub built_from : List Class → List Mark → List PlainToken → Built
built_from classes (m ∷ marks) (token ∷ tokens) = built_by m (symbol_of classes token.kind) token.kind (built_from classes marks tokens)
built_from classes [] tokens = nothing_built
built_from classes (m ∷ marks) [] = nothing_built
