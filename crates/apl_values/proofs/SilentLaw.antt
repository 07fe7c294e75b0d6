-- The last node of an expression tells whether it begins with a target.
use Rattle.std.proofs.Common.{◌≡◌, ℕ, ◌-◌, List, [], ◌∷◌, ◌++◌, length, take, refl, sym, ap, ◌∙◌, arith}
use Rattle.std.specs.Prelude.{Option, Some, map, slice_get}
use Rattle.std.proofs.lemmas.List.{map-append}
use Rattle.line_trees.specs.Nodes.{PlainNode}
use Rattle.line_trees.specs.Parsing.{PlainTree}
use Rattle.line_trees.specs.Trees.{Expr, constant, value, niladic, paren, indexed, monadic, monadic_along, dyadic, dyadic_along, assign, assign_at, Statement, nothing, branch, whole, execute, nodes_of_statement, placed}
use Rattle.apl_meaning.specs.Statements.{is_silent}
use Rattle.apl_values.specs.declared.part.Part.{Part}
use Rattle.apl_values.specs.declared.reading.LineReading.{LineReading}
use Rattle.apl_values.specs.Parts.{IsLineReading, begins_silent, is_assignment_node, plain_part, plain_parts, reading_statement}
use Rattle.apl_values.proofs.Found.{last_there}

last_or : List PlainNode → PlainNode → PlainNode
last_or [] d = d
last_or (n ∷ nodes) d = last_or nodes n

last_is : (nodes : List PlainNode) (n d : PlainNode) → last_or (nodes ++ n ∷ []) d ≡ n
unfolding last_or
last_is [] n d = refl
last_is (m ∷ nodes) n d = last_is nodes n m

last_same : (xs ys : List PlainNode) (a b : PlainNode) → xs ++ a ∷ [] ≡ ys ++ b ∷ [] → a ≡ b
last_same xs ys a b e = sym (last_is xs a a) ∙ ap (λ (nodes : List PlainNode). last_or nodes a) e ∙ last_is ys b a

-- where nodes that end so are those of an expression, the last one is an assignment exactly where the expression is silent
pub silent_last : (e : Expr) (before nodes : List PlainNode) (n : PlainNode) → (placed before e).0 ≡ nodes ++ n ∷ [] → is_assignment_node n ≡ is_silent e
silent_last (constant items) before nodes n is = sym (ap is_assignment_node (last_same _ _ _ _ is))
silent_last (value name) before nodes n is = sym (ap is_assignment_node (last_same _ _ _ _ is))
silent_last (niladic name) before nodes n is = sym (ap is_assignment_node (last_same _ _ _ _ is))
silent_last (paren e) before nodes n is = sym (ap is_assignment_node (last_same _ _ _ _ is))
silent_last (indexed e subs) before nodes n is = sym (ap is_assignment_node (last_same _ _ _ _ is))
silent_last (monadic f right) before nodes n is = sym (ap is_assignment_node (last_same _ _ _ _ is))
silent_last (monadic_along f axis right) before nodes n is = sym (ap is_assignment_node (last_same _ _ _ _ is))
silent_last (dyadic f left right) before nodes n is = sym (ap is_assignment_node (last_same _ _ _ _ is))
silent_last (dyadic_along f left axis right) before nodes n is = sym (ap is_assignment_node (last_same _ _ _ _ is))
silent_last (assign target right) before nodes n is = sym (ap is_assignment_node (last_same _ _ _ _ is))
silent_last (assign_at target subs right) before nodes n is = sym (ap is_assignment_node (last_same _ _ _ _ is))

no_end : (nodes : List PlainNode) (n : PlainNode) → ([] ≡ nodes ++ n ∷ [] → ⊥)
no_end [] n e = let no : [] ≡ n ∷ [] = e in cc
no_end (m ∷ nodes) n e = let no : [] ≡ m ∷ (nodes ++ n ∷ []) = e in cc

-- the same of a statement
pub silent_statement : (label : Option (List ℕ)) (s : Statement) (nodes : List PlainNode) (n : PlainNode) → (nodes_of_statement label s).nodes ≡ nodes ++ n ∷ [] → is_assignment_node n ≡ begins_silent s
silent_statement label nothing nodes n is = absurd (no_end nodes n is)
silent_statement label (branch e) nodes n is = silent_last e [] nodes n is
silent_statement label (whole e) nodes n is = silent_last e [] nodes n is
silent_statement label (execute e) nodes n is = silent_last e [] nodes n is

-- a line that was read is silent exactly where its last part is an assignment
pub silent_reading : (reading : LineReading) (last : Part) → IsLineReading reading → slice_get reading.parts.items (length reading.parts.items - 1) ≡ Some last → is_assignment_node (plain_part last) ≡ begins_silent (reading_statement reading)
silent_reading reading last is e =
    let parts : List Part = reading.parts.items in
    let i : ℕ = length parts - 1 in
    let nodes : plain_parts parts ≡ map plain_part (take i parts) ++ plain_part last ∷ [] = ap (map plain_part) (last_there parts last i (omega arith) e) ∙ map-append plain_part (take i parts) (last ∷ []) in
    silent_statement reading.label (reading_statement reading) (map plain_part (take i parts)) (plain_part last) (ap (λ (t : PlainTree). t.nodes) is.tree ∙ nodes)
