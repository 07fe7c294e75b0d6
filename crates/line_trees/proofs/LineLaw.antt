-- The tokens of a line of the grammar are parsed as its tree.
use Rattle.std.proofs.Common.{◌≡◌, ℕ, true, List, [], ◌∷◌, Option, Some, None, Result, Ok, Err, refl, sym, ap, ◌∙◌, ◌⊎◌, inl, inr}
use Rattle.std.proofs.lemmas.List.{append-nil}
use Rattle.std.proofs.lemmas.Bool.{false≢true}
use Rattle.line_scanner.specs.Token.{PlainToken}
use Rattle.line_trees.specs.declared.class.Class.{Class}
use Rattle.line_trees.specs.declared.tree.Mark.{Mark}
use Rattle.line_trees.specs.declared.tree.Mark.TheVariants as mark
use Rattle.line_trees.specs.declared.tree.Pending.TheVariants as pending
use Rattle.line_trees.specs.declared.symbol.Symbol.{Symbol}
use Rattle.line_trees.specs.declared.symbol.Symbol.TheVariants as symbol
use Rattle.line_trees.specs.declared.machine.Before.TheVariants as before
use Rattle.line_trees.specs.declared.machine.Operand.TheVariants as operand
use Rattle.line_trees.specs.declared.machine.Mode.{Mode}
use Rattle.line_trees.specs.declared.machine.Mode.TheVariants.{Begins, Ends}
use Rattle.line_trees.specs.declared.machine.OpenBracket.{OpenBracket}
use Rattle.line_trees.specs.declared.machine.NestingChange.TheVariants.{Keep}
use Rattle.line_trees.specs.declared.machine.Move.{Move}
use Rattle.apl_arrays.specs.List.{first_of}
use Rattle.line_trees.specs.Symbols.{symbol_of}
use Rattle.line_trees.specs.Marks.{Marked, marks_from, marked_by, with_mark, step, may_end, open_after}
use Rattle.line_trees.specs.Building.{Built, nothing_built, built_by}
use Rattle.line_trees.specs.Parsing.{Parsed, tree_of, parsed_by, parsed}
use Rattle.line_trees.specs.Trees.{Expr, Statement, nothing, branch, whole, execute, LineTree, placed, as_nodes, nodes_of_statement}
use Rattle.line_trees.specs.Grammar.{IsExpr, IsStatement, IsLabelled, IsLine}
use Rattle.line_trees.proofs.Reading.{read_by, read, reads_token, reads_same, reads_end}
use Rattle.line_trees.proofs.Starts.{leads, expr_led, at_statement, begins_as}
use Rattle.line_trees.proofs.Complete.{expr_read}
use Rattle.line_trees.proofs.ReadOperands.{ends_of, expr_on, Reads}

-- what is built of a statement
abbrev statement_built : Statement → Built
statement_built nothing = nothing_built
statement_built (branch e) = record { label = None; nodes = (placed [] e).0; waiting = pending.Branch (placed [] e).1 ∷ []; lists = [] }
statement_built (whole e) = expr_on e nothing_built
statement_built (execute e) = record { label = None; nodes = (placed [] e).0; waiting = pending.Execute (placed [] e).1 ∷ []; lists = [] }

-- what is built of a statement, with a label
abbrev labelled_built : Option (List ℕ) → Built → Built
labelled_built label b = record { label = label; nodes = b.nodes; waiting = b.waiting; lists = b.lists }

built_tree : (label : Option (List ℕ)) (s : Statement) → tree_of (labelled_built label (statement_built s)) ≡ nodes_of_statement label s
built_tree label nothing = refl
built_tree label (branch e) = refl
built_tree label (whole e) = refl
built_tree label (execute e) = refl

ends_here : (classes : List Class) (len : ℕ) (e : Expr) → Reads classes len (Ends (ends_of e)) [] [] nothing_built
unfolding may_end
ends_here classes len e = reads_end classes len (Ends (ends_of e)) [] refl

-- a whole expression is read to the end
whole_read : (classes : List Class) (len : ℕ) (e : Expr) (text : List PlainToken) → IsExpr classes e text → Reads classes len (Begins before.Plain) [] text (expr_on e nothing_built)
whole_read classes len e text h = ap (read classes len (Begins before.Plain) []) (sym (append-nil text)) ∙ expr_read classes len e text [] [] nothing_built h tt (ends_here classes len e)

-- a mode in which a statement begins
record BeginsStatement (mode : Mode) : Type 0 where
  ends : may_end mode None ≡ true
  arrow : step mode None symbol.RightArrow ≡ step (Begins before.Statement) None symbol.RightArrow
  sign : step mode None symbol.Execute ≡ step (Begins before.Statement) None symbol.Execute

abbrev keeps : Mark → Mode → Move
keeps m mode = record { mark = m; mode = mode; change = Keep }

branch_read : (classes : List Class) (len : ℕ) (mode : Mode) (e : Expr) (text : List PlainToken) → BeginsStatement mode → IsStatement classes (branch e) text → Reads classes len mode [] text (statement_built (branch e))
unfolding step built_by
branch_read classes len mode e text m (arrow, rest, all, is, h) =
    ap (read classes len mode []) all
    ∙ reads_token classes len mode [] arrow rest symbol.RightArrow (keeps mark.Branch (Begins before.Plain)) (expr_on e nothing_built) is m.arrow (whole_read classes len e rest h)

execute_read : (classes : List Class) (len : ℕ) (mode : Mode) (e : Expr) (text : List PlainToken) → BeginsStatement mode → IsStatement classes (execute e) text → Reads classes len mode [] text (statement_built (execute e))
unfolding step built_by
execute_read classes len mode e text m (sign, rest, all, is, h) =
    ap (read classes len mode []) all
    ∙ reads_token classes len mode [] sign rest symbol.Execute (keeps mark.Execute (Begins before.Plain)) (expr_on e nothing_built) is m.sign (whole_read classes len e rest h)

nothing_read : (classes : List Class) (len : ℕ) (mode : Mode) (text : List PlainToken) → BeginsStatement mode → text ≡ [] → Reads classes len mode [] text nothing_built
nothing_read classes len mode text m e = ap (read classes len mode []) e ∙ reads_end classes len mode [] m.ends

at_label : BeginsStatement (Begins before.Statement)
unfolding may_end
at_label = record { ends = refl; arrow = refl; sign = refl }

at_line : BeginsStatement (Begins before.Line)
unfolding may_end step
at_line = record { ends = refl; arrow = refl; sign = refl }

-- a statement behind a label
behind_label : (classes : List Class) (len : ℕ) (s : Statement) (text : List PlainToken) → IsStatement classes s text → Reads classes len (Begins before.Statement) [] text (statement_built s)
behind_label classes len nothing text h = nothing_read classes len (Begins before.Statement) text at_label h
behind_label classes len (branch e) text h = branch_read classes len (Begins before.Statement) e text at_label h
behind_label classes len (execute e) text h = execute_read classes len (Begins before.Statement) e text at_label h
behind_label classes len (whole e) text h =
    ap (read classes len (Begins before.Statement) []) (sym (append-nil text))
    ∙ begins_as classes len (Begins before.Statement) e text [] [] (expr_on e nothing_built) h (at_statement None) (ap (read classes len (Begins before.Plain) []) (append-nil text) ∙ whole_read classes len e text h)

-- ---- an expression at the front of a line, of which the first name may be a label

step_first : (top : Option OpenBracket) (s : Symbol) → (step (Ends operand.First) top s ≡ step (Ends operand.Name) top s) ⊎ (step (Ends operand.Name) top s ≡ None)
unfolding step
step_first top symbol.Colon = inr refl
step_first top s = inl refl

marks_first_by : (classes : List Class) (len : ℕ) (brackets : List OpenBracket) (token : PlainToken) (tokens : List PlainToken) (marks : List Mark)
    → (step (Ends operand.First) (first_of brackets) (symbol_of classes token.kind) ≡ step (Ends operand.Name) (first_of brackets) (symbol_of classes token.kind)) ⊎ (step (Ends operand.Name) (first_of brackets) (symbol_of classes token.kind) ≡ None)
    → marks_from classes len (Ends operand.Name) brackets (token ∷ tokens) ≡ Ok marks → marks_from classes len (Ends operand.First) brackets (token ∷ tokens) ≡ Ok marks
unfolding marks_from
marks_first_by classes len brackets token tokens marks (inl e) h = ap (λ (r : Option Move). marked_by r token.at (λ mode change. marks_from classes len mode (open_after change brackets) tokens)) e ∙ h
marks_first_by classes len brackets token tokens marks (inr e) h =
    let stops : Err token.at ≡ Ok marks = sym (ap (λ (r : Option Move). marked_by r token.at (λ mode change. marks_from classes len mode (open_after change brackets) tokens)) e) ∙ h in
    absurd cc

marks_first : (classes : List Class) (len : ℕ) (brackets : List OpenBracket) (tokens : List PlainToken) (marks : List Mark) → marks_from classes len (Ends operand.Name) brackets tokens ≡ Ok marks → marks_from classes len (Ends operand.First) brackets tokens ≡ Ok marks
unfolding marks_from may_end
marks_first classes len brackets [] marks h = h
marks_first classes len brackets (token ∷ tokens) marks h = marks_first_by classes len brackets token tokens marks (step_first (first_of brackets) (symbol_of classes token.kind)) h

-- the first name of an expression where a line begins
name_first_by : (classes : List Class) (len : ℕ) (token : PlainToken) (tokens : List PlainToken) (named : Marked) (b : Built) → marks_from classes len (Ends operand.Name) [] tokens ≡ named
    → read_by classes (with_mark mark.Name named) (token ∷ tokens) ≡ Ok b → read_by classes (with_mark mark.Name (marks_from classes len (Ends operand.First) [] tokens)) (token ∷ tokens) ≡ Ok b
name_first_by classes len token tokens (Ok marks) b e h = ap (λ (m : Marked). read_by classes (with_mark mark.Name m) (token ∷ tokens)) (marks_first classes len [] tokens marks e) ∙ h
name_first_by classes len token tokens (Err at) b e h = absurd cc

first_by : (classes : List Class) (len : ℕ) (token : PlainToken) (tokens : List PlainToken) (b : Built) (s : Symbol) → symbol_of classes token.kind ≡ s → leads s ≡ true
    → Reads classes len (Begins before.Plain) [] (token ∷ tokens) b → Reads classes len (Begins before.Line) [] (token ∷ tokens) b
unfolding marks_from step
first_by classes len token tokens b (symbol.Value n) is h plain =
    let begun : read_by classes (with_mark mark.Name (marks_from classes len (Ends operand.Name) [] tokens)) (token ∷ tokens) ≡ Ok b =
    sym (ap (λ (x : Symbol). read_by classes (marked_by (step (Begins before.Plain) None x) token.at (λ mode change. marks_from classes len mode (open_after change []) tokens)) (token ∷ tokens)) is) ∙ plain in
    ap (λ (x : Symbol). read_by classes (marked_by (step (Begins before.Line) None x) token.at (λ mode change. marks_from classes len mode (open_after change []) tokens)) (token ∷ tokens)) is
    ∙ name_first_by classes len token tokens (marks_from classes len (Ends operand.Name) [] tokens) b refl begun
first_by classes len token tokens b symbol.Constant is h plain = reads_same classes len (Begins before.Line) (Begins before.Plain) [] token tokens (ap (step (Begins before.Line) None) is ∙ sym (ap (step (Begins before.Plain) None) is)) ∙ plain
first_by classes len token tokens b (symbol.Niladic n) is h plain = reads_same classes len (Begins before.Line) (Begins before.Plain) [] token tokens (ap (step (Begins before.Line) None) is ∙ sym (ap (step (Begins before.Plain) None) is)) ∙ plain
first_by classes len token tokens b (symbol.Scalar m d) is h plain = reads_same classes len (Begins before.Line) (Begins before.Plain) [] token tokens (ap (step (Begins before.Line) None) is ∙ sym (ap (step (Begins before.Plain) None) is)) ∙ plain
first_by classes len token tokens b (symbol.Function m d) is h plain = reads_same classes len (Begins before.Line) (Begins before.Plain) [] token tokens (ap (step (Begins before.Line) None) is ∙ sym (ap (step (Begins before.Plain) None) is)) ∙ plain
first_by classes len token tokens b symbol.LeftParenthesis is h plain = reads_same classes len (Begins before.Line) (Begins before.Plain) [] token tokens (ap (step (Begins before.Line) None) is ∙ sym (ap (step (Begins before.Plain) None) is)) ∙ plain
first_by classes len token tokens b s is h plain = absurd (false≢true h)

-- a statement without a label
unlabelled : (classes : List Class) (len : ℕ) (s : Statement) (text : List PlainToken) → IsStatement classes s text → Reads classes len (Begins before.Line) [] text (statement_built s)
unlabelled classes len nothing text h = nothing_read classes len (Begins before.Line) text at_line h
unlabelled classes len (branch e) text h = branch_read classes len (Begins before.Line) e text at_line h
unlabelled classes len (execute e) text h = execute_read classes len (Begins before.Line) e text at_line h
unlabelled classes len (whole e) text h =
    let (token, others, all, leading) = expr_led classes e text h in
    ap (read classes len (Begins before.Line) []) all
    ∙ first_by classes len token others (expr_on e nothing_built) (symbol_of classes token.kind) refl leading (sym (ap (read classes len (Begins before.Plain) []) all) ∙ whole_read classes len e text h)

labelled_read : (classes : List Class) (len : ℕ) (label : Option (List ℕ)) (s : Statement) (text : List PlainToken) → IsLabelled classes label s text → Reads classes len (Begins before.Line) [] text (labelled_built label (statement_built s))
unfolding step built_by
labelled_read classes len None s text h = unlabelled classes len s text h ∙ ap Ok (no_label s)
  where
    no_label : (s : Statement) → statement_built s ≡ labelled_built None (statement_built s)
    no_label nothing = refl
    no_label (branch e) = refl
    no_label (whole e) = refl
    no_label (execute e) = refl
labelled_read classes len (Some n) s text (name, colon, rest, all, is_name, is_colon, h) =
    let b : Built = statement_built s in
    let b1 : Built = record { label = b.label; nodes = b.nodes; waiting = pending.Label ∷ b.waiting; lists = b.lists } in
    let marked : Reads classes len (Ends operand.First) [] (colon ∷ rest) b1 =
    reads_token classes len (Ends operand.First) [] colon rest symbol.Colon (keeps mark.Colon (Begins before.Statement)) b is_colon refl (behind_label classes len s rest h) in
    ap (read classes len (Begins before.Line) []) all
    ∙ reads_token classes len (Begins before.Line) [] name (colon ∷ rest) (symbol.Value n) (keeps mark.Name (Ends operand.First)) b1 is_name refl marked

-- the tree of what was built
abbrev parsed_of : Result Built ℕ → Parsed
parsed_of (Ok b) = Ok (tree_of b)
parsed_of (Err at) = Err at

read_parsed : (classes : List Class) (marked : Marked) (tokens : List PlainToken) (b : Built) → read_by classes marked tokens ≡ Ok b → parsed_by classes marked tokens ≡ Ok (tree_of b)
read_parsed classes (Ok marks) tokens b e = ap parsed_of e
read_parsed classes (Err at) tokens b e = absurd cc

-- each line of the grammar is parsed as its tree
pub line_parsed : (classes : List Class) (line : LineTree) (tokens : List PlainToken) (len : ℕ) → IsLine classes line tokens → parsed classes tokens len ≡ Ok (as_nodes line)
line_parsed classes line tokens len h =
    read_parsed classes (marks_from classes len (Begins before.Line) [] tokens) tokens (labelled_built line.label (statement_built line.statement)) (labelled_read classes len line.label line.statement tokens h)
    ∙ ap Ok (built_tree line.label line.statement)
