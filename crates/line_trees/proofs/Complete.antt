-- The tokens of a tree of the grammar are read as its nodes.
use Rattle.std.proofs.Common.{ℕ, true, List, ◌∷◌, ◌++◌, refl, ap, ◌∙◌, append_assoc}
use Rattle.line_scanner.specs.Token.{PlainToken}
use Rattle.line_trees.specs.declared.class.Class.{Class}
use Rattle.line_trees.specs.declared.tree.Fun.{Fun}
use Rattle.line_trees.specs.declared.tree.Mark.TheVariants as mark
use Rattle.line_trees.specs.declared.tree.Pending.TheVariants as pending
use Rattle.line_trees.specs.declared.symbol.Symbol.TheVariants as symbol
use Rattle.line_trees.specs.declared.machine.Before.TheVariants as before
use Rattle.line_trees.specs.declared.machine.Operand.TheVariants as operand
use Rattle.line_trees.specs.declared.machine.Mode.TheVariants.{Begins, Ends}
use Rattle.line_trees.specs.declared.machine.OpenBracket.TheVariants as bracket
use Rattle.apl_arrays.specs.List.{first_of}
use Rattle.line_trees.specs.Marks.{step, goes}
use Rattle.line_trees.specs.Building.{Built, built_by}
use Rattle.line_trees.specs.Trees.{Expr, constant, value, niladic, paren, indexed, monadic, monadic_along, dyadic, dyadic_along, assign, assign_at, Subscripts, no_more, omitted, given, Placed, PlacedList, placed, placed_subscripts}
use Rattle.line_trees.specs.Grammar.{IsOperand}
use Rattle.line_trees.proofs.Reading.{reads_token}
use Rattle.line_trees.proofs.ReadOperands.{expr_on, Reads, ReadsOperand, ReadsExpr, operand_whole, reads_as, keeps, enclosed_before, constant_read, value_read, niladic_read, paren_read, ReadsMore, no_more_read, omitted_read, given_read, ReadsSubscripts, first_omitted, first_given, is_list, opens_list, indexed_read}
use Rattle.line_trees.proofs.ReadFunctions.{monadic_read, monadic_along_read, dyadic_read, dyadic_along_read}

-- ---- assignments

assign_read : (classes : List Class) (len : ℕ) (n : List ℕ) (right : Expr) → ReadsExpr classes len right → ReadsExpr classes len (assign n right)
unfolding step built_by
assign_read classes len n right each text rest brackets b (target, gets, others, all, t, g, r) closed next =
    let r1 : Placed = placed b.nodes right in
    let b1 : Built = record { label = b.label; nodes = r1.0; waiting = pending.Gets r1.1 ∷ b.waiting; lists = b.lists } in
    let here : Reads classes len (Begins before.Plain) brackets (others ++ rest) (expr_on right b) = each others rest brackets b r closed next in
    let assigned : Reads classes len (Ends operand.Name) brackets (gets ∷ (others ++ rest)) b1 =
    reads_token classes len (Ends operand.Name) brackets gets (others ++ rest) symbol.LeftArrow (keeps mark.Gets (Begins before.Plain)) (expr_on right b) g refl here in
    reads_as classes len (Begins before.Plain) brackets (text ++ rest) (target ∷ (gets ∷ (others ++ rest))) _ _ (ap (λ (x : List PlainToken). x ++ rest) all) refl
    (reads_token classes len (Begins before.Plain) brackets target (gets ∷ (others ++ rest)) (symbol.Value n) (keeps mark.Name (Ends operand.Name)) b1 t refl assigned)

assign_at_read : (classes : List Class) (len : ℕ) (n : List ℕ) (subs : Subscripts) (right : Expr) → ReadsSubscripts classes len subs → ReadsExpr classes len right → ReadsExpr classes len (assign_at n subs right)
unfolding step built_by
assign_at_read classes len n subs right list each text rest brackets b (target, square, inside, gets, others, all, t, p, s, g, r) closed next =
    let r1 : Placed = placed b.nodes right in
    let q : PlacedList = placed_subscripts r1.0 subs in
    let b1 : Built = record { label = b.label; nodes = r1.0; waiting = pending.Gets r1.1 ∷ b.waiting; lists = b.lists } in
    let b2 : Built = record { label = b.label; nodes = q.0; waiting = pending.GetsAt r1.1 ∷ b.waiting; lists = q.1 ∷ b.lists } in
    let here : Reads classes len (Begins before.Plain) brackets (others ++ rest) (expr_on right b) = each others rest brackets b r closed next in
    let assigned : Reads classes len (Ends operand.Target) brackets (gets ∷ (others ++ rest)) b1 =
    reads_token classes len (Ends operand.Target) brackets gets (others ++ rest) symbol.LeftArrow (keeps mark.Gets (Begins before.Plain)) (expr_on right b) g refl here in
    let read_list : Reads classes len (Ends operand.Name) brackets (p.left ∷ (inside ++ p.right ∷ (gets ∷ (others ++ rest)))) b2 =
    list inside (gets ∷ (others ++ rest)) p.left p.right brackets bracket.OfName operand.Target (Ends operand.Name) b1 (is_list true) (opens_list operand.Name (first_of brackets)) p.is_left p.is_right s assigned in
    reads_as classes len (Begins before.Plain) brackets (text ++ rest) (target ∷ (p.left ∷ (inside ++ p.right ∷ (gets ∷ (others ++ rest))))) _ _
    (ap (λ (x : List PlainToken). x ++ rest) all ∙ ap (λ (x : List PlainToken). target ∷ x) (append_assoc square (gets ∷ others) rest ∙ enclosed_before p.left p.right inside square (gets ∷ (others ++ rest)) p.enclosed)) refl
    (reads_token classes len (Begins before.Plain) brackets target (p.left ∷ (inside ++ p.right ∷ (gets ∷ (others ++ rest)))) (symbol.Value n) (keeps mark.Name (Ends operand.Name)) b2 t refl read_list)

-- ---- all of them

-- an expression is read, and as an operand where it is one
abbrev ReadsBoth : List Class → ℕ → Expr → Type 0
ReadsBoth classes len e = (IsOperand e → ReadsOperand classes len e) × ReadsExpr classes len e

both : (classes : List Class) (len : ℕ) (e : Expr) → ReadsOperand classes len e → ReadsBoth classes len e
both classes len e h = (λ _. h, operand_whole classes len e h)

none_first : (classes : List Class) (len : ℕ) → ReadsSubscripts classes len no_more
none_first classes len text rest left right brackets k o mode b list goes is_left is_right h next = absurd h

indexed_by : (classes : List Class) (len : ℕ) (v : Expr) (subs : Subscripts) → (IsOperand v → ReadsOperand classes len v) → ReadsSubscripts classes len subs × ReadsMore classes len subs → ReadsOperand classes len (indexed v subs)
indexed_by classes len v subs each list text rest brackets b (front, square, inside, all, is_operand, is, p, s) h next =
    indexed_read classes len v subs (each is_operand) list.0 text rest brackets b (front, square, inside, all, is_operand, is, p, s) h next

dyadic_by_operand : (classes : List Class) (len : ℕ) (f : Fun) (left right : Expr) → (IsOperand left → ReadsOperand classes len left) → ReadsExpr classes len right → ReadsExpr classes len (dyadic f left right)
dyadic_by_operand classes len f left right operand_each each text rest brackets b (front, function, others, all, is_operand, l, d, r) closed next =
    dyadic_read classes len f left right (operand_each is_operand) each text rest brackets b (front, function, others, all, is_operand, l, d, r) closed next

dyadic_along_by_operand : (classes : List Class) (len : ℕ) (f : Fun) (left axis right : Expr) → (IsOperand left → ReadsOperand classes len left) → ReadsExpr classes len axis → ReadsExpr classes len right → ReadsExpr classes len (dyadic_along f left axis right)
dyadic_along_by_operand classes len f left axis right operand_each along_each each text rest brackets b (front, function, square, inside, others, all, is_operand, l, d, takes, p, k, r) closed next =
    dyadic_along_read classes len f left axis right (operand_each is_operand) along_each each text rest brackets b (front, function, square, inside, others, all, is_operand, l, d, takes, p, k, r) closed next

mutual
  each_read : (classes : List Class) (len : ℕ) (e : Expr) → ReadsBoth classes len e
  each_read classes len (constant items) = both classes len (constant items) (constant_read classes len items)
  each_read classes len (value n) = both classes len (value n) (value_read classes len n)
  each_read classes len (niladic n) = both classes len (niladic n) (niladic_read classes len n)
  each_read classes len (paren e) = both classes len (paren e) (paren_read classes len e (each_read classes len e).1)
  each_read classes len (indexed v subs) = both classes len (indexed v subs) (indexed_by classes len v subs (each_read classes len v).0 (list_read classes len subs))
  each_read classes len (monadic f right) = (λ h. absurd h, monadic_read classes len f right (each_read classes len right).1)
  each_read classes len (monadic_along f axis right) = (λ h. absurd h, monadic_along_read classes len f axis right (each_read classes len axis).1 (each_read classes len right).1)
  each_read classes len (dyadic f left right) = (λ h. absurd h, dyadic_by_operand classes len f left right (each_read classes len left).0 (each_read classes len right).1)
  each_read classes len (dyadic_along f left axis right) = (λ h. absurd h, dyadic_along_by_operand classes len f left axis right (each_read classes len left).0 (each_read classes len axis).1 (each_read classes len right).1)
  each_read classes len (assign n right) = (λ h. absurd h, assign_read classes len n right (each_read classes len right).1)
  each_read classes len (assign_at n subs right) = (λ h. absurd h, assign_at_read classes len n subs right (list_read classes len subs).0 (each_read classes len right).1)

  list_read : (classes : List Class) (len : ℕ) (subs : Subscripts) → ReadsSubscripts classes len subs × ReadsMore classes len subs
  list_read classes len no_more = (none_first classes len, no_more_read classes len)
  list_read classes len (omitted more) = (first_omitted classes len more (list_read classes len more).1, omitted_read classes len more (list_read classes len more).1)
  list_read classes len (given e more) = (first_given classes len e more (each_read classes len e).1 (list_read classes len more).1, given_read classes len e more (each_read classes len e).1 (list_read classes len more).1)

-- each expression is read as its nodes
pub expr_read : (classes : List Class) (len : ℕ) (e : Expr) → ReadsExpr classes len e
expr_read classes len e = (each_read classes len e).1
