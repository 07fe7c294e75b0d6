-- The tokens of an operand or of subscripts are read as their nodes, where those of their parts are.
use Rattle.std.proofs.Common.{◌≡◌, ℕ, Bool, true, false, cond, List, [], ◌∷◌, ◌++◌, Option, Some, None, Ok, refl, ap, ◌∙◌, append_assoc}
use Rattle.apl_arrays.specs.Array.{PlainItems}
use Rattle.line_scanner.specs.Token.{PlainToken}
use Rattle.line_trees.specs.declared.class.Class.{Class}
use Rattle.line_trees.specs.declared.tree.Mark.{Mark}
use Rattle.line_trees.specs.declared.tree.Mark.TheVariants as mark
use Rattle.line_trees.specs.declared.tree.Pending.{Pending}
use Rattle.line_trees.specs.declared.tree.Pending.TheVariants as pending
use Rattle.line_trees.specs.declared.symbol.Symbol.TheVariants as symbol
use Rattle.line_trees.specs.declared.machine.Before.TheVariants as before
use Rattle.line_trees.specs.declared.machine.Operand.{Operand}
use Rattle.line_trees.specs.declared.machine.Operand.TheVariants as operand
use Rattle.line_trees.specs.declared.machine.Mode.{Mode}
use Rattle.line_trees.specs.declared.machine.Mode.TheVariants.{Begins, Ends}
use Rattle.line_trees.specs.declared.machine.OpenBracket.{OpenBracket}
use Rattle.line_trees.specs.declared.machine.OpenBracket.TheVariants as bracket
use Rattle.line_trees.specs.declared.machine.NestingChange.TheVariants.{Keep, Open, Close}
use Rattle.line_trees.specs.declared.machine.Move.{Move}
use Rattle.apl_arrays.specs.List.{first_of, others_of}
use Rattle.line_trees.specs.Marks.{step, goes, opens, closes, close_bracket, next_subscript, is_bare_name}
use Rattle.line_trees.specs.Nodes as node
use Rattle.line_trees.specs.Building.{Built, whole_expression, with_waiting, attached, operand_built, built_by, target_or_operand, subscripts_built}
use Rattle.line_trees.specs.Trees.{Expr, constant, value, niladic, paren, indexed, monadic, monadic_along, dyadic, dyadic_along, assign, assign_at, Subscripts, no_more, omitted, given, Placed, PlacedList, placed, placed_subscripts}
use Rattle.line_trees.specs.Grammar.{Is, IsExpr, AreSubscripts, AreMore}
use Rattle.line_trees.proofs.Reading.{read, reads_token}
use Rattle.line_trees.proofs.Starts.{at_subscript, begins_as}
use Rattle.line_trees.proofs.Waiting.{IsOpen, IsClosed, closed_open, closed_attached, open_name, open_indexing, listed, listed_closed, listed_omitted, listed_built}

-- the operand with which an expression ends
abbrev pub ends_of : Expr → Operand
ends_of (constant items) = operand.Other
ends_of (value n) = operand.Name
ends_of (niladic n) = operand.Other
ends_of (paren e) = operand.Other
ends_of (indexed v subs) = cond (is_bare_name (ends_of v)) operand.Target operand.Other
ends_of (monadic f right) = ends_of right
ends_of (monadic_along f axis right) = ends_of right
ends_of (dyadic f left right) = ends_of right
ends_of (dyadic_along f left axis right) = ends_of right
ends_of (assign n right) = ends_of right
ends_of (assign_at n subs right) = ends_of right

-- an expression of these nodes before what was built
abbrev pub before_all : Built → Placed → List Pending → Built
before_all b p waiting = record { label = b.label; nodes = p.0; waiting = whole_expression p.1 ∷ waiting; lists = b.lists }

-- the expression before what was built
abbrev pub expr_on : Expr → Built → Built
expr_on e b = before_all b (placed b.nodes e) b.waiting

-- an operand of these nodes before what was built
abbrev pub attached_on : Built → Placed → Built
attached_on b p = attached b.label p.1 p.0 b.waiting b.lists

-- the operand before what was built
abbrev pub operand_on : Expr → Built → Built
operand_on e b = attached_on b (placed b.nodes e)

-- what follows is read so
abbrev pub Reads : List Class → ℕ → Mode → List OpenBracket → List PlainToken → Built → Type 0
Reads classes len mode brackets tokens b = read classes len mode brackets tokens ≡ Ok b

-- an operand is read
abbrev pub ReadsOperand : List Class → ℕ → Expr → Type 0
ReadsOperand classes len e = (text rest : List PlainToken) (brackets : List OpenBracket) (b : Built) → IsExpr classes e text → IsOpen b.waiting → Reads classes len (Ends (ends_of e)) brackets rest b
    → Reads classes len (Begins before.Plain) brackets (text ++ rest) (operand_on e b)

-- an expression is read
abbrev pub ReadsExpr : List Class → ℕ → Expr → Type 0
ReadsExpr classes len e = (text rest : List PlainToken) (brackets : List OpenBracket) (b : Built) → IsExpr classes e text → IsClosed b.waiting → Reads classes len (Ends (ends_of e)) brackets rest b
    → Reads classes len (Begins before.Plain) brackets (text ++ rest) (expr_on e b)

-- an operand where nothing waits is an expression
pub operand_whole : (classes : List Class) (len : ℕ) (e : Expr) → ReadsOperand classes len e → ReadsExpr classes len e
operand_whole classes len e h text rest brackets b is closed next =
    h text rest brackets b is (closed_open b.waiting closed) next ∙ ap Ok (closed_attached b.label (placed b.nodes e).1 (placed b.nodes e).0 b.waiting b.lists closed)

-- other text that is the same
pub reads_as : (classes : List Class) (len : ℕ) (mode : Mode) (brackets : List OpenBracket) (text other : List PlainToken) (b c : Built) → text ≡ other → b ≡ c → Reads classes len mode brackets other b → Reads classes len mode brackets text c
reads_as classes len mode brackets text other b c e f h = ap (read classes len mode brackets) e ∙ h ∙ ap Ok f

abbrev pub keeps : Mark → Mode → Move
keeps m mode = record { mark = m; mode = mode; change = Keep }

pub one_before : (token : PlainToken) (text rest : List PlainToken) → text ≡ token ∷ [] → text ++ rest ≡ token ∷ rest
one_before token text rest e = ap (λ (x : List PlainToken). x ++ rest) e

pub enclosed_before : (left right : PlainToken) (inside text rest : List PlainToken) → text ≡ left ∷ (inside ++ right ∷ []) → text ++ rest ≡ left ∷ (inside ++ right ∷ rest)
enclosed_before left right inside text rest e = ap (λ (x : List PlainToken). x ++ rest) e ∙ ap (λ (x : List PlainToken). left ∷ x) (append_assoc inside (right ∷ []) rest)

pub two_before : (text front back rest : List PlainToken) → text ≡ front ++ back → text ++ rest ≡ front ++ (back ++ rest)
two_before text front back rest e = ap (λ (x : List PlainToken). x ++ rest) e ∙ append_assoc front back rest

-- ---- operands

pub constant_read : (classes : List Class) (len : ℕ) (items : PlainItems) → ReadsOperand classes len (constant items)
unfolding step built_by
constant_read classes len items text rest brackets b is h next =
    reads_as classes len (Begins before.Plain) brackets (text ++ rest) (is.token ∷ rest) _ _ (one_before is.token text rest is.alone) (ap (λ (x : PlainItems). operand_built b (node.constant x) b.waiting) is.are)
    (reads_token classes len (Begins before.Plain) brackets is.token rest symbol.Constant (keeps mark.Constant (Ends operand.Other)) b is.is refl next)

pub value_read : (classes : List Class) (len : ℕ) (n : List ℕ) → ReadsOperand classes len (value n)
unfolding step built_by
value_read classes len n text rest brackets b is h next =
    reads_as classes len (Begins before.Plain) brackets (text ++ rest) (is.token ∷ rest) _ _ (one_before is.token text rest is.alone) (open_name n b.label b.nodes b.waiting b.lists h)
    (reads_token classes len (Begins before.Plain) brackets is.token rest (symbol.Value n) (keeps mark.Name (Ends operand.Name)) b is.is refl next)

pub niladic_read : (classes : List Class) (len : ℕ) (n : List ℕ) → ReadsOperand classes len (niladic n)
unfolding step built_by
niladic_read classes len n text rest brackets b is h next =
    reads_as classes len (Begins before.Plain) brackets (text ++ rest) (is.token ∷ rest) _ _ (one_before is.token text rest is.alone) refl
    (reads_token classes len (Begins before.Plain) brackets is.token rest (symbol.Niladic n) (keeps mark.Niladic (Ends operand.Other)) b is.is refl next)

pub paren_read : (classes : List Class) (len : ℕ) (e : Expr) → ReadsExpr classes len e → ReadsOperand classes len (paren e)
unfolding step built_by
paren_read classes len e each text rest brackets b (inside, p, is) h next =
    let b1 : Built = with_waiting b (pending.Parenthesis ∷ b.waiting) in
    let close : Reads classes len (Ends (ends_of e)) (bracket.Parenthesis ∷ brackets) (p.right ∷ rest) b1 =
    reads_token classes len (Ends (ends_of e)) (bracket.Parenthesis ∷ brackets) p.right rest symbol.RightParenthesis (record { mark = mark.RightParenthesis; mode = Ends operand.Other; change = Close }) b p.is_right refl next in
    let all = each inside (p.right ∷ rest) (bracket.Parenthesis ∷ brackets) b1 is tt close in
    reads_as classes len (Begins before.Plain) brackets (text ++ rest) (p.left ∷ (inside ++ p.right ∷ rest)) _ _ (enclosed_before p.left p.right inside text rest p.enclosed) refl
    (reads_token classes len (Begins before.Plain) brackets p.left (inside ++ p.right ∷ rest) symbol.LeftParenthesis (record { mark = mark.LeftParenthesis; mode = Begins before.Plain; change = Open bracket.Parenthesis }) (expr_on e b1) p.is_left refl all)

-- ---- subscripts

-- the bracket is one of subscripts, and so the operand ends behind it
pub record IsList (b : OpenBracket) (o : Operand) : Type 0 where
  pub closed : close_bracket (Some b) ≡ closes mark.CloseSubscripts (Ends o)
  pub next : next_subscript (Some b) ≡ goes mark.Semicolon (Begins before.Subscript)

-- the mode is one at the end of a subscript
pub record EndsSubscript (mode : Mode) (b : OpenBracket) : Type 0 where
  pub closing : step mode (Some b) symbol.RightBracket ≡ close_bracket (Some b)
  pub going_on : step mode (Some b) symbol.Semicolon ≡ next_subscript (Some b)

ends_subscript : (o : Operand) (b : OpenBracket) → EndsSubscript (Ends o) b
unfolding step
ends_subscript o b = record { closing = refl; going_on = refl }

omits_subscript : (b : OpenBracket) → EndsSubscript (Begins before.Subscript) b
unfolding step
omits_subscript b = record { closing = refl; going_on = refl }

-- subscripts of these nodes before what was built
abbrev list_before : Built → PlacedList → Built
list_before b p = record { label = b.label; nodes = p.0; waiting = listed p.1 b.waiting; lists = b.lists }

-- subscripts behind the first, and the bracket that closes them, are read
abbrev pub ReadsMore : List Class → ℕ → Subscripts → Type 0
ReadsMore classes len subs = (text rest : List PlainToken) (right : PlainToken) (brackets : List OpenBracket) (k : OpenBracket) (o : Operand) (mode : Mode) (b : Built) → IsList k o → EndsSubscript mode k → Is classes symbol.RightBracket right
    → AreMore classes subs text → Reads classes len (Ends o) brackets rest b → Reads classes len mode (k ∷ brackets) (text ++ right ∷ rest) (list_before b (placed_subscripts b.nodes subs))

pub no_more_read : (classes : List Class) (len : ℕ) → ReadsMore classes len no_more
unfolding built_by
no_more_read classes len text rest right brackets k o mode b list ends is none next =
    reads_as classes len mode (k ∷ brackets) (text ++ right ∷ rest) (right ∷ rest) _ _ (ap (λ (x : List PlainToken). x ++ right ∷ rest) none) refl
    (reads_token classes len mode (k ∷ brackets) right rest symbol.RightBracket (record { mark = mark.CloseSubscripts; mode = Ends o; change = Close }) b is (ends.closing ∙ list.closed) next)

pub omitted_read : (classes : List Class) (len : ℕ) (more : Subscripts) → ReadsMore classes len more → ReadsMore classes len (omitted more)
unfolding built_by
omitted_read classes len more each text rest right brackets k o mode b list ends is (semicolon, others, all, s, m) next =
    let p : PlacedList = placed_subscripts b.nodes more in
    let behind = each others rest right brackets k o (Begins before.Subscript) b list (omits_subscript k) is m next in
    reads_as classes len mode (k ∷ brackets) (text ++ right ∷ rest) (semicolon ∷ (others ++ right ∷ rest)) _ _ (ap (λ (x : List PlainToken). x ++ right ∷ rest) all)
    (ap (λ (x : List Pending). with_waiting (list_before b p) x) (listed_omitted p.1 b.waiting))
    (reads_token classes len mode (k ∷ brackets) semicolon (others ++ right ∷ rest) symbol.Semicolon (keeps mark.Semicolon (Begins before.Subscript)) (list_before b p) s (ends.going_on ∙ list.next) behind)

pub given_read : (classes : List Class) (len : ℕ) (e : Expr) (more : Subscripts) → ReadsExpr classes len e → ReadsMore classes len more → ReadsMore classes len (given e more)
unfolding built_by
given_read classes len e more each beyond text rest right brackets k o mode b list ends is (semicolon, first, others, all, s, f, m) next =
    let p : PlacedList = placed_subscripts b.nodes more in
    let behind = beyond others rest right brackets k o (Ends (ends_of e)) b list (ends_subscript (ends_of e) k) is m next in
    let here = each first (others ++ right ∷ rest) (k ∷ brackets) (list_before b p) f (listed_closed p.1 b.waiting) behind in
    let begun = begins_as classes len (Begins before.Subscript) e first (others ++ right ∷ rest) (k ∷ brackets) (expr_on e (list_before b p)) f (at_subscript (Some k)) here in
    reads_as classes len mode (k ∷ brackets) (text ++ right ∷ rest) (semicolon ∷ (first ++ (others ++ right ∷ rest))) _ _
    (ap (λ (x : List PlainToken). x ++ right ∷ rest) all ∙ ap (λ (x : List PlainToken). semicolon ∷ x) (append_assoc first others (right ∷ rest))) refl
    (reads_token classes len mode (k ∷ brackets) semicolon (first ++ (others ++ right ∷ rest)) symbol.Semicolon (keeps mark.Semicolon (Begins before.Subscript)) (expr_on e (list_before b p)) s (ends.going_on ∙ list.next) begun)

-- a list of subscripts of these nodes before what was built
abbrev indexing_on : Built → PlacedList → Built
indexing_on b p = record { label = b.label; nodes = p.0; waiting = target_or_operand b.waiting (first_of b.waiting) (others_of b.waiting); lists = p.1 ∷ b.lists }

-- subscripts in brackets are read
abbrev pub ReadsSubscripts : List Class → ℕ → Subscripts → Type 0
ReadsSubscripts classes len subs = (text rest : List PlainToken) (left right : PlainToken) (brackets : List OpenBracket) (k : OpenBracket) (o : Operand) (mode : Mode) (b : Built) → IsList k o
    → step mode (first_of brackets) symbol.LeftBracket ≡ opens mark.OpenSubscripts (Begins before.Subscript) k → Is classes symbol.LeftBracket left → Is classes symbol.RightBracket right → AreSubscripts classes subs text
    → Reads classes len (Ends o) brackets rest b → Reads classes len mode brackets (left ∷ (text ++ right ∷ rest)) (indexing_on b (placed_subscripts b.nodes subs))

abbrev opening : OpenBracket → Move
opening k = record { mark = mark.OpenSubscripts; mode = Begins before.Subscript; change = Open k }

pub first_omitted : (classes : List Class) (len : ℕ) (more : Subscripts) → ReadsMore classes len more → ReadsSubscripts classes len (omitted more)
unfolding built_by
first_omitted classes len more beyond text rest left right brackets k o mode b list goes is_left is m next =
    let p : PlacedList = placed_subscripts b.nodes more in
    let behind = beyond text rest right brackets k o (Begins before.Subscript) b list (omits_subscript k) is m next in
    reads_as classes len mode brackets (left ∷ (text ++ right ∷ rest)) (left ∷ (text ++ right ∷ rest)) _ _ refl
    (ap (λ (x : List Pending). subscripts_built (list_before b p) x) (listed_omitted p.1 b.waiting) ∙ listed_built (list_before b p) (None ∷ p.1) b.waiting)
    (reads_token classes len mode brackets left (text ++ right ∷ rest) symbol.LeftBracket (opening k) (list_before b p) is_left goes behind)

pub first_given : (classes : List Class) (len : ℕ) (e : Expr) (more : Subscripts) → ReadsExpr classes len e → ReadsMore classes len more → ReadsSubscripts classes len (given e more)
unfolding built_by
first_given classes len e more each beyond text rest left right brackets k o mode b list goes is_left is (first, others, all, f, m) next =
    let p : PlacedList = placed_subscripts b.nodes more in
    let q : Placed = placed p.0 e in
    let behind = beyond others rest right brackets k o (Ends (ends_of e)) b list (ends_subscript (ends_of e) k) is m next in
    let here = each first (others ++ right ∷ rest) (k ∷ brackets) (list_before b p) f (listed_closed p.1 b.waiting) behind in
    let begun = begins_as classes len (Begins before.Subscript) e first (others ++ right ∷ rest) (k ∷ brackets) (expr_on e (list_before b p)) f (at_subscript (Some k)) here in
    reads_as classes len mode brackets (left ∷ (text ++ right ∷ rest)) (left ∷ (first ++ (others ++ right ∷ rest))) _ _
    (ap (λ (x : List PlainToken). left ∷ x) (ap (λ (x : List PlainToken). x ++ right ∷ rest) all ∙ append_assoc first others (right ∷ rest))) (listed_built (with_waiting (expr_on e (list_before b p)) b.waiting) (Some q.1 ∷ p.1) b.waiting)
    (reads_token classes len mode brackets left (first ++ (others ++ right ∷ rest)) symbol.LeftBracket (opening k) (expr_on e (list_before b p)) is_left goes begun)

pub is_list : (b : Bool) → IsList (cond b bracket.OfName bracket.OfOther) (cond b operand.Target operand.Other)
is_list true = record { closed = refl; next = refl }
is_list false = record { closed = refl; next = refl }

pub opens_list : (o : Operand) (top : Option OpenBracket) → step (Ends o) top symbol.LeftBracket ≡ opens mark.OpenSubscripts (Begins before.Subscript) (cond (is_bare_name o) bracket.OfName bracket.OfOther)
unfolding step
opens_list o top = refl

pub indexed_read : (classes : List Class) (len : ℕ) (v : Expr) (subs : Subscripts) → ReadsOperand classes len v → ReadsSubscripts classes len subs → ReadsOperand classes len (indexed v subs)
unfolding attached
indexed_read classes len v subs each list text rest brackets b (front, square, inside, all, is_operand, is, p, s) h next =
    let q : PlacedList = placed_subscripts b.nodes subs in
    let o = ends_of v in
    let b1 : Built = record { label = b.label; nodes = q.0; waiting = pending.Indexing ∷ b.waiting; lists = q.1 ∷ b.lists } in
    let read_list = list inside rest p.left p.right brackets (cond (is_bare_name o) bracket.OfName bracket.OfOther) (cond (is_bare_name o) operand.Target operand.Other) (Ends o) b (is_list (is_bare_name o)) (opens_list o (first_of brackets)) p.is_left p.is_right s next in
    let waits : Reads classes len (Ends o) brackets (p.left ∷ (inside ++ p.right ∷ rest)) b1 =
    read_list ∙ ap (λ (x : List Pending). Ok (with_waiting b1 x)) (open_indexing b.waiting h) in
    reads_as classes len (Begins before.Plain) brackets (text ++ rest) (front ++ (p.left ∷ (inside ++ p.right ∷ rest))) _ _
    (two_before text front square rest all ∙ ap (λ (x : List PlainToken). front ++ x) (enclosed_before p.left p.right inside square rest p.enclosed)) refl
    (each front (p.left ∷ (inside ++ p.right ∷ rest)) brackets b1 is tt waits)
