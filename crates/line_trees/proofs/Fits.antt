-- What may follow in a line: the rest of a line of the grammar, by what stands before it and by what is open.
use Rattle.std.proofs.Common.{◌≡◌, ℕ, List, [], ◌∷◌, ◌++◌, Option, Some, None, refl, sym, subst, ◌⊎◌}
use Rattle.apl_verbs.specs.declared.verb.Monad.{Monad}
use Rattle.apl_verbs.specs.declared.verb.Dyad.{Dyad}
use Rattle.line_scanner.specs.Token.{PlainToken}
use Rattle.line_trees.specs.declared.class.Class.{Class}
use Rattle.line_trees.specs.declared.symbol.Fold.{Fold}
use Rattle.line_trees.specs.declared.symbol.Symbol.TheVariants as symbol
use Rattle.line_trees.specs.declared.machine.Before.TheVariants as before
use Rattle.line_trees.specs.declared.machine.Operand.{Operand}
use Rattle.line_trees.specs.declared.machine.Operand.TheVariants as operand
use Rattle.line_trees.specs.declared.machine.Mode.{Mode}
use Rattle.line_trees.specs.declared.machine.Mode.TheVariants.{Begins, Ends, Jot, Factor}
use Rattle.line_trees.specs.declared.machine.OpenBracket.{OpenBracket}
use Rattle.line_trees.specs.declared.machine.OpenBracket.TheVariants as bracket
use Rattle.line_trees.specs.declared.machine.Move.{Move}
use Rattle.line_trees.specs.Marks.{open_after}
use Rattle.line_trees.specs.Trees.{Expr, value, indexed, Subscripts, Statement, LineTree}
use Rattle.line_trees.specs.Grammar.{Is, IsOne, IsOperand, InBrackets, IsExpr, AreSubscripts, AreMore, IsStatement, IsLine}

-- these tokens are an operand of this kind
abbrev pub OperandOf : List Class → Operand → Expr → List PlainToken → Type 0
OperandOf classes operand.First v text = (n : List ℕ) × (v ≡ value n) × IsOne classes (symbol.Value n) text
OperandOf classes operand.Name v text = (n : List ℕ) × (v ≡ value n) × IsOne classes (symbol.Value n) text
OperandOf classes operand.Target v text =
    (n : List ℕ) × (subs : Subscripts) × (target : PlainToken) × (square inside : List PlainToken) × (v ≡ indexed (value n) subs) × (text ≡ target ∷ square) × Is classes (symbol.Value n) target × InBrackets classes inside square
    × AreSubscripts classes subs inside
OperandOf classes operand.Other v text = IsOperand v × IsExpr classes v text

-- an operand
abbrev OperandText : List Class → Expr → List PlainToken → Type 0
OperandText classes v text = IsOperand v × IsExpr classes v text

named : (classes : List Class) (v : Expr) (text : List PlainToken) (n : List ℕ) → v ≡ value n → IsOne classes (symbol.Value n) text → OperandText classes v text
named classes v text n e h = subst (λ (x : Expr). OperandText classes x text) (sym e) (tt, h)

pub as_operand : (classes : List Class) (o : Operand) (v : Expr) (text : List PlainToken) → OperandOf classes o v text → OperandText classes v text
as_operand classes operand.First v text (n, e, h) = named classes v text n e h
as_operand classes operand.Name v text (n, e, h) = named classes v text n e h
as_operand classes operand.Target v text (n, subs, target, square, inside, e, all, is, p, s) =
    subst (λ (x : Expr). OperandText classes x text) (sym e) (tt, (target ∷ [], square, inside, all, tt, record { token = target; alone = refl; is = is }, p, s))
as_operand classes operand.Other v text h = h

-- each operand of the kind and the text behind it are an expression
abbrev pub Extends : List Class → Operand → List PlainToken → Type 0
Extends classes o tail = (v : Expr) (text : List PlainToken) → OperandOf classes o v text → (e : Expr) × IsExpr classes e (text ++ tail)

-- the text behind an operand, and what closes behind it
abbrev pub After : (List PlainToken → Type 0) → List Class → Operand → List PlainToken → Type 0
After Q classes o tokens = (tail rest : List PlainToken) × (tokens ≡ tail ++ rest) × Extends classes o tail × Q rest

-- an expression, and what closes behind it
abbrev pub Here : (List PlainToken → Type 0) → List Class → List PlainToken → Type 0
Here Q classes tokens = (e : Expr) × (text rest : List PlainToken) × (tokens ≡ text ++ rest) × IsExpr classes e text × Q rest

-- an axis in brackets and an expression, and what closes behind it
abbrev pub Along : (List PlainToken → Type 0) → List Class → List PlainToken → Type 0
Along Q classes tokens =
    (axis right : Expr) × (inside square text rest : List PlainToken) × (tokens ≡ square ++ (text ++ rest)) × InBrackets classes inside square × IsExpr classes axis inside × IsExpr classes right text × Q rest

-- what closes all that is open
abbrev pub ClosedBy : List Class → List OpenBracket → List PlainToken → Type 0
ClosedBy classes [] rest = rest ≡ []
ClosedBy classes (bracket.Parenthesis ∷ brackets) rest = (close : PlainToken) × (more : List PlainToken) × (rest ≡ close ∷ more) × Is classes symbol.RightParenthesis close × After (ClosedBy classes brackets) classes operand.Other more
ClosedBy classes (bracket.OfName ∷ brackets) rest =
    (subs : Subscripts) × (list : List PlainToken) × (close : PlainToken) × (more : List PlainToken) × (rest ≡ list ++ close ∷ more) × AreMore classes subs list × Is classes symbol.RightBracket close
    × After (ClosedBy classes brackets) classes operand.Target more
ClosedBy classes (bracket.OfOther ∷ brackets) rest =
    (subs : Subscripts) × (list : List PlainToken) × (close : PlainToken) × (more : List PlainToken) × (rest ≡ list ++ close ∷ more) × AreMore classes subs list × Is classes symbol.RightBracket close
    × After (ClosedBy classes brackets) classes operand.Other more
ClosedBy classes (bracket.Axis ∷ brackets) rest =
    (close : PlainToken) × (right : Expr) × (text more : List PlainToken) × (rest ≡ close ∷ (text ++ more)) × Is classes symbol.RightBracket close × IsExpr classes right text × ClosedBy classes brackets more

-- subscripts from the first on, the bracket that closes them, and what follows the operand
abbrev pub ListHere : List Class → List OpenBracket → Operand → List PlainToken → Type 0
ListHere classes brackets o tokens =
    (subs : Subscripts) × (list : List PlainToken) × (close : PlainToken) × (more : List PlainToken) × (tokens ≡ list ++ close ∷ more) × AreSubscripts classes subs list × Is classes symbol.RightBracket close
    × After (ClosedBy classes brackets) classes o more

abbrev pub SubscriptsHere : List Class → List OpenBracket → List PlainToken → Type 0
SubscriptsHere classes [] tokens = Unit {0}
SubscriptsHere classes (bracket.Parenthesis ∷ brackets) tokens = Unit {0}
SubscriptsHere classes (bracket.OfName ∷ brackets) tokens = ListHere classes brackets operand.Target tokens
SubscriptsHere classes (bracket.OfOther ∷ brackets) tokens = ListHere classes brackets operand.Other tokens
SubscriptsHere classes (bracket.Axis ∷ brackets) tokens = Unit {0}

-- a dot and a factor, and an expression
abbrev pub Factored : List Class → List OpenBracket → List PlainToken → Type 0
Factored classes brackets tokens = (factor : PlainToken) × (more : List PlainToken) × (n : Option Monad) × (g : Dyad) × (tokens ≡ factor ∷ more) × Is classes (symbol.Scalar n (Some g)) factor × Here (ClosedBy classes brackets) classes more

abbrev pub Dotted : List Class → List OpenBracket → List PlainToken → Type 0
Dotted classes brackets tokens = (dot : PlainToken) × (others : List PlainToken) × (tokens ≡ dot ∷ others) × Is classes symbol.Dot dot × Factored classes brackets others

-- an expression, or a slash, perhaps an axis, and an expression
abbrev pub Led : List Class → List OpenBracket → Option Monad → Option Dyad → List PlainToken → Type 0
Led classes brackets m d tokens =
    ((k : Monad) × (m ≡ Some k) × Here (ClosedBy classes brackets) classes tokens)
    ⊎ ((bar : PlainToken) × (more : List PlainToken) × (f : Fold) × (g : Dyad) × (tokens ≡ bar ∷ more) × Is classes (symbol.Slash f) bar × (d ≡ Some g) × (Here (ClosedBy classes brackets) classes more ⊎ Along (ClosedBy classes brackets) classes more))

-- a statement, where nothing is open
abbrev pub StatementHere : List Class → List OpenBracket → List PlainToken → Type 0
StatementHere classes [] tokens = (s : Statement) × IsStatement classes s tokens
StatementHere classes (b ∷ brackets) tokens = Unit {0}

abbrev pub LineHere : List Class → List OpenBracket → List PlainToken → Type 0
LineHere classes [] tokens = (line : LineTree) × IsLine classes line tokens
LineHere classes (b ∷ brackets) tokens = Unit {0}

-- what follows a name at the front of a line: a colon and a statement, or what follows another name
abbrev pub FirstHere : List Class → List OpenBracket → List PlainToken → Type 0
FirstHere classes [] tokens = After (ClosedBy classes []) classes operand.Name tokens ⊎ ((colon : PlainToken) × (rest : List PlainToken) × (s : Statement) × (tokens ≡ colon ∷ rest) × Is classes symbol.Colon colon × IsStatement classes s rest)
FirstHere classes (b ∷ brackets) tokens = Unit {0}

-- these tokens may follow a mode, under what is open
abbrev pub Fits : List Class → Mode → List OpenBracket → List PlainToken → Type 0
Fits classes (Begins before.Line) brackets tokens = LineHere classes brackets tokens
Fits classes (Begins before.Statement) brackets tokens = StatementHere classes brackets tokens
Fits classes (Begins before.Plain) brackets tokens = Here (ClosedBy classes brackets) classes tokens
Fits classes (Begins before.Subscript) brackets tokens = SubscriptsHere classes brackets tokens
Fits classes (Begins before.Axis) brackets tokens = Here (ClosedBy classes brackets) classes tokens ⊎ Along (ClosedBy classes brackets) classes tokens
Fits classes (Begins before.Product) brackets tokens = Here (ClosedBy classes brackets) classes tokens ⊎ Dotted classes brackets tokens
Fits classes (Begins (before.Lead m d)) brackets tokens = Led classes brackets m d tokens
Fits classes (Ends operand.First) brackets tokens = FirstHere classes brackets tokens
Fits classes (Ends operand.Name) brackets tokens = After (ClosedBy classes brackets) classes operand.Name tokens
Fits classes (Ends operand.Target) brackets tokens = After (ClosedBy classes brackets) classes operand.Target tokens
Fits classes (Ends operand.Other) brackets tokens = After (ClosedBy classes brackets) classes operand.Other tokens
Fits classes Jot brackets tokens = Dotted classes brackets tokens
Fits classes Factor brackets tokens = Factored classes brackets tokens

-- a move after which the tokens fit
abbrev pub FitsBy : List Class → List OpenBracket → List PlainToken → Option Move → Type 0
FitsBy classes brackets tokens None = ⊥
FitsBy classes brackets tokens (Some move) = Fits classes move.mode (open_after move.change brackets) tokens
