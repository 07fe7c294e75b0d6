-- The grammar of statements: which tokens are which tree, a production a case.
use Rattle.std.specs.Prelude.{◌≡◌, ◌++◌, ◌∷◌, [], ℕ, List, Option, Some, None, IsTrue, map}
use Rattle.apl_arrays.specs.Array.{PlainItems}
use Rattle.apl_verbs.specs.declared.verb.Dyad.{Dyad}
use Rattle.apl_verbs.specs.declared.verb.Monad.{Monad}
use Rattle.apl_verbs.specs.declared.verb.Verb.TheVariants as verb
use Rattle.line_scanner.specs.Token.{PlainToken}
use Rattle.line_trees.specs.declared.class.Class.{Class}
use Rattle.line_trees.specs.declared.tree.Fun.{Fun}
use Rattle.line_trees.specs.declared.tree.Fun.TheVariants as fun
use Rattle.line_trees.specs.declared.symbol.Fold.{Fold}
use Rattle.line_trees.specs.declared.symbol.Symbol.{Symbol}
use Rattle.line_trees.specs.declared.symbol.Symbol.TheVariants as symbol
use Rattle.line_trees.specs.Signs.{folded, between}
use Rattle.line_trees.specs.Symbols.{symbol_of}
use Rattle.line_trees.specs.Marks.{takes_axis}
use Rattle.line_trees.specs.Building.{items_of}
use Rattle.line_trees.specs.Trees.{Expr, constant, value, niladic, paren, indexed, monadic, monadic_along, dyadic, dyadic_along, assign, assign_at, Subscripts, no_more, omitted, given, Statement, nothing, branch, whole, execute, LineTree}

-- the token is this symbol of the grammar
abbrev pub Is : List Class → Symbol → PlainToken → Type 0
Is classes s token = symbol_of classes token.kind ≡ s

-- the symbols of tokens
abbrev pub symbols : List Class → List PlainToken → List Symbol
symbols classes tokens = map (λ token. symbol_of classes token.kind) tokens

-- one token, which is this symbol
pub record IsOne (classes : List Class) (s : Symbol) (tokens : List PlainToken) : Type 0 where
  pub token : PlainToken
  pub alone : tokens ≡ token ∷ []
  pub is : Is classes s token

-- one token, which is a constant of these items
pub record IsConstantToken (classes : List Class) (items : PlainItems) (tokens : List PlainToken) : Type 0 where
  pub token : PlainToken
  pub alone : tokens ≡ token ∷ []
  pub is : Is classes symbol.Constant token
  pub are : items_of token.kind ≡ items

-- a monadic function: a scalar one; a dyadic scalar one and a slash; or a mixed one, one of a name, or a system function
pub data IsMonadic (f : Fun) (text : List Symbol) : Type 0 where
  scalar_monad : (m : Monad) (d : Option Dyad) → f ≡ fun.Verb (verb.One m) → text ≡ symbol.Scalar (Some m) d ∷ [] → IsMonadic f text
  operator : (m : Option Monad) (d : Dyad) (fold : Fold) → f ≡ fun.Verb (folded d fold) → text ≡ symbol.Scalar m (Some d) ∷ symbol.Slash fold ∷ [] → IsMonadic f text
  other_monad : (dyadic : Option Fun) → text ≡ symbol.Function (Some f) dyadic ∷ [] → IsMonadic f text

-- a dyadic function: a scalar one; an inner product; an outer product; a slash; or another mixed one, one of a name, or a system function
pub data IsDyadic (f : Fun) (text : List Symbol) : Type 0 where
  scalar_dyad : (m : Option Monad) (d : Dyad) → f ≡ fun.Verb (verb.Two d) → text ≡ symbol.Scalar m (Some d) ∷ [] → IsDyadic f text
  inner : (m n : Option Monad) (d e : Dyad) → f ≡ fun.Verb (verb.Inner d e) → text ≡ symbol.Scalar m (Some d) ∷ symbol.Dot ∷ symbol.Scalar n (Some e) ∷ [] → IsDyadic f text
  outer : (n : Option Monad) (e : Dyad) → f ≡ fun.Verb (verb.Outer e) → text ≡ symbol.Jot ∷ symbol.Dot ∷ symbol.Scalar n (Some e) ∷ [] → IsDyadic f text
  slash : (fold : Fold) → f ≡ fun.Verb (between fold) → text ≡ symbol.Slash fold ∷ [] → IsDyadic f text
  other_dyad : (monadic : Option Fun) → text ≡ symbol.Function monadic (Some f) ∷ [] → IsDyadic f text

-- an operand: a constant, a name, an expression in parentheses, or one of these with subscripts
abbrev pub IsOperand : Expr → Type 0
IsOperand (constant items) = Unit {0}
IsOperand (value n) = Unit {0}
IsOperand (niladic n) = Unit {0}
IsOperand (paren e) = Unit {0}
IsOperand (indexed v subs) = Unit {0}
IsOperand (monadic f right) = ⊥
IsOperand (monadic_along f axis right) = ⊥
IsOperand (dyadic f left right) = ⊥
IsOperand (dyadic_along f left axis right) = ⊥
IsOperand (assign target right) = ⊥
IsOperand (assign_at target subs right) = ⊥

-- an axis in brackets stands between a function and its right argument
pub record InBrackets (classes : List Class) (inner text : List PlainToken) : Type 0 where
  pub left : PlainToken
  pub right : PlainToken
  pub is_left : Is classes symbol.LeftBracket left
  pub is_right : Is classes symbol.RightBracket right
  pub enclosed : text ≡ left ∷ (inner ++ right ∷ [])

-- an expression in parentheses
pub record InParentheses (classes : List Class) (inner text : List PlainToken) : Type 0 where
  pub left : PlainToken
  pub right : PlainToken
  pub is_left : Is classes symbol.LeftParenthesis left
  pub is_right : Is classes symbol.RightParenthesis right
  pub enclosed : text ≡ left ∷ (inner ++ right ∷ [])

-- these tokens are this expression; subscripts; subscripts behind the first, each after a semicolon
abbrev mutual
  pub IsExpr : List Class → Expr → List PlainToken → Type 0
  IsExpr classes (constant items) text = IsConstantToken classes items text
  IsExpr classes (value n) text = IsOne classes (symbol.Value n) text
  IsExpr classes (niladic n) text = IsOne classes (symbol.Niladic n) text
  IsExpr classes (paren e) text = (inner : List PlainToken) × InParentheses classes inner text × IsExpr classes e inner
  IsExpr classes (indexed v subs) text =
      (operand brackets inner : List PlainToken) × (text ≡ operand ++ brackets) × IsOperand v × IsExpr classes v operand × InBrackets classes inner brackets × AreSubscripts classes subs inner
  IsExpr classes (monadic f right) text = (function rest : List PlainToken) × (text ≡ function ++ rest) × IsMonadic f (symbols classes function) × IsExpr classes right rest
  IsExpr classes (monadic_along f axis right) text =
      (function brackets inner rest : List PlainToken) × (text ≡ function ++ (brackets ++ rest)) × IsMonadic f (symbols classes function) × IsTrue (takes_axis f) × InBrackets classes inner brackets × IsExpr classes axis inner × IsExpr classes right rest
  IsExpr classes (dyadic f left right) text =
      (operand function rest : List PlainToken) × (text ≡ operand ++ (function ++ rest)) × IsOperand left × IsExpr classes left operand × IsDyadic f (symbols classes function) × IsExpr classes right rest
  IsExpr classes (dyadic_along f left axis right) text =
      (operand function brackets inner rest : List PlainToken) × (text ≡ operand ++ (function ++ (brackets ++ rest))) × IsOperand left × IsExpr classes left operand × IsDyadic f (symbols classes function) × IsTrue (takes_axis f)
      × InBrackets classes inner brackets × IsExpr classes axis inner × IsExpr classes right rest
  IsExpr classes (assign n right) text =
      (target gets : PlainToken) × (rest : List PlainToken) × (text ≡ target ∷ gets ∷ rest) × Is classes (symbol.Value n) target × Is classes symbol.LeftArrow gets × IsExpr classes right rest
  IsExpr classes (assign_at n subs right) text =
      (target : PlainToken) × (brackets inner : List PlainToken) × (gets : PlainToken) × (rest : List PlainToken) × (text ≡ target ∷ (brackets ++ gets ∷ rest)) × Is classes (symbol.Value n) target
      × InBrackets classes inner brackets × AreSubscripts classes subs inner × Is classes symbol.LeftArrow gets × IsExpr classes right rest

  pub AreSubscripts : List Class → Subscripts → List PlainToken → Type 0
  AreSubscripts classes no_more text = ⊥
  AreSubscripts classes (omitted more) text = AreMore classes more text
  AreSubscripts classes (given e more) text = (first rest : List PlainToken) × (text ≡ first ++ rest) × IsExpr classes e first × AreMore classes more rest

  pub AreMore : List Class → Subscripts → List PlainToken → Type 0
  AreMore classes no_more text = text ≡ []
  AreMore classes (omitted more) text = (semicolon : PlainToken) × (rest : List PlainToken) × (text ≡ semicolon ∷ rest) × Is classes symbol.Semicolon semicolon × AreMore classes more rest
  AreMore classes (given e more) text =
      (semicolon : PlainToken) × (first rest : List PlainToken) × (text ≡ semicolon ∷ (first ++ rest)) × Is classes symbol.Semicolon semicolon × IsExpr classes e first × AreMore classes more rest

-- these tokens are this statement
abbrev pub IsStatement : List Class → Statement → List PlainToken → Type 0
IsStatement classes nothing text = text ≡ []
IsStatement classes (branch e) text = (arrow : PlainToken) × (rest : List PlainToken) × (text ≡ arrow ∷ rest) × Is classes symbol.RightArrow arrow × IsExpr classes e rest
IsStatement classes (whole e) text = IsExpr classes e text
IsStatement classes (execute e) text = (sign : PlainToken) × (rest : List PlainToken) × (text ≡ sign ∷ rest) × Is classes symbol.Execute sign × IsExpr classes e rest

-- these tokens are a statement, behind a label if there is one
abbrev pub IsLabelled : List Class → Option (List ℕ) → Statement → List PlainToken → Type 0
IsLabelled classes None statement text = IsStatement classes statement text
IsLabelled classes (Some n) statement text =
    (name colon : PlainToken) × (rest : List PlainToken) × (text ≡ name ∷ colon ∷ rest) × Is classes (symbol.Value n) name × Is classes symbol.Colon colon × IsStatement classes statement rest

-- these tokens are this line
abbrev pub IsLine : List Class → LineTree → List PlainToken → Type 0
IsLine classes line text = IsLabelled classes line.label line.statement text

-- some line of the grammar begins with these tokens
abbrev pub BeginsLine : List Class → List PlainToken → Type 0
BeginsLine classes front = (more : List PlainToken) × (line : LineTree) × IsLine classes line (front ++ more)

-- the place at which no line goes on: that of a token where a line begins with those before it and none with it too, or the length of a line that ends too early
pub data IsStop (classes : List Class) (tokens : List PlainToken) (len at : ℕ) : Type 0 where
  stops_at : (front : List PlainToken) (token : PlainToken) (rest : List PlainToken) → tokens ≡ front ++ token ∷ rest → at ≡ token.at → BeginsLine classes front → (BeginsLine classes (front ++ token ∷ []) → ⊥) → IsStop classes tokens len at
  ends_early : at ≡ len → BeginsLine classes tokens → ((line : LineTree) → IsLine classes line tokens → ⊥) → IsStop classes tokens len at
