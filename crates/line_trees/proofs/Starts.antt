-- With which symbols an expression begins, and that it begins so wherever one may begin.
use Rattle.std.proofs.Common.{◌≡◌, ℕ, Bool, true, false, List, [], ◌∷◌, ◌++◌, Option, Some, Ok, refl, sym, ap, ◌∙◌, cond}
use Rattle.std.proofs.lemmas.Bool.{false≢true}
use Rattle.apl_verbs.specs.declared.verb.Monad.{Monad}
use Rattle.apl_verbs.specs.declared.verb.Dyad.{Dyad}
use Rattle.line_scanner.specs.Token.{PlainToken}
use Rattle.line_trees.specs.declared.class.Class.{Class}
use Rattle.line_trees.specs.declared.tree.Fun.{Fun}
use Rattle.line_trees.specs.declared.symbol.Symbol.{Symbol}
use Rattle.line_trees.specs.declared.symbol.Symbol.TheVariants as symbol
use Rattle.line_trees.specs.declared.machine.Before.TheVariants as before
use Rattle.line_trees.specs.declared.machine.Mode.{Mode}
use Rattle.line_trees.specs.declared.machine.Mode.TheVariants.{Begins}
use Rattle.line_trees.specs.declared.machine.OpenBracket.{OpenBracket}
use Rattle.apl_arrays.specs.List.{first_of}
use Rattle.line_trees.specs.Symbols.{symbol_of}
use Rattle.line_trees.specs.Marks.{step, takes_axis, after_function}
use Rattle.line_trees.specs.Building.{Built}
use Rattle.line_trees.specs.Trees.{Expr, constant, value, niladic, paren, indexed, monadic, monadic_along, dyadic, dyadic_along, assign, assign_at}
use Rattle.line_trees.specs.Grammar.{symbols, IsExpr, IsMonadic, scalar_monad, operator, other_monad}
use Rattle.line_trees.proofs.Reading.{read, reads_same}

-- an expression may begin with the symbol
abbrev pub leads : Symbol → Bool
leads symbol.Constant = true
leads (symbol.Value n) = true
leads (symbol.Niladic n) = true
leads (symbol.Scalar m d) = true
leads (symbol.Function m d) = true
leads symbol.LeftParenthesis = true
leads s = false

-- a token with which an expression begins, and others
abbrev pub Led : List Class → List PlainToken → Type 0
Led classes text = (token : PlainToken) × (others : List PlainToken) × (text ≡ token ∷ others) × (leads (symbol_of classes token.kind) ≡ true)

-- the first of some symbols
pub one_symbol : (classes : List Class) (text : List PlainToken) (s : Symbol) → symbols classes text ≡ s ∷ [] → (token : PlainToken) × (text ≡ token ∷ []) × (symbol_of classes token.kind ≡ s)
one_symbol classes [] s e = absurd cc
one_symbol classes (token ∷ []) s e = (token, refl, cc)
one_symbol classes (token ∷ other ∷ text) s e = absurd cc

pub two_symbols : (classes : List Class) (text : List PlainToken) (s t : Symbol) → symbols classes text ≡ s ∷ t ∷ []
    → (one two : PlainToken) × (text ≡ one ∷ two ∷ []) × (symbol_of classes one.kind ≡ s) × (symbol_of classes two.kind ≡ t)
two_symbols classes [] s t e = absurd cc
two_symbols classes (one ∷ []) s t e = absurd cc
two_symbols classes (one ∷ two ∷ []) s t e = (one, two, refl, cc, cc)
two_symbols classes (one ∷ two ∷ other ∷ text) s t e = absurd cc

pub three_symbols : (classes : List Class) (text : List PlainToken) (s t u : Symbol) → symbols classes text ≡ s ∷ t ∷ u ∷ []
    → (one two three : PlainToken) × (text ≡ one ∷ two ∷ three ∷ []) × (symbol_of classes one.kind ≡ s) × (symbol_of classes two.kind ≡ t) × (symbol_of classes three.kind ≡ u)
three_symbols classes [] s t u e = absurd cc
three_symbols classes (one ∷ []) s t u e = absurd cc
three_symbols classes (one ∷ two ∷ []) s t u e = absurd cc
three_symbols classes (one ∷ two ∷ three ∷ []) s t u e = (one, two, three, refl, cc, cc, cc)
three_symbols classes (one ∷ two ∷ three ∷ other ∷ text) s t u e = absurd cc

led_more : (classes : List Class) (text front others : List PlainToken) → text ≡ front ++ others → Led classes front → Led classes text
led_more classes text front others e (token, more, whole, leading) = (token, more ++ others, e ∙ ap (λ (x : List PlainToken). x ++ others) whole, leading)

led_one : (classes : List Class) (token : PlainToken) (others : List PlainToken) (s : Symbol) → symbol_of classes token.kind ≡ s → leads s ≡ true → Led classes (token ∷ others)
led_one classes token others s e h = (token, others, refl, ap leads e ∙ h)

monadic_led : (classes : List Class) (f : Fun) (text : List PlainToken) → IsMonadic f (symbols classes text) → Led classes text
monadic_led classes f text (scalar_monad m d is e) = let (token, alone, s) = one_symbol classes text (symbol.Scalar (Some m) d) e in (token, [], alone, ap leads s)
monadic_led classes f text (operator m d fold is e) = let (token, slash, both, s, t) = two_symbols classes text (symbol.Scalar m (Some d)) (symbol.Slash fold) e in (token, slash ∷ [], both, ap leads s)
monadic_led classes f text (other_monad d e) = let (token, alone, s) = one_symbol classes text (symbol.Function (Some f) d) e in (token, [], alone, ap leads s)

-- each expression begins with such a symbol
pub expr_led : (classes : List Class) (e : Expr) (text : List PlainToken) → IsExpr classes e text → Led classes text
expr_led classes (constant items) text h = (h.token, [], h.alone, ap leads h.is)
expr_led classes (value n) text h = (h.token, [], h.alone, ap leads h.is)
expr_led classes (niladic n) text h = (h.token, [], h.alone, ap leads h.is)
expr_led classes (paren e) text (inner, p, h) = (p.left, inner ++ p.right ∷ [], p.enclosed, ap leads p.is_left)
expr_led classes (indexed v subs) text (operand, brackets, inner, whole, is, h, p, s) = led_more classes text operand brackets whole (expr_led classes v operand h)
expr_led classes (monadic f right) text (function, rest, whole, is, h) = led_more classes text function rest whole (monadic_led classes f function is)
expr_led classes (monadic_along f axis right) text (function, brackets, inner, rest, whole, is, takes, p, k, h) = led_more classes text function (brackets ++ rest) whole (monadic_led classes f function is)
expr_led classes (dyadic f left right) text (operand, function, rest, whole, is, h, d, r) = led_more classes text operand (function ++ rest) whole (expr_led classes left operand h)
expr_led classes (dyadic_along f left axis right) text (operand, function, brackets, inner, rest, whole, is, h, d, takes, p, k, r) = led_more classes text operand (function ++ (brackets ++ rest)) whole (expr_led classes left operand h)
expr_led classes (assign n right) text (target, gets, rest, whole, is, g, r) = (target, gets ∷ rest, whole, ap leads is)
expr_led classes (assign_at n subs right) text (target, brackets, inner, gets, rest, whole, is, p, s, g, r) = (target, brackets ++ gets ∷ rest, whole, ap leads is)

-- a mode passes each such symbol as where an expression must begin
abbrev pub BeginsExpr : Mode → Option OpenBracket → Type 0
BeginsExpr mode top = (s : Symbol) → leads s ≡ true → step mode top s ≡ step (Begins before.Plain) top s

pub at_statement : (top : Option OpenBracket) → BeginsExpr (Begins before.Statement) top
unfolding step
at_statement top symbol.Constant h = refl
at_statement top (symbol.Value n) h = refl
at_statement top (symbol.Niladic n) h = refl
at_statement top (symbol.Scalar m d) h = refl
at_statement top (symbol.Function m d) h = refl
at_statement top symbol.LeftParenthesis h = refl
at_statement top s h = absurd (false≢true h)

pub at_subscript : (top : Option OpenBracket) → BeginsExpr (Begins before.Subscript) top
unfolding step
at_subscript top symbol.Constant h = refl
at_subscript top (symbol.Value n) h = refl
at_subscript top (symbol.Niladic n) h = refl
at_subscript top (symbol.Scalar m d) h = refl
at_subscript top (symbol.Function m d) h = refl
at_subscript top symbol.LeftParenthesis h = refl
at_subscript top s h = absurd (false≢true h)

pub at_axis : (top : Option OpenBracket) → BeginsExpr (Begins before.Axis) top
unfolding step
at_axis top symbol.Constant h = refl
at_axis top (symbol.Value n) h = refl
at_axis top (symbol.Niladic n) h = refl
at_axis top (symbol.Scalar m d) h = refl
at_axis top (symbol.Function m d) h = refl
at_axis top symbol.LeftParenthesis h = refl
at_axis top s h = absurd (false≢true h)

pub at_product : (top : Option OpenBracket) → BeginsExpr (Begins before.Product) top
unfolding step
at_product top symbol.Constant h = refl
at_product top (symbol.Value n) h = refl
at_product top (symbol.Niladic n) h = refl
at_product top (symbol.Scalar m d) h = refl
at_product top (symbol.Function m d) h = refl
at_product top symbol.LeftParenthesis h = refl
at_product top s h = absurd (false≢true h)

pub at_lead : (m : Monad) (d : Option Dyad) (top : Option OpenBracket) → BeginsExpr (Begins (before.Lead (Some m) d)) top
unfolding step
at_lead m d top symbol.Constant h = refl
at_lead m d top (symbol.Value n) h = refl
at_lead m d top (symbol.Niladic n) h = refl
at_lead m d top (symbol.Scalar o e) h = refl
at_lead m d top (symbol.Function o e) h = refl
at_lead m d top symbol.LeftParenthesis h = refl
at_lead m d top s h = absurd (false≢true h)

-- behind a function an expression may begin, whether or not an axis may stand there
pub after_monadic : (f : Fun) (top : Option OpenBracket) → BeginsExpr (after_function f) top
after_monadic f top = by_axis (takes_axis f) top
  where
    by_axis : (b : Bool) (top : Option OpenBracket) → BeginsExpr (cond b (Begins before.Axis) (Begins before.Plain)) top
    by_axis true top = at_axis top
    by_axis false top = λ s h. refl

-- an expression is read in each mode where one may begin as where one must begin
pub begins_as : (classes : List Class) (len : ℕ) (mode : Mode) (e : Expr) (text rest : List PlainToken) (brackets : List OpenBracket) (b : Built) → IsExpr classes e text → BeginsExpr mode (first_of brackets)
    → read classes len (Begins before.Plain) brackets (text ++ rest) ≡ Ok b → read classes len mode brackets (text ++ rest) ≡ Ok b
begins_as classes len mode e text rest brackets b h same next =
    let (token, others, whole, leading) = expr_led classes e text h in
    let front : text ++ rest ≡ token ∷ (others ++ rest) = ap (λ (x : List PlainToken). x ++ rest) whole in
    ap (read classes len mode brackets) front ∙ reads_same classes len mode (Begins before.Plain) brackets token (others ++ rest) (same (symbol_of classes token.kind) leading)
    ∙ ap (read classes len (Begins before.Plain) brackets) (sym front) ∙ next
