-- Where an expression begins, a token and what may follow it are one.
use Rattle.std.proofs.Common.{◌≡◌, Bool, true, false, cond, List, [], ◌∷◌, ◌++◌, Option, Some, refl, sym, ap, subst, ◌∙◌, ◌⊎◌, inl, inr, append_assoc}
use Rattle.apl_verbs.specs.declared.verb.Monad.{Monad}
use Rattle.apl_verbs.specs.declared.verb.Dyad.{Dyad}
use Rattle.apl_verbs.specs.declared.verb.Verb.TheVariants as verb
use Rattle.line_scanner.specs.Token.{PlainToken}
use Rattle.line_trees.specs.declared.class.Class.{Class}
use Rattle.line_trees.specs.declared.tree.Fun.{Fun}
use Rattle.line_trees.specs.declared.tree.Fun.TheVariants as fun
use Rattle.line_trees.specs.declared.symbol.Fold.{Fold}
use Rattle.line_trees.specs.declared.symbol.Fold.TheVariants as fold
use Rattle.line_trees.specs.declared.symbol.Symbol.{Symbol}
use Rattle.line_trees.specs.declared.symbol.Symbol.TheVariants as symbol
use Rattle.line_trees.specs.declared.machine.Before.TheVariants as before
use Rattle.line_trees.specs.declared.machine.Operand.{Operand}
use Rattle.line_trees.specs.declared.machine.Operand.TheVariants as operand
use Rattle.line_trees.specs.declared.machine.Mode.TheVariants.{Begins}
use Rattle.line_trees.specs.declared.machine.OpenBracket.{OpenBracket}
use Rattle.line_trees.specs.Signs.{folded}
use Rattle.line_trees.specs.Symbols.{symbol_of}
use Rattle.line_trees.specs.Marks.{takes_axis, begin}
use Rattle.line_trees.specs.Building.{items_of}
use Rattle.line_trees.specs.Trees.{Expr, constant, value, niladic, paren, monadic, monadic_along}
use Rattle.line_trees.specs.Grammar.{Is, symbols, IsMonadic, scalar_monad, operator, other_monad}
use Rattle.line_trees.proofs.Fits.{OperandOf, After, Here, Along, ClosedBy, Led, Fits, FitsBy}

one_is : (classes : List Class) (token : PlainToken) (s t : Symbol) → Is classes s token → s ≡ t → symbols classes (token ∷ []) ≡ t ∷ []
one_is classes token s t is e = ap (λ (x : Symbol). x ∷ []) (is ∙ e)

pub two_are : (classes : List Class) (one two : PlainToken) (s t : Symbol) → symbol_of classes one.kind ≡ s → symbol_of classes two.kind ≡ t → symbols classes (one ∷ two ∷ []) ≡ s ∷ t ∷ []
two_are classes one two s t e f = ap (λ (x : Symbol). x ∷ symbol_of classes two.kind ∷ []) e ∙ ap (λ (x : Symbol). s ∷ x ∷ []) f

fold_takes_axis : (d : Dyad) (f : Fold) → takes_axis (fun.Verb (folded d f)) ≡ true
fold_takes_axis d (fold.Reduce way) = refl
fold_takes_axis d (fold.Scan way) = refl

-- a monadic function before an expression, or before an axis and an expression
monadic_here : (Q : List PlainToken → Type 0) (classes : List Class) (f : Fun) (function tokens : List PlainToken) → IsMonadic f (symbols classes function) → Here Q classes tokens → Here Q classes (function ++ tokens)
monadic_here Q classes f function tokens m (e, text, rest, all, h, closed) =
    (monadic f e, function ++ text, rest, ap (λ (x : List PlainToken). function ++ x) all ∙ sym (append_assoc function text rest), (function, text, refl, m, h), closed)

monadic_along_here : (Q : List PlainToken → Type 0) (classes : List Class) (f : Fun) (function tokens : List PlainToken) → IsMonadic f (symbols classes function) → takes_axis f ≡ true → Along Q classes tokens → Here Q classes (function ++ tokens)
monadic_along_here Q classes f function tokens m takes (axis, right, inside, square, text, rest, all, p, k, h, closed) = (
  monadic_along f axis right,
  function ++ (square ++ text),
  rest,
  ap (λ (x : List PlainToken). function ++ x) (all ∙ sym (append_assoc square text rest)) ∙ sym (append_assoc function (square ++ text) rest),
  (function, square, inside, text, refl, m, takes, p, k, h),
  closed,
)

-- what follows a function fits by whether it takes an axis
pub by_axis : (classes : List Class) (brackets : List OpenBracket) (tokens : List PlainToken) (b : Bool) → Fits classes (cond b (Begins before.Axis) (Begins before.Plain)) brackets tokens
    → Here (ClosedBy classes brackets) classes tokens ⊎ ((b ≡ true) × Along (ClosedBy classes brackets) classes tokens)
by_axis classes brackets tokens true (inl h) = inl h
by_axis classes brackets tokens true (inr h) = inr (refl, h)
by_axis classes brackets tokens false h = inl h

led_here : (classes : List Class) (brackets : List OpenBracket) (token : PlainToken) (tokens : List PlainToken) (m : Option Monad) (d : Option Dyad) → Is classes (symbol.Scalar m d) token → Led classes brackets m d tokens → Here (ClosedBy classes brackets) classes (token ∷ tokens)
led_here classes brackets token tokens m d is (inl (k, e, h)) =
    monadic_here (ClosedBy classes brackets) classes (fun.Verb (verb.One k)) (token ∷ []) tokens (scalar_monad k d refl (one_is classes token (symbol.Scalar m d) (symbol.Scalar (Some k) d) is (ap (λ (x : Option Monad). symbol.Scalar x d) e))) h
led_here classes brackets token tokens m d is (inr (bar, more, f, g, all, is_bar, e, inl h)) =
    subst (λ (x : List PlainToken). Here (ClosedBy classes brackets) classes (token ∷ x)) (sym all)
    (monadic_here (ClosedBy classes brackets) classes (fun.Verb (folded g f)) (token ∷ bar ∷ []) more
    (operator m g f refl (two_are classes token bar (symbol.Scalar m (Some g)) (symbol.Slash f) (is ∙ ap (λ (x : Option Dyad). symbol.Scalar m x) e) is_bar)) h)
led_here classes brackets token tokens m d is (inr (bar, more, f, g, all, is_bar, e, inr h)) =
    subst (λ (x : List PlainToken). Here (ClosedBy classes brackets) classes (token ∷ x)) (sym all)
    (monadic_along_here (ClosedBy classes brackets) classes (fun.Verb (folded g f)) (token ∷ bar ∷ []) more
    (operator m g f refl (two_are classes token bar (symbol.Scalar m (Some g)) (symbol.Slash f) (is ∙ ap (λ (x : Option Dyad). symbol.Scalar m x) e) is_bar)) (fold_takes_axis g f) h)

function_here : (classes : List Class) (brackets : List OpenBracket) (token : PlainToken) (tokens : List PlainToken) (f : Fun) (d : Option Fun) → Is classes (symbol.Function (Some f) d) token
    → Here (ClosedBy classes brackets) classes tokens ⊎ ((takes_axis f ≡ true) × Along (ClosedBy classes brackets) classes tokens) → Here (ClosedBy classes brackets) classes (token ∷ tokens)
function_here classes brackets token tokens f d is (inl h) = monadic_here (ClosedBy classes brackets) classes f (token ∷ []) tokens (other_monad d (ap (λ (x : Symbol). x ∷ []) is)) h
function_here classes brackets token tokens f d is (inr (takes, h)) = monadic_along_here (ClosedBy classes brackets) classes f (token ∷ []) tokens (other_monad d (ap (λ (x : Symbol). x ∷ []) is)) takes h

-- an operand of one token, and what follows it
one_here : (Q : List PlainToken → Type 0) (classes : List Class) (o : Operand) (v : Expr) (token : PlainToken) (tokens : List PlainToken) → OperandOf classes o v (token ∷ []) → After Q classes o tokens → Here Q classes (token ∷ tokens)
one_here Q classes o v token tokens is (tail, rest, all, extend, closed) =
    let (e, h) = extend v (token ∷ []) is in
    (e, token ∷ tail, rest, ap (λ (x : List PlainToken). token ∷ x) all, h, closed)

paren_here : (Q : List PlainToken → Type 0) (classes : List Class) (left : PlainToken) (tokens : List PlainToken) → Is classes symbol.LeftParenthesis left
    → Here (λ rest. (close : PlainToken) × (more : List PlainToken) × (rest ≡ close ∷ more) × Is classes symbol.RightParenthesis close × After Q classes operand.Other more) classes tokens → Here Q classes (left ∷ tokens)
paren_here Q classes left tokens is (inside, text, others, all, h, (close, more, shut, is_close, (tail, rest, behind, extend, closed))) =
    let closing : List PlainToken = left ∷ (text ++ close ∷ []) in
    let (e, k) = extend (paren inside) closing (tt, (text, record { left = left; right = close; is_left = is; is_right = is_close; enclosed = refl }, h)) in (
      e,
      closing ++ tail,
      rest,
      ap (λ (x : List PlainToken). left ∷ x) (all ∙ ap (λ (x : List PlainToken). text ++ x) (shut ∙ ap (λ (x : List PlainToken). close ∷ x) behind) ∙ sym (append_assoc text (close ∷ []) (tail ++ rest)) ∙ sym (append_assoc (text ++ close ∷ []) tail rest)),
      k,
      closed,
    )

pub begin_fits : (classes : List Class) (brackets : List OpenBracket) (token : PlainToken) (tokens : List PlainToken) (s : Symbol) → Is classes s token → FitsBy classes brackets tokens (begin s) → Here (ClosedBy classes brackets) classes (token ∷ tokens)
begin_fits classes brackets token tokens symbol.Constant is h =
    one_here (ClosedBy classes brackets) classes operand.Other (constant (items_of token.kind)) token tokens (tt, record { token = token; alone = refl; is = is; are = refl }) h
begin_fits classes brackets token tokens (symbol.Value n) is h = one_here (ClosedBy classes brackets) classes operand.Name (value n) token tokens (n, refl, record { token = token; alone = refl; is = is }) h
begin_fits classes brackets token tokens (symbol.Niladic n) is h = one_here (ClosedBy classes brackets) classes operand.Other (niladic n) token tokens (tt, record { token = token; alone = refl; is = is }) h
begin_fits classes brackets token tokens (symbol.Scalar m d) is h = led_here classes brackets token tokens m d is h
begin_fits classes brackets token tokens (symbol.Function (Some f) d) is h = function_here classes brackets token tokens f d is (by_axis classes brackets tokens (takes_axis f) h)
begin_fits classes brackets token tokens symbol.LeftParenthesis is h = paren_here (ClosedBy classes brackets) classes token tokens is h
begin_fits classes brackets token tokens s is h = absurd h
