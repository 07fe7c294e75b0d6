-- Behind an operand, a token and what may follow it complete an expression.
use Rattle.std.proofs.Common.{◌≡◌, true, List, [], ◌∷◌, ◌++◌, Option, Some, refl, sym, ap, subst, ◌∙◌, ◌⊎◌, inl, inr, append_assoc}
use Rattle.std.proofs.lemmas.List.{append-nil}
use Rattle.apl_verbs.specs.declared.verb.Monad.{Monad}
use Rattle.apl_verbs.specs.declared.verb.Dyad.{Dyad}
use Rattle.apl_verbs.specs.declared.verb.Verb.TheVariants as verb
use Rattle.line_scanner.specs.Token.{PlainToken}
use Rattle.line_trees.specs.declared.class.Class.{Class}
use Rattle.line_trees.specs.declared.tree.Fun.{Fun}
use Rattle.line_trees.specs.declared.tree.Fun.TheVariants as fun
use Rattle.line_trees.specs.declared.symbol.Fold.{Fold}
use Rattle.line_trees.specs.declared.symbol.Fold.TheVariants as fold
use Rattle.line_trees.specs.declared.symbol.Symbol.{Symbol}
use Rattle.line_trees.specs.declared.symbol.Symbol.TheVariants as symbol
use Rattle.line_trees.specs.declared.machine.Operand.{Operand}
use Rattle.line_trees.specs.declared.machine.Operand.TheVariants as operand
use Rattle.line_trees.specs.declared.machine.OpenBracket.{OpenBracket}
use Rattle.line_trees.specs.declared.machine.OpenBracket.TheVariants as bracket
use Rattle.apl_arrays.specs.List.{first_of}
use Rattle.line_trees.specs.Signs.{between}
use Rattle.line_trees.specs.Symbols.{symbol_of}
use Rattle.line_trees.specs.Marks.{takes_axis, go_on, close_bracket, close_parenthesis, next_subscript, factor}
use Rattle.line_trees.specs.Trees.{value, indexed, dyadic, dyadic_along, assign, assign_at, Subscripts, no_more, omitted, given}
use Rattle.line_trees.specs.Grammar.{Is, symbols, IsDyadic, scalar_dyad, inner, outer, slash, other_dyad, IsExpr, AreSubscripts, AreMore}
use Rattle.line_trees.proofs.Fits.{as_operand, Extends, After, Here, Along, ClosedBy, Dotted, FirstHere, FitsBy}
use Rattle.line_trees.proofs.BeginFits.{two_are, by_axis}

three_are : (classes : List Class) (one two three : PlainToken) (s t u : Symbol) → symbol_of classes one.kind ≡ s → symbol_of classes two.kind ≡ t → symbol_of classes three.kind ≡ u → symbols classes (one ∷ two ∷ three ∷ []) ≡ s ∷ t ∷ u ∷ []
three_are classes one two three s t u e f g = ap (λ (x : Symbol). x ∷ symbol_of classes two.kind ∷ symbol_of classes three.kind ∷ []) e ∙ ap (λ (x : List Symbol). s ∷ x) (two_are classes two three t u f g)

between_takes_axis : (f : Fold) → takes_axis (fun.Verb (between f)) ≡ true
between_takes_axis (fold.Reduce way) = refl
between_takes_axis (fold.Scan way) = refl

-- a dyadic function and an expression
dyadic_after : (Q : List PlainToken → Type 0) (classes : List Class) (o : Operand) (f : Fun) (function tokens : List PlainToken) → IsDyadic f (symbols classes function) → Here Q classes tokens → After Q classes o (function ++ tokens)
dyadic_after Q classes o f function tokens d (e, text, rest, all, h, closed) = (
  function ++ text,
  rest,
  ap (λ (x : List PlainToken). function ++ x) all ∙ sym (append_assoc function text rest),
  (λ v front is. let (is_operand, k) = as_operand classes o v front is in (dyadic f v e, (front, function, text, refl, is_operand, k, d, h))),
  closed,
)

dyadic_along_after : (Q : List PlainToken → Type 0) (classes : List Class) (o : Operand) (f : Fun) (function tokens : List PlainToken) → IsDyadic f (symbols classes function) → takes_axis f ≡ true → Along Q classes tokens
    → After Q classes o (function ++ tokens)
dyadic_along_after Q classes o f function tokens d takes (axis, right, inside, square, text, rest, all, p, k, h, closed) = (
  function ++ (square ++ text),
  rest,
  ap (λ (x : List PlainToken). function ++ x) (all ∙ sym (append_assoc square text rest)) ∙ sym (append_assoc function (square ++ text) rest),
  (λ v front is. let (is_operand, l) = as_operand classes o v front is in (dyadic_along f v axis right, (front, function, square, inside, text, refl, is_operand, l, d, takes, p, k, h))),
  closed,
)

product_after : (classes : List Class) (brackets : List OpenBracket) (o : Operand) (token : PlainToken) (tokens : List PlainToken) (m : Option Monad) (d : Dyad) → Is classes (symbol.Scalar m (Some d)) token
    → Here (ClosedBy classes brackets) classes tokens ⊎ Dotted classes brackets tokens → After (ClosedBy classes brackets) classes o (token ∷ tokens)
product_after classes brackets o token tokens m d is (inl h) =
    dyadic_after (ClosedBy classes brackets) classes o (fun.Verb (verb.Two d)) (token ∷ []) tokens (scalar_dyad m d refl (ap (λ (x : Symbol). x ∷ []) is)) h
product_after classes brackets o token tokens m d is (inr (dot, others, all, is_dot, (factor, more, n, g, behind, is_factor, h))) =
    subst (λ (x : List PlainToken). After (ClosedBy classes brackets) classes o (token ∷ x)) (sym (all ∙ ap (λ (x : List PlainToken). dot ∷ x) behind))
    (dyadic_after (ClosedBy classes brackets) classes o (fun.Verb (verb.Inner d g)) (token ∷ dot ∷ factor ∷ []) more
    (inner m n d g refl (three_are classes token dot factor (symbol.Scalar m (Some d)) symbol.Dot (symbol.Scalar n (Some g)) is is_dot is_factor)) h)

jot_after : (classes : List Class) (brackets : List OpenBracket) (o : Operand) (token : PlainToken) (tokens : List PlainToken) → Is classes symbol.Jot token → Dotted classes brackets tokens → After (ClosedBy classes brackets) classes o (token ∷ tokens)
jot_after classes brackets o token tokens is (dot, others, all, is_dot, (factor, more, n, g, behind, is_factor, h)) =
    subst (λ (x : List PlainToken). After (ClosedBy classes brackets) classes o (token ∷ x)) (sym (all ∙ ap (λ (x : List PlainToken). dot ∷ x) behind))
    (dyadic_after (ClosedBy classes brackets) classes o (fun.Verb (verb.Outer g)) (token ∷ dot ∷ factor ∷ []) more
    (outer n g refl (three_are classes token dot factor symbol.Jot symbol.Dot (symbol.Scalar n (Some g)) is is_dot is_factor)) h)

slash_after : (classes : List Class) (brackets : List OpenBracket) (o : Operand) (token : PlainToken) (tokens : List PlainToken) (f : Fold) → Is classes (symbol.Slash f) token
    → Here (ClosedBy classes brackets) classes tokens ⊎ Along (ClosedBy classes brackets) classes tokens → After (ClosedBy classes brackets) classes o (token ∷ tokens)
slash_after classes brackets o token tokens f is (inl h) = dyadic_after (ClosedBy classes brackets) classes o (fun.Verb (between f)) (token ∷ []) tokens (slash f refl (ap (λ (x : Symbol). x ∷ []) is)) h
slash_after classes brackets o token tokens f is (inr h) =
    dyadic_along_after (ClosedBy classes brackets) classes o (fun.Verb (between f)) (token ∷ []) tokens (slash f refl (ap (λ (x : Symbol). x ∷ []) is)) (between_takes_axis f) h

function_after : (classes : List Class) (brackets : List OpenBracket) (o : Operand) (token : PlainToken) (tokens : List PlainToken) (m : Option Fun) (f : Fun) → Is classes (symbol.Function m (Some f)) token
    → Here (ClosedBy classes brackets) classes tokens ⊎ ((takes_axis f ≡ true) × Along (ClosedBy classes brackets) classes tokens) → After (ClosedBy classes brackets) classes o (token ∷ tokens)
function_after classes brackets o token tokens m f is (inl h) = dyadic_after (ClosedBy classes brackets) classes o f (token ∷ []) tokens (other_dyad m (ap (λ (x : Symbol). x ∷ []) is)) h
function_after classes brackets o token tokens m f is (inr (takes, h)) = dyadic_along_after (ClosedBy classes brackets) classes o f (token ∷ []) tokens (other_dyad m (ap (λ (x : Symbol). x ∷ []) is)) takes h

-- an assignment to a name
assign_after : (Q : List PlainToken → Type 0) (classes : List Class) (gets : PlainToken) (tokens : List PlainToken) → Is classes symbol.LeftArrow gets → Here Q classes tokens → After Q classes operand.Name (gets ∷ tokens)
assign_after Q classes gets tokens is (e, text, rest, all, h, closed) = (
  gets ∷ text,
  rest,
  ap (λ (x : List PlainToken). gets ∷ x) all,
  (λ v front (n, same, one). (assign n e, (one.token, gets, text, ap (λ (x : List PlainToken). x ++ gets ∷ text) one.alone, one.is, is, h))),
  closed,
)

-- an assignment to items of a name
assign_at_after : (Q : List PlainToken → Type 0) (classes : List Class) (gets : PlainToken) (tokens : List PlainToken) → Is classes symbol.LeftArrow gets → Here Q classes tokens → After Q classes operand.Target (gets ∷ tokens)
assign_at_after Q classes gets tokens is (e, text, rest, all, h, closed) = (
  gets ∷ text,
  rest,
  ap (λ (x : List PlainToken). gets ∷ x) all,
  (λ v front (n, subs, target, square, inside, same, all, is_target, p, s).
      (assign_at n subs e, (target, square, inside, gets, text, ap (λ (x : List PlainToken). x ++ gets ∷ text) all, is_target, p, s, is, h))),
  closed,
)

-- subscripts behind an operand
indexed_extends : (classes : List Class) (o : Operand) (left right : PlainToken) (subs : Subscripts) (list tail : List PlainToken) → Is classes symbol.LeftBracket left → Is classes symbol.RightBracket right → AreSubscripts classes subs list
    → Extends classes operand.Other tail → Extends classes o (left ∷ (list ++ right ∷ tail))
indexed_extends classes o left right subs list tail is_left is_right s extend v front is =
    let (is_operand, h) = as_operand classes o v front is in
    let square : List PlainToken = left ∷ (list ++ right ∷ []) in
    let (e, k) = extend (indexed v subs) (front ++ square) (tt, (front, square, list, refl, is_operand, h, record { left = left; right = right; is_left = is_left; is_right = is_right; enclosed = refl }, s)) in
    (e, subst (λ (x : List PlainToken). IsExpr classes e x) (append_assoc front square tail ∙ ap (λ (x : List PlainToken). front ++ (left ∷ x)) (append_assoc list (right ∷ []) tail)) k)

-- subscripts behind a name
target_extends : (classes : List Class) (left right : PlainToken) (subs : Subscripts) (list tail : List PlainToken) → Is classes symbol.LeftBracket left → Is classes symbol.RightBracket right → AreSubscripts classes subs list
    → Extends classes operand.Target tail → Extends classes operand.Name (left ∷ (list ++ right ∷ tail))
target_extends classes left right subs list tail is_left is_right s extend v front (n, same, one) =
    let square : List PlainToken = left ∷ (list ++ right ∷ []) in
    let (e, k) = extend (indexed (value n) subs) (one.token ∷ square) (n, subs, one.token, square, list, refl, refl, one.is, record { left = left; right = right; is_left = is_left; is_right = is_right; enclosed = refl }, s) in
    (e, subst (λ (x : List PlainToken). IsExpr classes e x) (ap (λ (x : List PlainToken). one.token ∷ (left ∷ x)) (append_assoc list (right ∷ []) tail) ∙ ap (λ (x : List PlainToken). x ++ (left ∷ (list ++ right ∷ tail))) (sym one.alone)) k)

list_after : (Q : List PlainToken → Type 0) (classes : List Class) (o p : Operand) (left : PlainToken) (tokens : List PlainToken)
    → ((right : PlainToken) (subs : Subscripts) (list tail : List PlainToken) → Is classes symbol.RightBracket right → AreSubscripts classes subs list → Extends classes p tail → Extends classes o (left ∷ (list ++ right ∷ tail)))
    → (subs : Subscripts) × (list : List PlainToken) × (close : PlainToken) × (more : List PlainToken) × (tokens ≡ list ++ close ∷ more) × AreSubscripts classes subs list × Is classes symbol.RightBracket close × After Q classes p more
    → After Q classes o (left ∷ tokens)
list_after Q classes o p left tokens extends (subs, list, close, more, all, s, is_close, (tail, rest, behind, extend, closed)) = (
  left ∷ (list ++ close ∷ tail),
  rest,
  ap (λ (x : List PlainToken). left ∷ x) (all ∙ ap (λ (x : List PlainToken). list ++ close ∷ x) behind ∙ sym (append_assoc list (close ∷ tail) rest)),
  extends close subs list tail is_close s extend,
  closed,
)

-- nothing behind an operand
pub nothing_extends : (classes : List Class) (o : Operand) → Extends classes o []
nothing_extends classes o v text is = (v, subst (λ (x : List PlainToken). IsExpr classes v x) (sym (append-nil text)) (as_operand classes o v text is).1)

-- what closes
closes_parenthesis : (classes : List Class) (brackets : List OpenBracket) (token : PlainToken) (tokens : List PlainToken) → Is classes symbol.RightParenthesis token → FitsBy classes brackets tokens (close_parenthesis (first_of brackets))
    → ClosedBy classes brackets (token ∷ tokens)
closes_parenthesis classes [] token tokens is h = absurd h
closes_parenthesis classes (bracket.Parenthesis ∷ brackets) token tokens is h = (token, tokens, refl, is, h)
closes_parenthesis classes (bracket.OfName ∷ brackets) token tokens is h = absurd h
closes_parenthesis classes (bracket.OfOther ∷ brackets) token tokens is h = absurd h
closes_parenthesis classes (bracket.Axis ∷ brackets) token tokens is h = absurd h

closes_bracket : (classes : List Class) (brackets : List OpenBracket) (token : PlainToken) (tokens : List PlainToken) → Is classes symbol.RightBracket token → FitsBy classes brackets tokens (close_bracket (first_of brackets)) → ClosedBy classes brackets (token ∷ tokens)
closes_bracket classes [] token tokens is h = absurd h
closes_bracket classes (bracket.Parenthesis ∷ brackets) token tokens is h = absurd h
closes_bracket classes (bracket.OfName ∷ brackets) token tokens is h = (no_more, [], token, tokens, refl, refl, is, h)
closes_bracket classes (bracket.OfOther ∷ brackets) token tokens is h = (no_more, [], token, tokens, refl, refl, is, h)
closes_bracket classes (bracket.Axis ∷ brackets) token tokens is (e, text, rest, all, h, closed) = (token, e, text, rest, ap (λ (x : List PlainToken). token ∷ x) all, is, h, closed)

-- subscripts behind a semicolon
pub more_of : (classes : List Class) (subs : Subscripts) (semicolon : PlainToken) (list : List PlainToken) → Is classes symbol.Semicolon semicolon → AreSubscripts classes subs list → AreMore classes subs (semicolon ∷ list)
more_of classes no_more semicolon list is h = absurd h
more_of classes (omitted more) semicolon list is h = (semicolon, list, refl, is, h)
more_of classes (given e more) semicolon list is (first, rest, all, h, m) = (semicolon, first, rest, ap (λ (x : List PlainToken). semicolon ∷ x) all, is, h, m)

goes_on : (classes : List Class) (brackets : List OpenBracket) (token : PlainToken) (tokens : List PlainToken) → Is classes symbol.Semicolon token → FitsBy classes brackets tokens (next_subscript (first_of brackets)) → ClosedBy classes brackets (token ∷ tokens)
goes_on classes [] token tokens is h = absurd h
goes_on classes (bracket.Parenthesis ∷ brackets) token tokens is h = absurd h
goes_on classes (bracket.OfName ∷ brackets) token tokens is (subs, list, close, more, all, s, is_close, h) = (subs, token ∷ list, close, more, ap (λ (x : List PlainToken). token ∷ x) all, more_of classes subs token list is s, is_close, h)
goes_on classes (bracket.OfOther ∷ brackets) token tokens is (subs, list, close, more, all, s, is_close, h) = (subs, token ∷ list, close, more, ap (λ (x : List PlainToken). token ∷ x) all, more_of classes subs token list is s, is_close, h)
goes_on classes (bracket.Axis ∷ brackets) token tokens is h = absurd h

closed_after : (classes : List Class) (brackets : List OpenBracket) (o : Operand) (tokens : List PlainToken) → ClosedBy classes brackets tokens → After (ClosedBy classes brackets) classes o tokens
closed_after classes brackets o tokens h = ([], tokens, refl, nothing_extends classes o, h)

-- a token behind an operand, but for ← [ and :
common_fits : (classes : List Class) (brackets : List OpenBracket) (o : Operand) (token : PlainToken) (tokens : List PlainToken) (s : Symbol) → Is classes s token → FitsBy classes brackets tokens (go_on operand.Other (first_of brackets) s)
    → (s ≡ symbol.LeftBracket → Is classes symbol.LeftBracket token → FitsBy classes brackets tokens (go_on operand.Other (first_of brackets) symbol.LeftBracket) → After (ClosedBy classes brackets) classes o (token ∷ tokens))
    → After (ClosedBy classes brackets) classes o (token ∷ tokens)
common_fits classes brackets o token tokens (symbol.Scalar m (Some d)) is h lists = product_after classes brackets o token tokens m d is h
common_fits classes brackets o token tokens (symbol.Slash f) is h lists = slash_after classes brackets o token tokens f is h
common_fits classes brackets o token tokens (symbol.Function m (Some f)) is h lists = function_after classes brackets o token tokens m f is (by_axis classes brackets tokens (takes_axis f) h)
common_fits classes brackets o token tokens symbol.Jot is h lists = jot_after classes brackets o token tokens is h
common_fits classes brackets o token tokens symbol.LeftBracket is h lists = lists refl is h
common_fits classes brackets o token tokens symbol.RightParenthesis is h lists = closed_after classes brackets o (token ∷ tokens) (closes_parenthesis classes brackets token tokens is h)
common_fits classes brackets o token tokens symbol.RightBracket is h lists = closed_after classes brackets o (token ∷ tokens) (closes_bracket classes brackets token tokens is h)
common_fits classes brackets o token tokens symbol.Semicolon is h lists = closed_after classes brackets o (token ∷ tokens) (goes_on classes brackets token tokens is h)
common_fits classes brackets o token tokens s is h lists = absurd h

pub other_fits : (classes : List Class) (brackets : List OpenBracket) (token : PlainToken) (tokens : List PlainToken) (s : Symbol) → Is classes s token → FitsBy classes brackets tokens (go_on operand.Other (first_of brackets) s)
    → After (ClosedBy classes brackets) classes operand.Other (token ∷ tokens)
other_fits classes brackets token tokens s is h =
    common_fits classes brackets operand.Other token tokens s is h
    (λ _ left k. list_after (ClosedBy classes brackets) classes operand.Other operand.Other token tokens (λ right subs list tail r a x. indexed_extends classes operand.Other token right subs list tail left r a x) k)

pub target_fits : (classes : List Class) (brackets : List OpenBracket) (token : PlainToken) (tokens : List PlainToken) (s : Symbol) → Is classes s token → FitsBy classes brackets tokens (go_on operand.Target (first_of brackets) s)
    → After (ClosedBy classes brackets) classes operand.Target (token ∷ tokens)
target_fits classes brackets token tokens symbol.LeftArrow is h = assign_at_after (ClosedBy classes brackets) classes token tokens is h
target_fits classes brackets token tokens s is h =
    common_fits classes brackets operand.Target token tokens s is h
    (λ _ left k. list_after (ClosedBy classes brackets) classes operand.Target operand.Other token tokens (λ right subs list tail r a x. indexed_extends classes operand.Target token right subs list tail left r a x) k)

pub name_fits : (classes : List Class) (brackets : List OpenBracket) (token : PlainToken) (tokens : List PlainToken) (s : Symbol) → Is classes s token → FitsBy classes brackets tokens (go_on operand.Name (first_of brackets) s)
    → After (ClosedBy classes brackets) classes operand.Name (token ∷ tokens)
name_fits classes brackets token tokens symbol.LeftArrow is h = assign_after (ClosedBy classes brackets) classes token tokens is h
name_fits classes brackets token tokens symbol.LeftBracket is h =
    list_after (ClosedBy classes brackets) classes operand.Name operand.Target token tokens (λ right subs list tail r a x. target_extends classes token right subs list tail is r a x) h
name_fits classes brackets token tokens s is h = common_fits classes brackets operand.Name token tokens s is h (λ same left k. absurd cc)

-- a name at the front of a line
pub first_fits : (classes : List Class) (brackets : List OpenBracket) (token : PlainToken) (tokens : List PlainToken) (s : Symbol) → Is classes s token → FitsBy classes brackets tokens (go_on operand.First (first_of brackets) s)
    → FirstHere classes brackets (token ∷ tokens)
first_fits classes (b ∷ brackets) token tokens s is h = tt
first_fits classes [] token tokens symbol.Colon is (statement, h) = inr (token, tokens, statement, refl, is, h)
first_fits classes [] token tokens s is h = inl (name_fits classes [] token tokens s is h)
