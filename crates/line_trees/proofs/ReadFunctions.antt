-- The tokens of functions are read as their nodes, where those of their arguments are.
use Rattle.std.proofs.Common.{◌≡◌, ℕ, Bool, true, false, cond, List, [], ◌∷◌, ◌++◌, Option, Some, None, Ok, length, refl, sym, ap, subst, ◌∙◌, append_assoc}
use Rattle.std.proofs.lemmas.Bool.{false≢true}
use Rattle.apl_verbs.specs.declared.verb.Monad.{Monad}
use Rattle.apl_verbs.specs.declared.verb.Dyad.{Dyad}
use Rattle.apl_verbs.specs.declared.verb.Verb.TheVariants as verb
use Rattle.line_scanner.specs.Token.{PlainToken}
use Rattle.line_trees.specs.declared.class.Class.{Class}
use Rattle.line_trees.specs.declared.tree.Fun.{Fun}
use Rattle.line_trees.specs.declared.tree.Fun.TheVariants as fun
use Rattle.line_trees.specs.declared.tree.Mark.TheVariants as mark
use Rattle.line_trees.specs.declared.tree.Pending.{Pending}
use Rattle.line_trees.specs.declared.tree.Pending.TheVariants as pending
use Rattle.line_trees.specs.declared.symbol.Fold.{Fold}
use Rattle.line_trees.specs.declared.symbol.Symbol.TheVariants as symbol
use Rattle.line_trees.specs.declared.machine.Before.TheVariants as before
use Rattle.line_trees.specs.declared.machine.Operand.{Operand}
use Rattle.line_trees.specs.declared.machine.Mode.{Mode}
use Rattle.line_trees.specs.declared.machine.Mode.TheVariants.{Begins, Ends, Jot, Factor}
use Rattle.line_trees.specs.declared.machine.OpenBracket.{OpenBracket}
use Rattle.line_trees.specs.declared.machine.OpenBracket.TheVariants as bracket
use Rattle.line_trees.specs.declared.machine.NestingChange.TheVariants.{Open, Close}
use Rattle.apl_arrays.specs.List.{first_of}
use Rattle.line_trees.specs.Signs.{folded, between}
use Rattle.line_trees.specs.Marks.{step, takes_axis, after_function}
use Rattle.line_trees.specs.Nodes as node
use Rattle.line_trees.specs.Building.{Built, whole_expression, with_waiting, attached, built_by, lead_built, dyadic_by}
use Rattle.line_trees.specs.Trees.{Expr, monadic, monadic_along, dyadic, dyadic_along, Placed, placed}
use Rattle.line_trees.specs.Grammar.{symbols, IsMonadic, scalar_monad, operator, other_monad, IsDyadic, scalar_dyad, inner, outer, slash, other_dyad, InBrackets, IsExpr}
use Rattle.line_trees.proofs.Reading.{reads_token}
use Rattle.line_trees.proofs.Starts.{one_symbol, two_symbols, three_symbols, at_axis, at_product, at_lead, after_monadic, begins_as}
use Rattle.line_trees.proofs.Waiting.{IsClosed}
use Rattle.line_trees.proofs.ReadOperands.{ends_of, expr_on, Reads, ReadsOperand, ReadsExpr, reads_as, keeps, one_before, enclosed_before, two_before}

-- an expression of these nodes, with an axis before it
abbrev along : Built → Placed → Placed → Built
along b r k = record { label = b.label; nodes = k.0; waiting = pending.Expr (Some k.1) r.1 ∷ b.waiting; lists = b.lists }

-- an axis in brackets before an expression is read
axis_read : (classes : List Class) (len : ℕ) (axis right : Expr) (inside square text rest : List PlainToken) (brackets : List OpenBracket) (b : Built) → ReadsExpr classes len axis → ReadsExpr classes len right
    → InBrackets classes inside square → IsExpr classes axis inside → IsExpr classes right text → IsClosed b.waiting → Reads classes len (Ends (ends_of right)) brackets rest b
    → Reads classes len (Begins before.Axis) brackets (square ++ (text ++ rest)) (along b (placed b.nodes right) (placed (placed b.nodes right).0 axis))
unfolding step built_by
axis_read classes len axis right inside square text rest brackets b each beyond p k r closed next =
    let b1 : Built = expr_on right b in
    let b2 : Built = with_waiting b1 (pending.Axis ∷ b1.waiting) in
    let here : Reads classes len (Begins before.Plain) brackets (text ++ rest) b1 = beyond text rest brackets b r closed next in
    let close : Reads classes len (Ends (ends_of axis)) (bracket.Axis ∷ brackets) (p.right ∷ (text ++ rest)) b2 =
    reads_token classes len (Ends (ends_of axis)) (bracket.Axis ∷ brackets) p.right (text ++ rest) symbol.RightBracket (record { mark = mark.CloseAxis; mode = Begins before.Plain; change = Close }) b1 p.is_right refl here in
    let all = each inside (p.right ∷ (text ++ rest)) (bracket.Axis ∷ brackets) b2 k tt close in
    reads_as classes len (Begins before.Axis) brackets (square ++ (text ++ rest)) (p.left ∷ (inside ++ p.right ∷ (text ++ rest))) _ _ (enclosed_before p.left p.right inside square (text ++ rest) p.enclosed) refl
    (reads_token classes len (Begins before.Axis) brackets p.left (inside ++ p.right ∷ (text ++ rest)) symbol.LeftBracket (record { mark = mark.OpenAxis; mode = Begins before.Plain; change = Open bracket.Axis }) (expr_on axis b2) p.is_left refl all)

-- what waits behind a function: an expression, perhaps with an axis before it
abbrev argument : Built → Option ℕ → ℕ → List Pending → Built
argument b axis right waiting = record { label = b.label; nodes = b.nodes; waiting = pending.Expr axis right ∷ waiting; lists = b.lists }

-- a node that is a whole expression before others
abbrev applied : Built → node.PlainNode → List Pending → Built
applied b n waiting = record { label = b.label; nodes = b.nodes ++ n ∷ []; waiting = whole_expression (length b.nodes) ∷ waiting; lists = b.lists }

-- the operand of a slash
lead_slash : (m : Option Monad) (d : Dyad) (fold : Fold) (axis : Option ℕ) (right : ℕ) (b : Built) (waiting : List Pending)
    → lead_built m (Some d) b (Some (pending.Slash fold axis right)) waiting ≡ applied b (node.apply (fun.Verb (folded d fold)) None right axis) waiting
lead_slash None d fold axis right b waiting = refl
lead_slash (Some m) d fold axis right b waiting = refl

-- a scalar function and a slash before their argument
operator_read : (classes : List Class) (len : ℕ) (m : Option Monad) (d : Dyad) (fold : Fold) (function rest : List PlainToken) (brackets : List OpenBracket) (b : Built) (axis : Option ℕ) (right : ℕ) (waiting : List Pending)
    → symbols classes function ≡ symbol.Scalar m (Some d) ∷ symbol.Slash fold ∷ [] → Reads classes len (Begins before.Axis) brackets rest (argument b axis right waiting)
    → Reads classes len (Begins before.Plain) brackets (function ++ rest) (applied b (node.apply (fun.Verb (folded d fold)) None right axis) waiting)
unfolding step built_by
operator_read classes len m d fold function rest brackets b axis right waiting s next =
    let (one, two, both, t, u) = two_symbols classes function (symbol.Scalar m (Some d)) (symbol.Slash fold) s in
    let slashed : Reads classes len (Begins (before.Lead m (Some d))) brackets (two ∷ rest) (record { label = b.label; nodes = b.nodes; waiting = pending.Slash fold axis right ∷ waiting; lists = b.lists }) =
    reads_token classes len (Begins (before.Lead m (Some d))) brackets two rest (symbol.Slash fold) (keeps mark.Slash (Begins before.Axis)) (argument b axis right waiting) u refl next in
    reads_as classes len (Begins before.Plain) brackets (function ++ rest) (one ∷ (two ∷ rest)) _ _ (ap (λ (x : List PlainToken). x ++ rest) both) (lead_slash m d fold axis right (record { label = b.label; nodes = b.nodes; waiting = pending.Slash fold axis right ∷ waiting; lists = b.lists }) waiting)
    (reads_token classes len (Begins before.Plain) brackets one (two ∷ rest) (symbol.Scalar m (Some d)) (keeps mark.Lead (Begins (before.Lead m (Some d)))) (record { label = b.label; nodes = b.nodes; waiting = pending.Slash fold axis right ∷ waiting; lists = b.lists }) t refl slashed)

-- another monadic function before its argument
function_read : (classes : List Class) (len : ℕ) (f : Fun) (d : Option Fun) (function rest : List PlainToken) (brackets : List OpenBracket) (b : Built) (axis : Option ℕ) (right : ℕ) (waiting : List Pending)
    → symbols classes function ≡ symbol.Function (Some f) d ∷ [] → Reads classes len (after_function f) brackets rest (argument b axis right waiting)
    → Reads classes len (Begins before.Plain) brackets (function ++ rest) (applied b (node.apply f None right axis) waiting)
unfolding step built_by
function_read classes len f d function rest brackets b axis right waiting s next =
    let (token, alone, t) = one_symbol classes function (symbol.Function (Some f) d) s in
    reads_as classes len (Begins before.Plain) brackets (function ++ rest) (token ∷ rest) _ _ (one_before token function rest alone) refl
    (reads_token classes len (Begins before.Plain) brackets token rest (symbol.Function (Some f) d) (keeps mark.Monadic (after_function f)) (argument b axis right waiting) t refl next)

pub monadic_read : (classes : List Class) (len : ℕ) (f : Fun) (right : Expr) → ReadsExpr classes len right → ReadsExpr classes len (monadic f right)
unfolding step built_by
monadic_read classes len f right each text rest brackets b (function, others, all, is, r) closed next = go is
  where
    here : Reads classes len (Begins before.Plain) brackets (others ++ rest) (expr_on right b)
    here = each others rest brackets b r closed next

    regrouped : text ++ rest ≡ function ++ (others ++ rest)
    regrouped = two_before text function others rest all

    b1 : Built
    b1 = record { label = b.label; nodes = (placed b.nodes right).0; waiting = b.waiting; lists = b.lists }

    go : IsMonadic f (symbols classes function) → Reads classes len (Begins before.Plain) brackets (text ++ rest) (expr_on (monadic f right) b)
    go (scalar_monad m d e s) =
        let (token, alone, t) = one_symbol classes function (symbol.Scalar (Some m) d) s in
        let begun = begins_as classes len (Begins (before.Lead (Some m) d)) right others rest brackets (expr_on right b) r (at_lead m d (first_of brackets)) here in
        reads_as classes len (Begins before.Plain) brackets (text ++ rest) (token ∷ (others ++ rest)) _ _ (regrouped ∙ one_before token function (others ++ rest) alone) (ap (λ (x : Fun). expr_on (monadic x right) b) (sym e))
        (reads_token classes len (Begins before.Plain) brackets token (others ++ rest) (symbol.Scalar (Some m) d) (keeps mark.Lead (Begins (before.Lead (Some m) d))) (expr_on right b) t refl begun)
    go (operator m d fold e s) =
        let begun = begins_as classes len (Begins before.Axis) right others rest brackets (expr_on right b) r (at_axis (first_of brackets)) here in
        reads_as classes len (Begins before.Plain) brackets (text ++ rest) (function ++ (others ++ rest)) _ _ regrouped (ap (λ (x : Fun). expr_on (monadic x right) b) (sym e))
        (operator_read classes len m d fold function (others ++ rest) brackets b1 None (placed b.nodes right).1 b.waiting s begun)
    go (other_monad d s) =
        let begun = begins_as classes len (after_function f) right others rest brackets (expr_on right b) r (after_monadic f (first_of brackets)) here in
        reads_as classes len (Begins before.Plain) brackets (text ++ rest) (function ++ (others ++ rest)) _ _ regrouped refl
        (function_read classes len f d function (others ++ rest) brackets b1 None (placed b.nodes right).1 b.waiting s begun)

-- a function that takes an axis has one behind it
after_axis : (f : Fun) → takes_axis f ≡ true → after_function f ≡ Begins before.Axis
after_axis f e = ap (λ (x : Bool). cond x (Begins before.Axis) (Begins before.Plain)) e

pub monadic_along_read : (classes : List Class) (len : ℕ) (f : Fun) (axis right : Expr) → ReadsExpr classes len axis → ReadsExpr classes len right → ReadsExpr classes len (monadic_along f axis right)
unfolding step built_by
monadic_along_read classes len f axis right along_each each text rest brackets b (function, square, inside, others, all, is, takes, p, k, r) closed next = go is
  where
    r1 : Placed
    r1 = placed b.nodes right

    k1 : Placed
    k1 = placed r1.0 axis

    here : Reads classes len (Begins before.Axis) brackets (square ++ (others ++ rest)) (along b r1 k1)
    here = axis_read classes len axis right inside square others rest brackets b along_each each p k r closed next

    regrouped : text ++ rest ≡ function ++ (square ++ (others ++ rest))
    regrouped = two_before text function (square ++ others) rest all ∙ ap (λ (x : List PlainToken). function ++ x) (append_assoc square others rest)

    b1 : Built
    b1 = record { label = b.label; nodes = k1.0; waiting = b.waiting; lists = b.lists }

    go : IsMonadic f (symbols classes function) → Reads classes len (Begins before.Plain) brackets (text ++ rest) (expr_on (monadic_along f axis right) b)
    go (scalar_monad m d e s) = absurd (false≢true (ap takes_axis (sym e) ∙ takes))
    go (operator m d fold e s) =
        reads_as classes len (Begins before.Plain) brackets (text ++ rest) (function ++ (square ++ (others ++ rest))) _ _ regrouped (ap (λ (x : Fun). expr_on (monadic_along x axis right) b) (sym e))
        (operator_read classes len m d fold function (square ++ (others ++ rest)) brackets b1 (Some k1.1) r1.1 b.waiting s here)
    go (other_monad d s) =
        reads_as classes len (Begins before.Plain) brackets (text ++ rest) (function ++ (square ++ (others ++ rest))) _ _ regrouped refl
        (function_read classes len f d function (square ++ (others ++ rest)) brackets b1 (Some k1.1) r1.1 b.waiting s
        (subst (λ (m : Mode). Reads classes len m brackets (square ++ (others ++ rest)) (along b r1 k1)) (sym (after_axis f takes)) here))

-- a dyadic function that waits for its left operand
abbrev left_waits : Built → Fun → Option ℕ → ℕ → List Pending → Built
left_waits b f axis right waiting = record { label = b.label; nodes = b.nodes; waiting = pending.Dyadic f axis right ∷ waiting; lists = b.lists }

scalar_read : (classes : List Class) (len : ℕ) (o : Operand) (m : Option Monad) (d : Dyad) (function rest : List PlainToken) (brackets : List OpenBracket) (b : Built) (right : ℕ) (waiting : List Pending)
    → symbols classes function ≡ symbol.Scalar m (Some d) ∷ [] → Reads classes len (Begins before.Product) brackets rest (argument b None right waiting)
    → Reads classes len (Ends o) brackets (function ++ rest) (left_waits b (fun.Verb (verb.Two d)) None right waiting)
unfolding step built_by
scalar_read classes len o m d function rest brackets b right waiting s next =
    let (token, alone, t) = one_symbol classes function (symbol.Scalar m (Some d)) s in
    reads_as classes len (Ends o) brackets (function ++ rest) (token ∷ rest) _ _ (one_before token function rest alone) refl
    (reads_token classes len (Ends o) brackets token rest (symbol.Scalar m (Some d)) (keeps mark.Scalar (Begins before.Product)) (argument b None right waiting) t refl next)

inner_read : (classes : List Class) (len : ℕ) (o : Operand) (m n : Option Monad) (d e : Dyad) (function rest : List PlainToken) (brackets : List OpenBracket) (b : Built) (right : ℕ) (waiting : List Pending)
    → symbols classes function ≡ symbol.Scalar m (Some d) ∷ symbol.Dot ∷ symbol.Scalar n (Some e) ∷ [] → Reads classes len (Begins before.Plain) brackets rest (argument b None right waiting)
    → Reads classes len (Ends o) brackets (function ++ rest) (left_waits b (fun.Verb (verb.Inner d e)) None right waiting)
unfolding step built_by
inner_read classes len o m n d e function rest brackets b right waiting s next =
    let (one, two, three, all, t, u, v) = three_symbols classes function (symbol.Scalar m (Some d)) symbol.Dot (symbol.Scalar n (Some e)) s in
    let b1 : Built = record { label = b.label; nodes = b.nodes; waiting = pending.Factor e right ∷ waiting; lists = b.lists } in
    let factored : Reads classes len Factor brackets (three ∷ rest) b1 = reads_token classes len Factor brackets three rest (symbol.Scalar n (Some e)) (keeps mark.Factor (Begins before.Plain)) (argument b None right waiting) v refl next in
    let dotted : Reads classes len (Begins before.Product) brackets (two ∷ three ∷ rest) b1 = reads_token classes len (Begins before.Product) brackets two (three ∷ rest) symbol.Dot (keeps mark.Dot Factor) b1 u refl factored in
    reads_as classes len (Ends o) brackets (function ++ rest) (one ∷ (two ∷ three ∷ rest)) _ _ (ap (λ (x : List PlainToken). x ++ rest) all) refl
    (reads_token classes len (Ends o) brackets one (two ∷ three ∷ rest) (symbol.Scalar m (Some d)) (keeps mark.Scalar (Begins before.Product)) b1 t refl dotted)

outer_read : (classes : List Class) (len : ℕ) (o : Operand) (n : Option Monad) (e : Dyad) (function rest : List PlainToken) (brackets : List OpenBracket) (b : Built) (right : ℕ) (waiting : List Pending)
    → symbols classes function ≡ symbol.Jot ∷ symbol.Dot ∷ symbol.Scalar n (Some e) ∷ [] → Reads classes len (Begins before.Plain) brackets rest (argument b None right waiting)
    → Reads classes len (Ends o) brackets (function ++ rest) (left_waits b (fun.Verb (verb.Outer e)) None right waiting)
unfolding step built_by
outer_read classes len o n e function rest brackets b right waiting s next =
    let (one, two, three, all, t, u, v) = three_symbols classes function symbol.Jot symbol.Dot (symbol.Scalar n (Some e)) s in
    let b1 : Built = record { label = b.label; nodes = b.nodes; waiting = pending.Factor e right ∷ waiting; lists = b.lists } in
    let factored : Reads classes len Factor brackets (three ∷ rest) b1 = reads_token classes len Factor brackets three rest (symbol.Scalar n (Some e)) (keeps mark.Factor (Begins before.Plain)) (argument b None right waiting) v refl next in
    let dotted : Reads classes len Jot brackets (two ∷ three ∷ rest) b1 = reads_token classes len Jot brackets two (three ∷ rest) symbol.Dot (keeps mark.Dot Factor) b1 u refl factored in
    reads_as classes len (Ends o) brackets (function ++ rest) (one ∷ (two ∷ three ∷ rest)) _ _ (ap (λ (x : List PlainToken). x ++ rest) all) refl
    (reads_token classes len (Ends o) brackets one (two ∷ three ∷ rest) symbol.Jot (keeps mark.Jot Jot) b1 t refl dotted)

slash_read : (classes : List Class) (len : ℕ) (o : Operand) (fold : Fold) (function rest : List PlainToken) (brackets : List OpenBracket) (b : Built) (axis : Option ℕ) (right : ℕ) (waiting : List Pending)
    → symbols classes function ≡ symbol.Slash fold ∷ [] → Reads classes len (Begins before.Axis) brackets rest (argument b axis right waiting)
    → Reads classes len (Ends o) brackets (function ++ rest) (left_waits b (fun.Verb (between fold)) axis right waiting)
unfolding step built_by
slash_read classes len o fold function rest brackets b axis right waiting s next =
    let (token, alone, t) = one_symbol classes function (symbol.Slash fold) s in
    reads_as classes len (Ends o) brackets (function ++ rest) (token ∷ rest) _ _ (one_before token function rest alone) refl
    (reads_token classes len (Ends o) brackets token rest (symbol.Slash fold) (keeps mark.Dyadic (Begins before.Axis)) (argument b axis right waiting) t refl next)

-- what a dyadic function of a symbol makes of its argument
dyadic_made : (m : Option Fun) (f : Fun) (b : Built) (axis : Option ℕ) (right : ℕ) (waiting : List Pending) → dyadic_by (symbol.Function m (Some f)) (argument b axis right waiting) ≡ left_waits b f axis right waiting
dyadic_made None f b axis right waiting = refl
dyadic_made (Some g) f b axis right waiting = refl

other_read : (classes : List Class) (len : ℕ) (o : Operand) (m : Option Fun) (f : Fun) (function rest : List PlainToken) (brackets : List OpenBracket) (b : Built) (axis : Option ℕ) (right : ℕ) (waiting : List Pending)
    → symbols classes function ≡ symbol.Function m (Some f) ∷ [] → Reads classes len (after_function f) brackets rest (argument b axis right waiting)
    → Reads classes len (Ends o) brackets (function ++ rest) (left_waits b f axis right waiting)
unfolding step built_by
other_read classes len o m f function rest brackets b axis right waiting s next =
    let (token, alone, t) = one_symbol classes function (symbol.Function m (Some f)) s in
    reads_as classes len (Ends o) brackets (function ++ rest) (token ∷ rest) _ _ (one_before token function rest alone) (dyadic_made m f b axis right waiting)
    (reads_token classes len (Ends o) brackets token rest (symbol.Function m (Some f)) (keeps mark.Dyadic (after_function f)) (argument b axis right waiting) t refl next)

-- the function, the argument and what waits for them are these
waits_for : (classes : List Class) (len : ℕ) (mode : Mode) (brackets : List OpenBracket) (tokens : List PlainToken) (b : Built) (f g : Fun) (axis : Option ℕ) (right : ℕ) (waiting : List Pending) → f ≡ g
    → Reads classes len mode brackets tokens (left_waits b g axis right waiting) → Reads classes len mode brackets tokens (left_waits b f axis right waiting)
waits_for classes len mode brackets tokens b f g axis right waiting e h = h ∙ ap (λ (x : Fun). Ok (left_waits b x axis right waiting)) (sym e)

pub dyadic_read : (classes : List Class) (len : ℕ) (f : Fun) (left right : Expr) → ReadsOperand classes len left → ReadsExpr classes len right → ReadsExpr classes len (dyadic f left right)
unfolding attached
dyadic_read classes len f left right operand_each each text rest brackets b (front, function, others, all, is_operand, l, d, r) closed next =
    reads_as classes len (Begins before.Plain) brackets (text ++ rest) (front ++ (function ++ (others ++ rest))) _ _
    (two_before text front (function ++ others) rest all ∙ ap (λ (x : List PlainToken). front ++ x) (append_assoc function others rest)) refl
    (operand_each front (function ++ (others ++ rest)) brackets (left_waits b1 f None r1.1 b.waiting) l tt (go d))
  where
    r1 : Placed
    r1 = placed b.nodes right

    b1 : Built
    b1 = record { label = b.label; nodes = r1.0; waiting = b.waiting; lists = b.lists }

    here : Reads classes len (Begins before.Plain) brackets (others ++ rest) (argument b1 None r1.1 b.waiting)
    here = each others rest brackets b r closed next

    go : IsDyadic f (symbols classes function) → Reads classes len (Ends (ends_of left)) brackets (function ++ (others ++ rest)) (left_waits b1 f None r1.1 b.waiting)
    go (scalar_dyad m d e s) =
        waits_for classes len (Ends (ends_of left)) brackets (function ++ (others ++ rest)) b1 f (fun.Verb (verb.Two d)) None r1.1 b.waiting e
        (scalar_read classes len (ends_of left) m d function (others ++ rest) brackets b1 r1.1 b.waiting s (begins_as classes len (Begins before.Product) right others rest brackets (argument b1 None r1.1 b.waiting) r (at_product (first_of brackets)) here))
    go (inner m n d g e s) =
        waits_for classes len (Ends (ends_of left)) brackets (function ++ (others ++ rest)) b1 f (fun.Verb (verb.Inner d g)) None r1.1 b.waiting e
        (inner_read classes len (ends_of left) m n d g function (others ++ rest) brackets b1 r1.1 b.waiting s here)
    go (outer n g e s) =
        waits_for classes len (Ends (ends_of left)) brackets (function ++ (others ++ rest)) b1 f (fun.Verb (verb.Outer g)) None r1.1 b.waiting e
        (outer_read classes len (ends_of left) n g function (others ++ rest) brackets b1 r1.1 b.waiting s here)
    go (slash fold e s) =
        waits_for classes len (Ends (ends_of left)) brackets (function ++ (others ++ rest)) b1 f (fun.Verb (between fold)) None r1.1 b.waiting e
        (slash_read classes len (ends_of left) fold function (others ++ rest) brackets b1 None r1.1 b.waiting s (begins_as classes len (Begins before.Axis) right others rest brackets (argument b1 None r1.1 b.waiting) r (at_axis (first_of brackets)) here))
    go (other_dyad m s) =
        other_read classes len (ends_of left) m f function (others ++ rest) brackets b1 None r1.1 b.waiting s (begins_as classes len (after_function f) right others rest brackets (argument b1 None r1.1 b.waiting) r (after_monadic f (first_of brackets)) here)

pub dyadic_along_read : (classes : List Class) (len : ℕ) (f : Fun) (left axis right : Expr) → ReadsOperand classes len left → ReadsExpr classes len axis → ReadsExpr classes len right → ReadsExpr classes len (dyadic_along f left axis right)
unfolding attached
dyadic_along_read classes len f left axis right operand_each along_each each text rest brackets b (front, function, square, inside, others, all, is_operand, l, d, takes, p, k, r) closed next =
    reads_as classes len (Begins before.Plain) brackets (text ++ rest) (front ++ (function ++ (square ++ (others ++ rest)))) _ _
    (two_before text front (function ++ (square ++ others)) rest all ∙ ap (λ (x : List PlainToken). front ++ x) (append_assoc function (square ++ others) rest ∙ ap (λ (x : List PlainToken). function ++ x) (append_assoc square others rest))) refl
    (operand_each front (function ++ (square ++ (others ++ rest))) brackets (left_waits b1 f (Some k1.1) r1.1 b.waiting) l tt (go d))
  where
    r1 : Placed
    r1 = placed b.nodes right

    k1 : Placed
    k1 = placed r1.0 axis

    b1 : Built
    b1 = record { label = b.label; nodes = k1.0; waiting = b.waiting; lists = b.lists }

    here : Reads classes len (Begins before.Axis) brackets (square ++ (others ++ rest)) (argument b1 (Some k1.1) r1.1 b.waiting)
    here = axis_read classes len axis right inside square others rest brackets b along_each each p k r closed next

    no_axis : (g : Fun) → f ≡ g → takes_axis g ≡ false → ⊥
    no_axis g e h = false≢true (sym h ∙ ap takes_axis (sym e) ∙ takes)

    go : IsDyadic f (symbols classes function) → Reads classes len (Ends (ends_of left)) brackets (function ++ (square ++ (others ++ rest))) (left_waits b1 f (Some k1.1) r1.1 b.waiting)
    go (scalar_dyad m d e s) = absurd (no_axis (fun.Verb (verb.Two d)) e refl)
    go (inner m n d g e s) = absurd (no_axis (fun.Verb (verb.Inner d g)) e refl)
    go (outer n g e s) = absurd (no_axis (fun.Verb (verb.Outer g)) e refl)
    go (slash fold e s) =
        waits_for classes len (Ends (ends_of left)) brackets (function ++ (square ++ (others ++ rest))) b1 f (fun.Verb (between fold)) (Some k1.1) r1.1 b.waiting e
        (slash_read classes len (ends_of left) fold function (square ++ (others ++ rest)) brackets b1 (Some k1.1) r1.1 b.waiting s here)
    go (other_dyad m s) =
        other_read classes len (ends_of left) m f function (square ++ (others ++ rest)) brackets b1 (Some k1.1) r1.1 b.waiting s
        (subst (λ (m : Mode). Reads classes len m brackets (square ++ (others ++ rest)) (argument b1 (Some k1.1) r1.1 b.waiting)) (sym (after_axis f takes)) here)
