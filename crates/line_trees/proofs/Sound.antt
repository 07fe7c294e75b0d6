-- What the marks accept is a line of the grammar.
use Rattle.std.proofs.Common.{◌≡◌, ℕ, Bool, true, false, cond, List, [], ◌∷◌, ◌++◌, Option, Some, None, Ok, Err, refl, sym, ap, subst, ◌∙◌, ◌⊎◌, inl, inr, append_assoc}
use Rattle.std.proofs.lemmas.Bool.{false≢true}
use Rattle.std.proofs.lemmas.List.{append-nil}
use Rattle.apl_verbs.specs.declared.verb.Monad.{Monad}
use Rattle.apl_verbs.specs.declared.verb.Dyad.{Dyad}
use Rattle.line_scanner.specs.Token.{PlainToken}
use Rattle.line_trees.specs.declared.class.Class.{Class}
use Rattle.line_trees.specs.declared.tree.Mark.{Mark}
use Rattle.line_trees.specs.declared.symbol.Symbol.{Symbol}
use Rattle.line_trees.specs.declared.symbol.Symbol.TheVariants as symbol
use Rattle.line_trees.specs.declared.machine.Before.TheVariants as before
use Rattle.line_trees.specs.declared.machine.Operand.{Operand}
use Rattle.line_trees.specs.declared.machine.Operand.TheVariants as operand
use Rattle.line_trees.specs.declared.machine.Mode.{Mode}
use Rattle.line_trees.specs.declared.machine.Mode.TheVariants.{Begins, Ends, Jot, Factor}
use Rattle.line_trees.specs.declared.machine.OpenBracket.{OpenBracket}
use Rattle.line_trees.specs.declared.machine.OpenBracket.TheVariants as bracket
use Rattle.line_trees.specs.declared.machine.Move.{Move}
use Rattle.apl_arrays.specs.List.{first_of}
use Rattle.line_trees.specs.Symbols.{symbol_of}
use Rattle.line_trees.specs.Marks.{Marked, marks_from, marked_by, with_mark, step, may_end, open_after, begin_statement, begin_line, begin_subscript, begin_axis, begin_product, begin_lead, jot_dot, factor, none_open}
use Rattle.line_trees.specs.Trees.{Expr, Subscripts, no_more, omitted, given, Statement, nothing, branch, whole, execute, LineTree}
use Rattle.line_trees.specs.Grammar.{Is, IsExpr, AreSubscripts, AreMore, IsStatement, IsLine}
use Rattle.line_trees.proofs.Fits.{After, Here, Along, ClosedBy, ListHere, SubscriptsHere, Factored, Dotted, Led, StatementHere, LineHere, FirstHere, Fits, FitsBy}
use Rattle.line_trees.proofs.BeginFits.{begin_fits}
use Rattle.line_trees.proofs.OperandFits.{nothing_extends, more_of, other_fits, target_fits, name_fits, first_fits}

begin_subscripts : (classes : List Class) (brackets : List OpenBracket) (o : Operand) (tokens : List PlainToken)
    → Here (λ rest. (subs : Subscripts) × (list : List PlainToken) × (close : PlainToken) × (more : List PlainToken) × (rest ≡ list ++ close ∷ more) × AreMore classes subs list × Is classes symbol.RightBracket close × After (ClosedBy classes brackets) classes o more) classes tokens
    → ListHere classes brackets o tokens
begin_subscripts classes brackets o tokens (e, text, rest, all, h, (subs, list, close, more, behind, m, is_close, next)) =
    (given e subs, text ++ list, close, more, all ∙ ap (λ (x : List PlainToken). text ++ x) behind ∙ sym (append_assoc text list (close ∷ more)), (text, list, refl, h, m), is_close, next)

omits_first : (classes : List Class) (subs : Subscripts) (semicolon : PlainToken) (list : List PlainToken) → Is classes symbol.Semicolon semicolon → AreSubscripts classes subs list → AreSubscripts classes (omitted subs) (semicolon ∷ list)
omits_first classes subs semicolon list is h = more_of classes subs semicolon list is h

name_subscript : (classes : List Class) (brackets : List OpenBracket) (token : PlainToken) (tokens : List PlainToken) (s : Symbol) → Is classes s token → FitsBy classes (bracket.OfName ∷ brackets) tokens (begin_subscript (Some bracket.OfName) s)
    → ListHere classes brackets operand.Target (token ∷ tokens)
name_subscript classes brackets token tokens symbol.Semicolon is (subs, list, close, more, all, s, is_close, h) =
    (omitted subs, token ∷ list, close, more, ap (λ (x : List PlainToken). token ∷ x) all, omits_first classes subs token list is s, is_close, h)
name_subscript classes brackets token tokens symbol.RightBracket is h = (omitted no_more, [], token, tokens, refl, refl, is, h)
name_subscript classes brackets token tokens s is h = begin_subscripts classes brackets operand.Target (token ∷ tokens) (begin_fits classes (bracket.OfName ∷ brackets) token tokens s is h)

other_subscript : (classes : List Class) (brackets : List OpenBracket) (token : PlainToken) (tokens : List PlainToken) (s : Symbol) → Is classes s token → FitsBy classes (bracket.OfOther ∷ brackets) tokens (begin_subscript (Some bracket.OfOther) s)
    → ListHere classes brackets operand.Other (token ∷ tokens)
other_subscript classes brackets token tokens symbol.Semicolon is (subs, list, close, more, all, s, is_close, h) =
    (omitted subs, token ∷ list, close, more, ap (λ (x : List PlainToken). token ∷ x) all, omits_first classes subs token list is s, is_close, h)
other_subscript classes brackets token tokens symbol.RightBracket is h = (omitted no_more, [], token, tokens, refl, refl, is, h)
other_subscript classes brackets token tokens s is h = begin_subscripts classes brackets operand.Other (token ∷ tokens) (begin_fits classes (bracket.OfOther ∷ brackets) token tokens s is h)

subscript_fits : (classes : List Class) (brackets : List OpenBracket) (token : PlainToken) (tokens : List PlainToken) (s : Symbol) → Is classes s token → FitsBy classes brackets tokens (begin_subscript (first_of brackets) s) → SubscriptsHere classes brackets (token ∷ tokens)
subscript_fits classes [] token tokens s is h = tt
subscript_fits classes (bracket.Parenthesis ∷ brackets) token tokens s is h = tt
subscript_fits classes (bracket.OfName ∷ brackets) token tokens s is h = name_subscript classes brackets token tokens s is h
subscript_fits classes (bracket.OfOther ∷ brackets) token tokens s is h = other_subscript classes brackets token tokens s is h
subscript_fits classes (bracket.Axis ∷ brackets) token tokens s is h = tt

-- a whole expression
whole_of : (classes : List Class) (tokens : List PlainToken) → Here (ClosedBy classes []) classes tokens → (e : Expr) × IsExpr classes e tokens
whole_of classes tokens (e, text, rest, all, h, none) = (e, subst (λ (x : List PlainToken). IsExpr classes e x) (sym (all ∙ ap (λ (x : List PlainToken). text ++ x) none ∙ append-nil text)) h)

plain_statement : (classes : List Class) (tokens : List PlainToken) → Here (ClosedBy classes []) classes tokens → (s : Statement) × IsStatement classes s tokens
plain_statement classes tokens h = let (e, k) = whole_of classes tokens h in (whole e, k)

begin_statement_fits : (classes : List Class) (token : PlainToken) (tokens : List PlainToken) (s : Symbol) → Is classes s token → FitsBy classes [] tokens (begin_statement s) → (s : Statement) × IsStatement classes s (token ∷ tokens)
begin_statement_fits classes token tokens symbol.RightArrow is h = let (e, k) = whole_of classes tokens h in (branch e, (token, tokens, refl, is, k))
begin_statement_fits classes token tokens symbol.Execute is h = let (e, k) = whole_of classes tokens h in (execute e, (token, tokens, refl, is, k))
begin_statement_fits classes token tokens s is h = plain_statement classes (token ∷ tokens) (begin_fits classes [] token tokens s is h)

statement_fits : (classes : List Class) (brackets : List OpenBracket) (token : PlainToken) (tokens : List PlainToken) (s : Symbol) → Is classes s token → FitsBy classes brackets tokens (begin_statement s) → StatementHere classes brackets (token ∷ tokens)
statement_fits classes [] token tokens s is h = begin_statement_fits classes token tokens s is h
statement_fits classes (b ∷ brackets) token tokens s is h = tt

as_line : (classes : List Class) (tokens : List PlainToken) → (s : Statement) × IsStatement classes s tokens → (line : LineTree) × IsLine classes line tokens
as_line classes tokens (s, h) = (record { label = None; statement = s }, h)

first_line : (classes : List Class) (token : PlainToken) (tokens : List PlainToken) (n : List ℕ) → Is classes (symbol.Value n) token → FirstHere classes [] tokens → (line : LineTree) × IsLine classes line (token ∷ tokens)
first_line classes token tokens n is (inl h) = as_line classes (token ∷ tokens) (plain_statement classes (token ∷ tokens) (begin_fits classes [] token tokens (symbol.Value n) is h))
first_line classes token tokens n is (inr (colon, rest, s, all, is_colon, h)) = (record { label = Some n; statement = s }, (token, colon, rest, ap (λ (x : List PlainToken). token ∷ x) all, is, is_colon, h))

line_fits : (classes : List Class) (brackets : List OpenBracket) (token : PlainToken) (tokens : List PlainToken) (s : Symbol) → Is classes s token → FitsBy classes brackets tokens (begin_line s) → LineHere classes brackets (token ∷ tokens)
line_fits classes (b ∷ brackets) token tokens s is h = tt
line_fits classes [] token tokens (symbol.Value n) is h = first_line classes token tokens n is h
line_fits classes [] token tokens s is h = as_line classes (token ∷ tokens) (begin_statement_fits classes token tokens s is h)

-- ---- where else an expression begins

axis_fits : (classes : List Class) (brackets : List OpenBracket) (token : PlainToken) (tokens : List PlainToken) (s : Symbol) → Is classes s token → FitsBy classes brackets tokens (begin_axis s)
    → Here (ClosedBy classes brackets) classes (token ∷ tokens) ⊎ Along (ClosedBy classes brackets) classes (token ∷ tokens)
axis_fits classes brackets token tokens symbol.LeftBracket is (axis, inside, others, all, k, (close, right, text, more, behind, is_close, h, closed)) =
    inr (
      axis,
      right,
      inside,
      token ∷ (inside ++ close ∷ []),
      text,
      more,
      ap (λ (x : List PlainToken). token ∷ x) (all ∙ ap (λ (x : List PlainToken). inside ++ x) behind ∙ sym (append_assoc inside (close ∷ []) (text ++ more))),
      record { left = token; right = close; is_left = is; is_right = is_close; enclosed = refl },
      k,
      h,
      closed,
    )
axis_fits classes brackets token tokens s is h = inl (begin_fits classes brackets token tokens s is h)

product_fits : (classes : List Class) (brackets : List OpenBracket) (token : PlainToken) (tokens : List PlainToken) (s : Symbol) → Is classes s token → FitsBy classes brackets tokens (begin_product s)
    → Here (ClosedBy classes brackets) classes (token ∷ tokens) ⊎ Dotted classes brackets (token ∷ tokens)
product_fits classes brackets token tokens symbol.Dot is h = inr (token, tokens, refl, is, h)
product_fits classes brackets token tokens s is h = inl (begin_fits classes brackets token tokens s is h)

lead_fits : (classes : List Class) (brackets : List OpenBracket) (m : Option Monad) (d : Option Dyad) (token : PlainToken) (tokens : List PlainToken) (s : Symbol) → Is classes s token → FitsBy classes brackets tokens (begin_lead m d s) → Led classes brackets m d (token ∷ tokens)
lead_fits classes brackets m (Some g) token tokens (symbol.Slash f) is h = inr (token, tokens, f, g, refl, is, refl, h)
lead_fits classes brackets m None token tokens (symbol.Slash f) is h = absurd h
lead_fits classes brackets (Some k) d token tokens s is h = inl (k, refl, begin_fits classes brackets token tokens s is h)
lead_fits classes brackets None d token tokens s is h = absurd h

dot_fits : (classes : List Class) (brackets : List OpenBracket) (token : PlainToken) (tokens : List PlainToken) (s : Symbol) → Is classes s token → FitsBy classes brackets tokens (jot_dot s) → Dotted classes brackets (token ∷ tokens)
dot_fits classes brackets token tokens symbol.Dot is h = (token, tokens, refl, is, h)
dot_fits classes brackets token tokens s is h = absurd h

factor_fits : (classes : List Class) (brackets : List OpenBracket) (token : PlainToken) (tokens : List PlainToken) (s : Symbol) → Is classes s token → FitsBy classes brackets tokens (factor s) → Factored classes brackets (token ∷ tokens)
factor_fits classes brackets token tokens (symbol.Scalar n (Some g)) is h = (token, tokens, n, g, refl, is, h)
factor_fits classes brackets token tokens s is h = absurd h

-- ---- all of them

-- a token that is passed before tokens that fit
step_fits : (classes : List Class) (mode : Mode) (brackets : List OpenBracket) (token : PlainToken) (tokens : List PlainToken) (s : Symbol) → Is classes s token → FitsBy classes brackets tokens (step mode (first_of brackets) s) → Fits classes mode brackets (token ∷ tokens)
unfolding step
step_fits classes (Begins before.Line) brackets token tokens s is h = line_fits classes brackets token tokens s is h
step_fits classes (Begins before.Statement) brackets token tokens s is h = statement_fits classes brackets token tokens s is h
step_fits classes (Begins before.Plain) brackets token tokens s is h = begin_fits classes brackets token tokens s is h
step_fits classes (Begins before.Subscript) brackets token tokens s is h = subscript_fits classes brackets token tokens s is h
step_fits classes (Begins before.Axis) brackets token tokens s is h = axis_fits classes brackets token tokens s is h
step_fits classes (Begins before.Product) brackets token tokens s is h = product_fits classes brackets token tokens s is h
step_fits classes (Begins (before.Lead m d)) brackets token tokens s is h = lead_fits classes brackets m d token tokens s is h
step_fits classes (Ends operand.First) brackets token tokens s is h = first_fits classes brackets token tokens s is h
step_fits classes (Ends operand.Name) brackets token tokens s is h = name_fits classes brackets token tokens s is h
step_fits classes (Ends operand.Target) brackets token tokens s is h = target_fits classes brackets token tokens s is h
step_fits classes (Ends operand.Other) brackets token tokens s is h = other_fits classes brackets token tokens s is h
step_fits classes Jot brackets token tokens s is h = dot_fits classes brackets token tokens s is h
step_fits classes Factor brackets token tokens s is h = factor_fits classes brackets token tokens s is h

-- nothing closes nothing
ends_open : (classes : List Class) (o : Operand) (brackets : List OpenBracket) → none_open (first_of brackets) ≡ true → After (ClosedBy classes brackets) classes o []
ends_open classes o [] e = ([], [], refl, nothing_extends classes o, refl)
ends_open classes o (b ∷ brackets) e = absurd (false≢true e)

end_fits : (classes : List Class) (mode : Mode) (brackets : List OpenBracket) → may_end mode (first_of brackets) ≡ true → Fits classes mode brackets []
unfolding may_end
end_fits classes (Begins before.Line) [] e = (record { label = None; statement = nothing }, refl)
end_fits classes (Begins before.Line) (b ∷ brackets) e = tt
end_fits classes (Begins before.Statement) [] e = (nothing, refl)
end_fits classes (Begins before.Statement) (b ∷ brackets) e = tt
end_fits classes (Begins before.Plain) brackets e = absurd (false≢true e)
end_fits classes (Begins before.Subscript) brackets e = absurd (false≢true e)
end_fits classes (Begins before.Axis) brackets e = absurd (false≢true e)
end_fits classes (Begins before.Product) brackets e = absurd (false≢true e)
end_fits classes (Begins (before.Lead m d)) brackets e = absurd (false≢true e)
end_fits classes (Ends operand.First) [] e = inl (ends_open classes operand.Name [] e)
end_fits classes (Ends operand.First) (b ∷ brackets) e = tt
end_fits classes (Ends operand.Name) brackets e = ends_open classes operand.Name brackets e
end_fits classes (Ends operand.Target) brackets e = ends_open classes operand.Target brackets e
end_fits classes (Ends operand.Other) brackets e = ends_open classes operand.Other brackets e
end_fits classes Jot brackets e = absurd (false≢true e)
end_fits classes Factor brackets e = absurd (false≢true e)

end_by : (classes : List Class) (len : ℕ) (mode : Mode) (brackets : List OpenBracket) (b : Bool) (marks : List Mark) → may_end mode (first_of brackets) ≡ b → cond b (Ok []) (Err len) ≡ Ok marks → Fits classes mode brackets []
end_by classes len mode brackets true marks ends e = end_fits classes mode brackets ends
end_by classes len mode brackets false marks ends e = absurd cc

marked_rest : (m : Mark) (marked : Marked) (marks : List Mark) → with_mark m marked ≡ Ok marks → (rest : List Mark) × (marked ≡ Ok rest)
marked_rest m (Ok rest) marks e = (rest, refl)
marked_rest m (Err at) marks e = absurd cc

fits_by : (classes : List Class) (len : ℕ) (brackets : List OpenBracket) (token : PlainToken) (tokens : List PlainToken) (move : Option Move) (marks : List Mark)
    → marked_by move token.at (λ mode change. marks_from classes len mode (open_after change brackets) tokens) ≡ Ok marks
    → ((mode : Mode) (more : List OpenBracket) (rest : List Mark) → marks_from classes len mode more tokens ≡ Ok rest → Fits classes mode more tokens) → FitsBy classes brackets tokens move
fits_by classes len brackets token tokens None marks e h = absurd cc
fits_by classes len brackets token tokens (Some move) marks e h =
    let (rest, f) = marked_rest move.mark (marks_from classes len move.mode (open_after move.change brackets) tokens) marks e in
    h move.mode (open_after move.change brackets) rest f

-- tokens that have marks fit
marks_fit : (classes : List Class) (len : ℕ) (mode : Mode) (brackets : List OpenBracket) (tokens : List PlainToken) (marks : List Mark) → marks_from classes len mode brackets tokens ≡ Ok marks → Fits classes mode brackets tokens
unfolding marks_from
marks_fit classes len mode brackets [] marks e = end_by classes len mode brackets (may_end mode (first_of brackets)) marks refl e
marks_fit classes len mode brackets (token ∷ tokens) marks e =
    step_fits classes mode brackets token tokens (symbol_of classes token.kind) refl
    (fits_by classes len brackets token tokens (step mode (first_of brackets) (symbol_of classes token.kind)) marks e (λ next more rest f. marks_fit classes len next more tokens rest f))

-- tokens that have marks are a line of the grammar
pub marked_line : (classes : List Class) (len : ℕ) (tokens : List PlainToken) (marks : List Mark) → marks_from classes len (Begins before.Line) [] tokens ≡ Ok marks → (line : LineTree) × IsLine classes line tokens
marked_line classes len tokens marks e = marks_fit classes len (Begins before.Line) [] tokens marks e
