-- Each state of the marks can be brought to the end of a line.
use Rattle.std.proofs.Common.{◌≡◌, ℕ, Bool, true, false, cond, List, [], ◌∷◌, Option, Some, None, Ok, refl, ap, ◌∙◌, ◌||◌}
use Rattle.std.specs.Prelude.{◌==◌, pos, is_some, option_map}
use Rattle.std.proofs.lemmas.Bool.{false≢true}
use Rattle.apl_arrays.specs.Glyph as glyph
use Rattle.apl_verbs.specs.declared.verb.Monad.{Monad}
use Rattle.apl_verbs.specs.declared.verb.Monad.TheVariants as monad
use Rattle.apl_verbs.specs.declared.verb.Dyad.{Dyad}
use Rattle.apl_verbs.specs.declared.verb.Dyad.TheVariants as dyad
use Rattle.apl_arrays.specs.declared.way.Way.TheVariants.{Last}
use Rattle.apl_arrays.specs.declared.system.SystemName.TheVariants.{Svo, Svc, Svr, Svq, Svs}
use Rattle.line_scanner.specs.Token.{PlainKind, numbers, chars, name, system, sign, PlainToken}
use Rattle.line_trees.specs.declared.class.Class.{Class}
use Rattle.apl_verbs.specs.declared.verb.Verb.TheVariants as verb
use Rattle.line_trees.specs.declared.tree.Fun.{Fun}
use Rattle.line_trees.specs.declared.tree.Fun.TheVariants as fun
use Rattle.line_trees.specs.declared.tree.Mark.{Mark}
use Rattle.line_trees.specs.declared.symbol.Fold.{Fold}
use Rattle.line_trees.specs.declared.symbol.Fold.TheVariants as fold
use Rattle.line_trees.specs.declared.symbol.Symbol.{Symbol}
use Rattle.line_trees.specs.declared.symbol.Symbol.TheVariants as symbol
use Rattle.line_trees.specs.declared.machine.Before.TheVariants as before
use Rattle.line_trees.specs.declared.machine.Operand.{Operand}
use Rattle.line_trees.specs.declared.machine.Operand.TheVariants as operand
use Rattle.line_trees.specs.declared.machine.Mode.{Mode}
use Rattle.line_trees.specs.declared.machine.Mode.TheVariants.{Begins, Ends, Jot, Factor}
use Rattle.line_trees.specs.declared.machine.OpenBracket.{OpenBracket}
use Rattle.line_trees.specs.declared.machine.OpenBracket.TheVariants as bracket
use Rattle.line_trees.specs.declared.machine.Move.{Move}
use Rattle.apl_arrays.specs.List.{first_of}
use Rattle.line_trees.specs.Signs.{monad_of, dyad_of, mix1_of, mix2_of, fold_of}
use Rattle.line_trees.specs.Symbols.{symbol_of, name_symbol, arguments_of, sign_symbol, other_sign, slash_or_other}
use Rattle.line_trees.specs.Marks.{marks_from, marked_by, with_mark, step, may_end, open_after, takes_axis, begin, begin_statement, begin_line, begin_subscript, begin_axis, begin_product, begin_lead, go_on, jot_dot, factor, close_bracket, close_parenthesis, next_subscript}

-- tokens have marks
abbrev pub HasMarks : List Class → ℕ → Mode → List OpenBracket → List PlainToken → Type 0
HasMarks classes len mode brackets tokens = (marks : List Mark) × (marks_from classes len mode brackets tokens ≡ Ok marks)

pub mark_before : (classes : List Class) (len : ℕ) (mode : Mode) (brackets : List OpenBracket) (token : PlainToken) (tokens : List PlainToken) (s : Symbol) (move : Move) → symbol_of classes token.kind ≡ s → step mode (first_of brackets) s ≡ Some move
    → HasMarks classes len move.mode (open_after move.change brackets) tokens → HasMarks classes len mode brackets (token ∷ tokens)
unfolding marks_from
mark_before classes len mode brackets token tokens s move is goes (marks, e) = (
  move.mark ∷ marks,
  ap (λ (x : Option Move). marked_by x token.at (λ mode change. marks_from classes len mode (open_after change brackets) tokens)) (ap (step mode (first_of brackets)) is ∙ goes) ∙ ap (with_mark move.mark) e,
)

-- ---- tokens that end a line

abbrev token_of : PlainKind → PlainToken
token_of kind = record { kind = kind; at = 0; after = 0 }

-- 1
abbrev one : PlainToken
one = token_of (numbers (pos 1 ∷ []))

right_parenthesis_is : sign_symbol glyph.right_parenthesis ≡ symbol.RightParenthesis
unfolding sign_symbol other_sign monad_of dyad_of mix1_of mix2_of fold_of
right_parenthesis_is = refl

right_bracket_is : sign_symbol glyph.right_bracket ≡ symbol.RightBracket
unfolding sign_symbol other_sign monad_of dyad_of mix1_of mix2_of fold_of
right_bracket_is = refl

dot_is : sign_symbol glyph.period ≡ symbol.Dot
unfolding sign_symbol other_sign monad_of dyad_of mix1_of mix2_of fold_of
dot_is = refl

plus_is : sign_symbol glyph.plus ≡ symbol.Scalar (Some monad.Identity) (Some dyad.Plus)
unfolding sign_symbol other_sign monad_of dyad_of mix1_of mix2_of fold_of
plus_is = refl

slash_is : sign_symbol glyph.slash ≡ symbol.Slash (fold.Reduce Last)
unfolding sign_symbol other_sign monad_of dyad_of mix1_of mix2_of fold_of
slash_is = refl

-- what closes all that is open
abbrev closers : List OpenBracket → List PlainToken
closers [] = []
closers (bracket.Parenthesis ∷ brackets) = token_of (sign glyph.right_parenthesis) ∷ closers brackets
closers (bracket.OfName ∷ brackets) = token_of (sign glyph.right_bracket) ∷ closers brackets
closers (bracket.OfOther ∷ brackets) = token_of (sign glyph.right_bracket) ∷ closers brackets
closers (bracket.Axis ∷ brackets) = token_of (sign glyph.right_bracket) ∷ one ∷ closers brackets

closing : (classes : List Class) (len : ℕ) (o : Operand) (brackets : List OpenBracket) → HasMarks classes len (Ends o) brackets (closers brackets)
unfolding marks_from may_end step
closing classes len o [] = ([], refl)
closing classes len o (bracket.Parenthesis ∷ brackets) =
    mark_before classes len (Ends o) (bracket.Parenthesis ∷ brackets) (token_of (sign glyph.right_parenthesis)) (closers brackets) symbol.RightParenthesis _ right_parenthesis_is refl (closing classes len operand.Other brackets)
closing classes len o (bracket.OfName ∷ brackets) =
    mark_before classes len (Ends o) (bracket.OfName ∷ brackets) (token_of (sign glyph.right_bracket)) (closers brackets) symbol.RightBracket _ right_bracket_is refl (closing classes len operand.Target brackets)
closing classes len o (bracket.OfOther ∷ brackets) =
    mark_before classes len (Ends o) (bracket.OfOther ∷ brackets) (token_of (sign glyph.right_bracket)) (closers brackets) symbol.RightBracket _ right_bracket_is refl (closing classes len operand.Other brackets)
closing classes len o (bracket.Axis ∷ brackets) =
    mark_before classes len (Ends o) (bracket.Axis ∷ brackets) (token_of (sign glyph.right_bracket)) (one ∷ closers brackets) symbol.RightBracket _ right_bracket_is refl
    (mark_before classes len (Begins before.Plain) brackets one (closers brackets) symbol.Constant _ refl refl (closing classes len operand.Other brackets))

-- a mode from which a line goes on
abbrev pub IsAlive : Mode → Type 0
IsAlive (Begins (before.Lead None None)) = ⊥
IsAlive mode = Unit {0}

one_ends : (classes : List Class) (len : ℕ) (mode : Mode) (brackets : List OpenBracket) → step mode (first_of brackets) symbol.Constant ≡ step (Begins before.Plain) (first_of brackets) symbol.Constant → HasMarks classes len mode brackets (one ∷ closers brackets)
unfolding step
one_ends classes len mode brackets e = mark_before classes len mode brackets one (closers brackets) symbol.Constant _ refl e (closing classes len operand.Other brackets)

-- some tokens bring a mode to the end of a line
pub ending : (classes : List Class) (len : ℕ) (mode : Mode) (brackets : List OpenBracket) → IsAlive mode → (tokens : List PlainToken) × HasMarks classes len mode brackets tokens
unfolding step
ending classes len (Begins before.Line) brackets h = (one ∷ closers brackets, one_ends classes len (Begins before.Line) brackets refl)
ending classes len (Begins before.Statement) brackets h = (one ∷ closers brackets, one_ends classes len (Begins before.Statement) brackets refl)
ending classes len (Begins before.Plain) brackets h = (one ∷ closers brackets, one_ends classes len (Begins before.Plain) brackets refl)
ending classes len (Begins before.Subscript) brackets h = (one ∷ closers brackets, one_ends classes len (Begins before.Subscript) brackets refl)
ending classes len (Begins before.Axis) brackets h = (one ∷ closers brackets, one_ends classes len (Begins before.Axis) brackets refl)
ending classes len (Begins before.Product) brackets h = (one ∷ closers brackets, one_ends classes len (Begins before.Product) brackets refl)
ending classes len (Begins (before.Lead (Some m) d)) brackets h = (one ∷ closers brackets, one_ends classes len (Begins (before.Lead (Some m) d)) brackets refl)
ending classes len (Begins (before.Lead None (Some d))) brackets h = (
  token_of (sign glyph.slash) ∷ one ∷ closers brackets,
  mark_before classes len (Begins (before.Lead None (Some d))) brackets (token_of (sign glyph.slash)) (one ∷ closers brackets) (symbol.Slash (fold.Reduce Last)) _ slash_is refl (one_ends classes len (Begins before.Axis) brackets refl),
)
ending classes len (Begins (before.Lead None None)) brackets h = absurd h
ending classes len (Ends o) brackets h = (closers brackets, closing classes len o brackets)
ending classes len Factor brackets h = (
  token_of (sign glyph.plus) ∷ one ∷ closers brackets,
  mark_before classes len Factor brackets (token_of (sign glyph.plus)) (one ∷ closers brackets) (symbol.Scalar (Some monad.Identity) (Some dyad.Plus)) _ plus_is refl (one_ends classes len (Begins before.Plain) brackets refl),
)
ending classes len Jot brackets h = (
  token_of (sign glyph.period) ∷ token_of (sign glyph.plus) ∷ one ∷ closers brackets,
  mark_before classes len Jot brackets (token_of (sign glyph.period)) (token_of (sign glyph.plus) ∷ one ∷ closers brackets) symbol.Dot _ dot_is refl
      (mark_before classes len Factor brackets (token_of (sign glyph.plus)) (one ∷ closers brackets) (symbol.Scalar (Some monad.Identity) (Some dyad.Plus)) _ plus_is refl (one_ends classes len (Begins before.Plain) brackets refl)),
)

-- ---- each move leads to such a mode

-- a sign of scalar functions has one
abbrev IsReal : Symbol → Type 0
IsReal (symbol.Scalar m d) = IsAlive (Begins (before.Lead m d))
IsReal s = Unit {0}

abbrev pub LeadsOn : Option Move → Type 0
LeadsOn None = Unit {0}
LeadsOn (Some move) = IsAlive move.mode

record Real (s : Symbol) : Type 0 where
  is : IsReal s

real_scalar : (m : Option Monad) (d : Option Dyad) → (is_some m || is_some d) ≡ true → Real (symbol.Scalar m d)
real_scalar (Some m) d e = record { is = tt }
real_scalar None (Some d) e = record { is = tt }
real_scalar None None e = absurd (false≢true e)

other_by : (a b c d e f h i j k l : Bool)
    → Real (cond a symbol.LeftParenthesis (cond b symbol.RightParenthesis (cond c symbol.LeftBracket (cond d symbol.RightBracket (cond e symbol.Semicolon (cond f symbol.Colon (cond h symbol.Dot (cond i symbol.Jot (cond j symbol.LeftArrow (cond k symbol.RightArrow (cond l symbol.Execute symbol.Unused)))))))))))
other_by true b c d e f h i j k l = record { is = tt }
other_by false true c d e f h i j k l = record { is = tt }
other_by false false true d e f h i j k l = record { is = tt }
other_by false false false true e f h i j k l = record { is = tt }
other_by false false false false true f h i j k l = record { is = tt }
other_by false false false false false true h i j k l = record { is = tt }
other_by false false false false false false true i j k l = record { is = tt }
other_by false false false false false false false true j k l = record { is = tt }
other_by false false false false false false false false true k l = record { is = tt }
other_by false false false false false false false false false true l = record { is = tt }
other_by false false false false false false false false false false true = record { is = tt }
other_by false false false false false false false false false false false = record { is = tt }

real_other : (g : ℕ) → Real (other_sign g)
unfolding other_sign
real_other g =
    other_by (g == glyph.left_parenthesis) (g == glyph.right_parenthesis) (g == glyph.left_bracket) (g == glyph.right_bracket) (g == glyph.semicolon) (g == glyph.colon) (g == glyph.period) (g == glyph.jot) (g == glyph.left_arrow)
    (g == glyph.right_arrow) (g == glyph.execute)

real_slash : (f : Option Fold) (g : ℕ) → Real (slash_or_other f g)
real_slash (Some f) g = record { is = tt }
real_slash None g = real_other g

sign_by : (a b : Bool) (m : Option Monad) (d : Option Dyad) (f h : Option Fun) (other : Symbol) → (a ≡ true → Real (symbol.Scalar m d)) → Real other → Real (cond a (symbol.Scalar m d) (cond b (symbol.Function f h) other))
sign_by true b m d f h other k r = k refl
sign_by false true m d f h other k r = record { is = tt }
sign_by false false m d f h other k r = r

real_sign : (g : ℕ) → Real (sign_symbol g)
unfolding sign_symbol
real_sign g =
    sign_by (is_some (monad_of g) || is_some (dyad_of g)) (is_some (mix1_of g) || is_some (mix2_of g)) (monad_of g) (dyad_of g) (option_map (λ f. fun.Verb (verb.Mixed1 f)) (mix1_of g)) (option_map (λ f. fun.Verb (verb.Mixed2 f)) (mix2_of g))
    (slash_or_other (fold_of g) g) (real_scalar (monad_of g) (dyad_of g)) (real_slash (fold_of g) g)

name_by : (a b : Bool) (n : List ℕ) → Real (cond a (symbol.Niladic n) (cond b (symbol.Function (Some (fun.Defined n)) None) (symbol.Function None (Some (fun.Defined n)))))
name_by true b n = record { is = tt }
name_by false true n = record { is = tt }
name_by false false n = record { is = tt }

real_name : (a : Option ℕ) (n : List ℕ) → Real (name_symbol a n)
real_name None n = record { is = tt }
real_name (Some a) n = name_by (a == 0) (a == 1) n

real : (classes : List Class) (kind : PlainKind) → Real (symbol_of classes kind)
real classes (numbers list) = record { is = tt }
real classes (chars list) = record { is = tt }
real classes (name n) = real_name (arguments_of classes n) n
real classes (system Svo) = record { is = tt }
real classes (system Svc) = record { is = tt }
real classes (system Svr) = record { is = tt }
real classes (system Svq) = record { is = tt }
real classes (system Svs) = record { is = tt }
real classes (sign g) = real_sign g

axis_alive : (b : Bool) → IsAlive (cond b (Begins before.Axis) (Begins before.Plain))
axis_alive true = tt
axis_alive false = tt

begin_alive : (s : Symbol) → IsReal s → LeadsOn (begin s)
begin_alive (symbol.Scalar m d) h = h
begin_alive (symbol.Function None d) h = tt
begin_alive (symbol.Function (Some f) d) h = axis_alive (takes_axis f)
begin_alive s h = tt

statement_alive : (s : Symbol) → IsReal s → LeadsOn (begin_statement s)
statement_alive symbol.RightArrow h = tt
statement_alive symbol.Execute h = tt
statement_alive s h = begin_alive s h

line_alive : (s : Symbol) → IsReal s → LeadsOn (begin_line s)
line_alive (symbol.Value n) h = tt
line_alive s h = statement_alive s h

bracket_alive : (top : Option OpenBracket) → LeadsOn (close_bracket top)
bracket_alive None = tt
bracket_alive (Some bracket.Parenthesis) = tt
bracket_alive (Some bracket.OfName) = tt
bracket_alive (Some bracket.OfOther) = tt
bracket_alive (Some bracket.Axis) = tt

parenthesis_alive : (top : Option OpenBracket) → LeadsOn (close_parenthesis top)
parenthesis_alive None = tt
parenthesis_alive (Some bracket.Parenthesis) = tt
parenthesis_alive (Some bracket.OfName) = tt
parenthesis_alive (Some bracket.OfOther) = tt
parenthesis_alive (Some bracket.Axis) = tt

next_alive : (top : Option OpenBracket) → LeadsOn (next_subscript top)
next_alive None = tt
next_alive (Some bracket.Parenthesis) = tt
next_alive (Some bracket.OfName) = tt
next_alive (Some bracket.OfOther) = tt
next_alive (Some bracket.Axis) = tt

subscript_alive : (top : Option OpenBracket) (s : Symbol) → IsReal s → LeadsOn (begin_subscript top s)
subscript_alive top symbol.Semicolon h = next_alive top
subscript_alive top symbol.RightBracket h = bracket_alive top
subscript_alive top s h = begin_alive s h

begin_axis_alive : (s : Symbol) → IsReal s → LeadsOn (begin_axis s)
begin_axis_alive symbol.LeftBracket h = tt
begin_axis_alive s h = begin_alive s h

product_alive : (s : Symbol) → IsReal s → LeadsOn (begin_product s)
product_alive symbol.Dot h = tt
product_alive s h = begin_alive s h

lead_alive : (m : Option Monad) (d : Option Dyad) (s : Symbol) → IsReal s → LeadsOn (begin_lead m d s)
lead_alive m (Some d) (symbol.Slash f) h = tt
lead_alive m None (symbol.Slash f) h = tt
lead_alive (Some m) d s h = begin_alive s h
lead_alive None d s h = tt

go_on_alive : (o : Operand) (top : Option OpenBracket) (s : Symbol) → LeadsOn (go_on o top s)
go_on_alive o top (symbol.Scalar m None) = tt
go_on_alive o top (symbol.Scalar m (Some d)) = tt
go_on_alive o top (symbol.Function m None) = tt
go_on_alive o top (symbol.Function m (Some f)) = axis_alive (takes_axis f)
go_on_alive o top symbol.RightParenthesis = parenthesis_alive top
go_on_alive o top symbol.RightBracket = bracket_alive top
go_on_alive o top symbol.Semicolon = next_alive top
go_on_alive operand.First top symbol.LeftArrow = tt
go_on_alive operand.Name top symbol.LeftArrow = tt
go_on_alive operand.Target top symbol.LeftArrow = tt
go_on_alive operand.Other top symbol.LeftArrow = tt
go_on_alive operand.First top symbol.Colon = tt
go_on_alive operand.Name top symbol.Colon = tt
go_on_alive operand.Target top symbol.Colon = tt
go_on_alive operand.Other top symbol.Colon = tt
go_on_alive o top symbol.Constant = tt
go_on_alive o top (symbol.Value n) = tt
go_on_alive o top (symbol.Niladic n) = tt
go_on_alive o top (symbol.Slash f) = tt
go_on_alive o top symbol.LeftParenthesis = tt
go_on_alive o top symbol.LeftBracket = tt
go_on_alive o top symbol.Dot = tt
go_on_alive o top symbol.Jot = tt
go_on_alive o top symbol.RightArrow = tt
go_on_alive o top symbol.Execute = tt
go_on_alive o top symbol.Unused = tt

jot_alive : (s : Symbol) → LeadsOn (jot_dot s)
jot_alive symbol.Dot = tt
jot_alive s = tt

factor_alive : (s : Symbol) → LeadsOn (factor s)
factor_alive (symbol.Scalar m None) = tt
factor_alive (symbol.Scalar m (Some d)) = tt
factor_alive s = tt

step_alive : (mode : Mode) (top : Option OpenBracket) (s : Symbol) → IsReal s → LeadsOn (step mode top s)
unfolding step
step_alive (Begins before.Line) top s h = line_alive s h
step_alive (Begins before.Statement) top s h = statement_alive s h
step_alive (Begins before.Plain) top s h = begin_alive s h
step_alive (Begins before.Subscript) top s h = subscript_alive top s h
step_alive (Begins before.Axis) top s h = begin_axis_alive s h
step_alive (Begins before.Product) top s h = product_alive s h
step_alive (Begins (before.Lead m d)) top s h = lead_alive m d s h
step_alive (Ends o) top s h = go_on_alive o top s
step_alive Jot top s h = jot_alive s
step_alive Factor top s h = factor_alive s

-- each token leads on
pub leads_on : (classes : List Class) (mode : Mode) (top : Option OpenBracket) (token : PlainToken) → LeadsOn (step mode top (symbol_of classes token.kind))
leads_on classes mode top token = step_alive mode top (symbol_of classes token.kind) (real classes token.kind).is
