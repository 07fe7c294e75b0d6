-- What each token does in its line, read from left to right, or the place of the first token with which no line goes on.
use Rattle.std.specs.Prelude.{◌≡◌, ℕ, Bool, true, false, List, [], ◌∷◌, Option, Some, None, Result, Ok, Err, is_some, if◌then◌else◌}
use Rattle.apl_verbs.specs.Arguments.{verb_takes_axis}
use Rattle.apl_verbs.specs.declared.verb.Dyad.{Dyad}
use Rattle.apl_verbs.specs.declared.verb.Monad.{Monad}
use Rattle.line_scanner.specs.Token.{PlainToken}
use Rattle.line_trees.specs.declared.class.Class.{Class}
use Rattle.line_trees.specs.declared.tree.Fun.{Fun}
use Rattle.line_trees.specs.declared.tree.Fun.TheVariants as fun
use Rattle.line_trees.specs.declared.symbol.Symbol.{Symbol}
use Rattle.line_trees.specs.declared.symbol.Symbol.TheVariants as symbol
use Rattle.line_trees.specs.declared.tree.Mark.{Mark}
use Rattle.line_trees.specs.declared.tree.Mark.TheVariants as mark
use Rattle.line_trees.specs.declared.machine.Before.{Before}
use Rattle.line_trees.specs.declared.machine.Before.TheVariants as before
use Rattle.line_trees.specs.declared.machine.Operand.{Operand}
use Rattle.line_trees.specs.declared.machine.Operand.TheVariants as operand
use Rattle.line_trees.specs.declared.machine.Mode.{Mode}
use Rattle.line_trees.specs.declared.machine.Mode.TheVariants.{Begins, Ends, Jot, Factor}
use Rattle.line_trees.specs.declared.machine.OpenBracket.{OpenBracket}
use Rattle.line_trees.specs.declared.machine.OpenBracket.TheVariants as bracket
use Rattle.line_trees.specs.declared.machine.NestingChange.{NestingChange}
use Rattle.line_trees.specs.declared.machine.NestingChange.TheVariants.{Keep, Open, Close}
use Rattle.line_trees.specs.declared.machine.Move.{Move}
use Rattle.line_trees.specs.declared.refused.ParseRefused.{ParseRefused}
use Rattle.line_trees.specs.declared.refused.ParseRefused.TheVariants.{SyntaxError, WantOfMemory}
use Rattle.apl_arrays.specs.List.{first_of}
use Rattle.line_trees.specs.Symbols.{symbol_of}

-- an axis may stand behind the function
abbrev pub takes_axis : Fun → Bool
takes_axis (fun.Verb v) = verb_takes_axis v
takes_axis (fun.Defined n) = false
takes_axis (fun.System s) = false

-- what may stand behind a function
abbrev pub after_function : Fun → Mode
after_function f = if takes_axis f then Begins before.Axis else Begins before.Plain

-- a move that opens and closes nothing
abbrev pub goes : Mark → Mode → Option Move
goes m mode = Some (record { mark = m; mode = mode; change = Keep })

-- a move that opens a bracket
abbrev pub opens : Mark → Mode → OpenBracket → Option Move
opens m mode b = Some (record { mark = m; mode = mode; change = Open b })

-- a move that closes the last bracket that was opened
abbrev pub closes : Mark → Mode → Option Move
closes m mode = Some (record { mark = m; mode = mode; change = Close })

-- a monadic function, where there is one
abbrev pub monadic_move : Option Fun → Option Move
monadic_move None = None
monadic_move (Some f) = goes mark.Monadic (after_function f)

-- a dyadic function, where there is one
abbrev pub dyadic_move : Option Fun → Option Move
dyadic_move None = None
dyadic_move (Some f) = goes mark.Dyadic (after_function f)

-- the first token of an expression
abbrev pub begin : Symbol → Option Move
begin symbol.Constant = goes mark.Constant (Ends operand.Other)
begin (symbol.Value n) = goes mark.Name (Ends operand.Name)
begin (symbol.Niladic n) = goes mark.Niladic (Ends operand.Other)
begin (symbol.Scalar m d) = goes mark.Lead (Begins (before.Lead m d))
begin (symbol.Function m d) = monadic_move m
begin symbol.LeftParenthesis = opens mark.LeftParenthesis (Begins before.Plain) bracket.Parenthesis
begin (symbol.Slash fold) = None
begin symbol.RightParenthesis = None
begin symbol.LeftBracket = None
begin symbol.RightBracket = None
begin symbol.Semicolon = None
begin symbol.Colon = None
begin symbol.Dot = None
begin symbol.Jot = None
begin symbol.LeftArrow = None
begin symbol.RightArrow = None
begin symbol.Execute = None
begin symbol.Unused = None

-- the first token of a statement: → and ⍎ may lead
abbrev pub begin_statement : Symbol → Option Move
begin_statement symbol.RightArrow = goes mark.Branch (Begins before.Plain)
begin_statement symbol.Execute = goes mark.Execute (Begins before.Plain)
begin_statement s = begin s

-- the first token of a line: a name may be a label
abbrev pub begin_line : Symbol → Option Move
begin_line (symbol.Value n) = goes mark.Name (Ends operand.First)
begin_line s = begin_statement s

-- what closes by ]
abbrev pub close_bracket : Option OpenBracket → Option Move
close_bracket None = None
close_bracket (Some bracket.Parenthesis) = None
close_bracket (Some bracket.OfName) = closes mark.CloseSubscripts (Ends operand.Target)
close_bracket (Some bracket.OfOther) = closes mark.CloseSubscripts (Ends operand.Other)
close_bracket (Some bracket.Axis) = closes mark.CloseAxis (Begins before.Plain)

-- what closes by )
abbrev pub close_parenthesis : Option OpenBracket → Option Move
close_parenthesis None = None
close_parenthesis (Some bracket.Parenthesis) = closes mark.RightParenthesis (Ends operand.Other)
close_parenthesis (Some bracket.OfName) = None
close_parenthesis (Some bracket.OfOther) = None
close_parenthesis (Some bracket.Axis) = None

-- ; stands between subscripts
abbrev pub next_subscript : Option OpenBracket → Option Move
next_subscript None = None
next_subscript (Some bracket.Parenthesis) = None
next_subscript (Some bracket.OfName) = goes mark.Semicolon (Begins before.Subscript)
next_subscript (Some bracket.OfOther) = goes mark.Semicolon (Begins before.Subscript)
next_subscript (Some bracket.Axis) = None

-- the first token of a subscript, which may be omitted
abbrev pub begin_subscript : Option OpenBracket → Symbol → Option Move
begin_subscript top symbol.Semicolon = next_subscript top
begin_subscript top symbol.RightBracket = close_bracket top
begin_subscript top s = begin s

-- what stands behind a function that takes an axis
abbrev pub begin_axis : Symbol → Option Move
begin_axis symbol.LeftBracket = opens mark.OpenAxis (Begins before.Plain) bracket.Axis
begin_axis s = begin s

-- what stands behind a dyadic scalar function: perhaps a dot, for the inner product
abbrev pub begin_product : Symbol → Option Move
begin_product symbol.Dot = goes mark.Dot Factor
begin_product s = begin s

-- what stands behind a sign of scalar functions with which an expression begins: a slash where one of them is dyadic, an expression where one is monadic
abbrev pub begin_lead : Option Monad → Option Dyad → Symbol → Option Move
begin_lead m d (symbol.Slash fold) = if is_some d then goes mark.Slash (Begins before.Axis) else None
begin_lead m d s = if is_some m then begin s else None

-- a token where an expression may begin
abbrev pub begin_by : Before → Option OpenBracket → Symbol → Option Move
begin_by before.Line top s = begin_line s
begin_by before.Statement top s = begin_statement s
begin_by before.Plain top s = begin s
begin_by before.Subscript top s = begin_subscript top s
begin_by before.Axis top s = begin_axis s
begin_by before.Product top s = begin_product s
begin_by (before.Lead m d) top s = begin_lead m d s

-- the operand is a name, of which nothing else stands yet
abbrev pub is_bare_name : Operand → Bool
is_bare_name operand.First = true
is_bare_name operand.Name = true
is_bare_name operand.Target = false
is_bare_name operand.Other = false

-- a value may be assigned to the operand
abbrev pub is_target : Operand → Bool
is_target operand.First = true
is_target operand.Name = true
is_target operand.Target = true
is_target operand.Other = false

-- the operand is a name at the front of the line
abbrev pub is_first : Operand → Bool
is_first operand.First = true
is_first operand.Name = false
is_first operand.Target = false
is_first operand.Other = false

-- a dyadic scalar function, where there is one
abbrev pub scalar_move : Option Dyad → Option Move
scalar_move None = None
scalar_move (Some d) = goes mark.Scalar (Begins before.Product)

-- a token behind an operand
abbrev pub go_on : Operand → Option OpenBracket → Symbol → Option Move
go_on o top (symbol.Scalar m d) = scalar_move d
go_on o top (symbol.Slash fold) = goes mark.Dyadic (Begins before.Axis)
go_on o top (symbol.Function m d) = dyadic_move d
go_on o top symbol.Jot = goes mark.Jot Jot
go_on o top symbol.LeftBracket = opens mark.OpenSubscripts (Begins before.Subscript) (if is_bare_name o then bracket.OfName else bracket.OfOther)
go_on o top symbol.LeftArrow = if is_target o then goes mark.Gets (Begins before.Plain) else None
go_on o top symbol.Colon = if is_first o then goes mark.Colon (Begins before.Statement) else None
go_on o top symbol.RightParenthesis = close_parenthesis top
go_on o top symbol.RightBracket = close_bracket top
go_on o top symbol.Semicolon = next_subscript top
go_on o top symbol.Constant = None
go_on o top (symbol.Value n) = None
go_on o top (symbol.Niladic n) = None
go_on o top symbol.LeftParenthesis = None
go_on o top symbol.Dot = None
go_on o top symbol.RightArrow = None
go_on o top symbol.Execute = None
go_on o top symbol.Unused = None

-- the dot behind ∘
abbrev pub jot_dot : Symbol → Option Move
jot_dot symbol.Dot = goes mark.Dot Factor
jot_dot s = None

-- a factor: a dyadic scalar function, where there is one
abbrev pub factor_move : Option Dyad → Option Move
factor_move None = None
factor_move (Some d) = goes mark.Factor (Begins before.Plain)

-- the factor behind a dot
abbrev pub factor : Symbol → Option Move
factor (symbol.Scalar m d) = factor_move d
factor s = None

-- what a token does, by what stands before it
unfoldable pub step : Mode → Option OpenBracket → Symbol → Option Move
step (Begins b) top s = begin_by b top s
step (Ends o) top s = go_on o top s
step Jot top s = jot_dot s
step Factor top s = factor s

-- nothing is open
abbrev pub none_open : Option OpenBracket → Bool
none_open None = true
none_open (Some b) = false

-- a statement may be nothing
abbrev pub may_be_nothing : Before → Bool
may_be_nothing before.Line = true
may_be_nothing before.Statement = true
may_be_nothing before.Plain = false
may_be_nothing before.Subscript = false
may_be_nothing before.Axis = false
may_be_nothing before.Product = false
may_be_nothing (before.Lead m d) = false

-- the line may end here
unfoldable pub may_end : Mode → Option OpenBracket → Bool
may_end (Begins b) top = may_be_nothing b
may_end (Ends o) top = none_open top
may_end Jot top = false
may_end Factor top = false

-- what is open after a change
abbrev pub open_after : NestingChange → List OpenBracket → List OpenBracket
open_after Keep brackets = brackets
open_after (Open b) brackets = b ∷ brackets
open_after Close [] = []
open_after Close (b ∷ brackets) = brackets

-- the marks of a line, or the place of an error
abbrev pub Marked : Type 0
Marked = Result (List Mark) ℕ

-- a mark before those that follow it
abbrev pub with_mark : Mark → Marked → Marked
with_mark m (Ok marks) = Ok (m ∷ marks)
with_mark m (Err at) = Err at

-- a move and what follows it, or an error at this place
abbrev pub marked_by : Option Move → ℕ → (Mode → NestingChange → Marked) → Marked
marked_by None at beyond = Err at
marked_by (Some move) at beyond = with_mark move.mark (beyond move.mode move.change)

-- the marks of tokens from a mode on and under what is open, in a line of this length
unfoldable pub marks_from : List Class → ℕ → Mode → List OpenBracket → List PlainToken → Marked
marks_from classes length mode brackets [] = if may_end mode (first_of brackets) then Ok [] else Err length
marks_from classes length mode brackets (token ∷ tokens) =
    marked_by (step mode (first_of brackets) (symbol_of classes token.kind)) token.at (λ mode change. marks_from classes length mode (open_after change brackets) tokens)

-- why the tokens of a line have no marks is its error, unless memory ran out
abbrev pub IsMarkRefusal : ParseRefused → Marked → Type 0
IsMarkRefusal (SyntaxError at) marked = marked ≡ Err at
IsMarkRefusal WantOfMemory marked = Unit {0}
