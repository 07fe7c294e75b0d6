-- Marks and what they build, a token at a time.
use Rattle.std.proofs.Common.{◌≡◌, ℕ, Bool, true, List, [], ◌∷◌, Option, Some, Result, Ok, Err, ap, ◌∙◌, cond}
use Rattle.line_scanner.specs.Token.{PlainToken}
use Rattle.line_trees.specs.declared.class.Class.{Class}
use Rattle.line_trees.specs.declared.symbol.Symbol.{Symbol}
use Rattle.line_trees.specs.declared.tree.Mark.{Mark}
use Rattle.line_trees.specs.declared.machine.Mode.{Mode}
use Rattle.line_trees.specs.declared.machine.OpenBracket.{OpenBracket}
use Rattle.line_trees.specs.declared.machine.Move.{Move}
use Rattle.apl_arrays.specs.List.{first_of}
use Rattle.line_trees.specs.Symbols.{symbol_of}
use Rattle.line_trees.specs.Marks.{Marked, marks_from, marked_by, with_mark, step, may_end, open_after}
use Rattle.line_trees.specs.Building.{Built, nothing_built, built_by, built_from}

-- what is built of tokens by their marks, or the place of an error
abbrev pub read_by : List Class → Marked → List PlainToken → Result Built ℕ
read_by classes (Ok marks) tokens = Ok (built_from classes marks tokens)
read_by classes (Err at) tokens = Err at

-- what is built of tokens from a mode on and under what is open
abbrev pub read : List Class → ℕ → Mode → List OpenBracket → List PlainToken → Result Built ℕ
read classes len mode brackets tokens = read_by classes (marks_from classes len mode brackets tokens) tokens

-- a mark more before what is built
with_first : List Class → Mark → PlainToken → Result Built ℕ → Result Built ℕ
with_first classes m token (Ok b) = Ok (built_by m (symbol_of classes token.kind) token.kind b)
with_first classes m token (Err at) = Err at

mark_first : (classes : List Class) (m : Mark) (token : PlainToken) (tokens : List PlainToken) (marked : Marked) (b : Built) → read_by classes marked tokens ≡ Ok b
    → read_by classes (with_mark m marked) (token ∷ tokens) ≡ Ok (built_by m (symbol_of classes token.kind) token.kind b)
unfolding built_from with_first
mark_first classes m token tokens (Ok marks) b e = ap (with_first classes m token) e
mark_first classes m token tokens (Err at) b e = absurd cc

-- a token that is passed, before others
pub reads_token : (classes : List Class) (len : ℕ) (mode : Mode) (brackets : List OpenBracket) (token : PlainToken) (tokens : List PlainToken) (s : Symbol) (move : Move) (b : Built) → symbol_of classes token.kind ≡ s
    → step mode (first_of brackets) s ≡ Some move → read classes len move.mode (open_after move.change brackets) tokens ≡ Ok b → read classes len mode brackets (token ∷ tokens) ≡ Ok (built_by move.mark s token.kind b)
unfolding marks_from
reads_token classes len mode brackets token tokens s move b is goes next =
    ap (λ (r : Option Move). read_by classes (marked_by r token.at (λ mode change. marks_from classes len mode (open_after change brackets) tokens)) (token ∷ tokens)) (ap (step mode (first_of brackets)) is ∙ goes)
    ∙ mark_first classes move.mark token tokens (marks_from classes len move.mode (open_after move.change brackets) tokens) b next
    ∙ ap (λ (x : Symbol). Ok (built_by move.mark x token.kind b)) is

-- modes that pass the first token in the same way read all in the same way
pub reads_same : (classes : List Class) (len : ℕ) (one other : Mode) (brackets : List OpenBracket) (token : PlainToken) (tokens : List PlainToken)
    → step one (first_of brackets) (symbol_of classes token.kind) ≡ step other (first_of brackets) (symbol_of classes token.kind) → read classes len one brackets (token ∷ tokens) ≡ read classes len other brackets (token ∷ tokens)
unfolding marks_from
reads_same classes len one other brackets token tokens e =
    ap (λ (r : Option Move). read_by classes (marked_by r token.at (λ mode change. marks_from classes len mode (open_after change brackets) tokens)) (token ∷ tokens)) e

-- the end of a line
pub reads_end : (classes : List Class) (len : ℕ) (mode : Mode) (brackets : List OpenBracket) → may_end mode (first_of brackets) ≡ true → read classes len mode brackets [] ≡ Ok nothing_built
unfolding marks_from built_from
reads_end classes len mode brackets e = ap (λ (b : Bool). read_by classes (cond b (Ok []) (Err len)) []) e
