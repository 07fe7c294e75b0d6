-- What a token is in the grammar of statements, by its kind and by the class of a name.
use Rattle.std.specs.Prelude.{◌==◌, ◌||◌, ℕ, Option, Some, None, option_map, is_some, List, find, if◌then◌else◌}
use Rattle.std.specs.Cmp.Lexicographic.{pointwise}
use Rattle.apl_arrays.specs.Glyph as glyph
use Rattle.apl_verbs.specs.declared.verb.Verb.TheVariants as verb
use Rattle.apl_arrays.specs.declared.system.SystemName.{SystemName}
use Rattle.apl_arrays.specs.declared.system.SystemName.TheVariants.{Svo, Svc, Svr, Svq, Svs}
use Rattle.line_scanner.specs.Token.{PlainKind, numbers, chars, name, system, sign}
use Rattle.line_trees.specs.declared.class.Class.{Class}
use Rattle.line_trees.specs.declared.tree.Fun.TheVariants as fun
use Rattle.line_trees.specs.declared.symbol.Fold.{Fold}
use Rattle.line_trees.specs.declared.symbol.Symbol.{Symbol}
use Rattle.line_trees.specs.declared.symbol.Symbol.TheVariants as symbol
use Rattle.line_trees.specs.Signs.{monad_of, dyad_of, mix1_of, mix2_of, fold_of}

-- how many arguments the function of this name takes, where it is one
abbrev pub arguments_of : List Class → List ℕ → Option ℕ
arguments_of classes n = option_map (λ c. c.arguments) (find (λ c. pointwise ◌==◌ c.name n) classes)

-- a name by its class: a value, or a function of no, one or two arguments
abbrev pub name_symbol : Option ℕ → List ℕ → Symbol
name_symbol None n = symbol.Value n
name_symbol (Some arguments) n =
    if arguments == 0 then symbol.Niladic n
    else if arguments == 1 then symbol.Function (Some (fun.Defined n)) None
    else symbol.Function None (Some (fun.Defined n))

-- a system name: each is a monadic function, ⎕SVO and ⎕SVC are dyadic ones too
abbrev pub system_symbol : SystemName → Symbol
system_symbol Svo = symbol.Function (Some (fun.System Svo)) (Some (fun.System Svo))
system_symbol Svc = symbol.Function (Some (fun.System Svc)) (Some (fun.System Svc))
system_symbol Svr = symbol.Function (Some (fun.System Svr)) None
system_symbol Svq = symbol.Function (Some (fun.System Svq)) None
system_symbol Svs = symbol.Function (Some (fun.System Svs)) None

-- a sign that is no function
unfoldable pub other_sign : ℕ → Symbol
other_sign g =
    if g == glyph.left_parenthesis then symbol.LeftParenthesis
    else if g == glyph.right_parenthesis then symbol.RightParenthesis
    else if g == glyph.left_bracket then symbol.LeftBracket
    else if g == glyph.right_bracket then symbol.RightBracket
    else if g == glyph.semicolon then symbol.Semicolon
    else if g == glyph.colon then symbol.Colon
    else if g == glyph.period then symbol.Dot
    else if g == glyph.jot then symbol.Jot
    else if g == glyph.left_arrow then symbol.LeftArrow
    else if g == glyph.right_arrow then symbol.RightArrow
    else if g == glyph.execute then symbol.Execute
    else symbol.Unused

-- a slash, or a sign that is no function
abbrev pub slash_or_other : Option Fold → ℕ → Symbol
slash_or_other (Some fold) g = symbol.Slash fold
slash_or_other None g = other_sign g

-- a sign: scalar functions, mixed functions, a slash, or none of these
unfoldable pub sign_symbol : ℕ → Symbol
sign_symbol g =
    if is_some (monad_of g) || is_some (dyad_of g) then symbol.Scalar (monad_of g) (dyad_of g)
    else if is_some (mix1_of g) || is_some (mix2_of g) then symbol.Function (option_map (λ f. fun.Verb (verb.Mixed1 f)) (mix1_of g)) (option_map (λ f. fun.Verb (verb.Mixed2 f)) (mix2_of g))
    else slash_or_other (fold_of g) g

-- what a token of this kind is
abbrev pub symbol_of : List Class → PlainKind → Symbol
symbol_of classes (numbers list) = symbol.Constant
symbol_of classes (chars list) = symbol.Constant
symbol_of classes (name n) = name_symbol (arguments_of classes n) n
symbol_of classes (system s) = system_symbol s
symbol_of classes (sign g) = sign_symbol g
