-- Classes that tell of the names of a line what the workspace shows of them.
use Rattle.std.specs.Prelude.{◌≡◌, ◌==◌, ℕ, Bool, true, false, List, Option, Some, None}
use Rattle.apl_workspace.specs.Workspace.{PlainWorkspace, look}
use Rattle.apl_workspace.specs.declared.meaning.Meaning.{Meaning}
use Rattle.apl_workspace.specs.declared.meaning.Meaning.TheVariants as meaning
use Rattle.line_scanner.specs.Token.{PlainKind, PlainToken, numbers, chars, name, system, sign}
use Rattle.line_trees.specs.declared.class.Class.{Class}
use Rattle.line_trees.specs.Parsing.{parsed}
use Rattle.line_trees.specs.Symbols.{arguments_of}
use Rattle.apl_meaning.specs.Reading.{argument_count}

-- how many arguments a name takes that stands for this, where it is a function
abbrev pub counted : Meaning → Option ℕ
counted meaning.Nothing = None
counted (meaning.Value value) = None
counted (meaning.Function function) = Some (argument_count function.header)
counted (meaning.Label line) = None
counted (meaning.Shared copy) = None

-- two counts are one, or there is neither
abbrev pub same_count : Option ℕ → Option ℕ → Bool
same_count None None = true
same_count None (Some other) = false
same_count (Some one) None = false
same_count (Some one) (Some other) = one == other

-- classes tell of a token, where it is a name, what the workspace shows of it
abbrev pub is_told : PlainWorkspace → List Class → PlainKind → Bool
is_told w classes (numbers list) = true
is_told w classes (chars list) = true
is_told w classes (name glyphs) = same_count (arguments_of classes glyphs) (counted (look w glyphs))
is_told w classes (system which) = true
is_told w classes (sign glyph) = true

-- classes tell of a token what the workspace shows
abbrev pub is_token_told : PlainWorkspace → List Class → PlainToken → Bool
is_token_told w classes token = is_told w classes token.kind

-- tokens have the same tree, or the same error, by some classes as by others
abbrev pub AreEnough : List Class → List Class → List PlainToken → Type 0
AreEnough some others tokens = (length : ℕ) → parsed some tokens length ≡ parsed others tokens length
