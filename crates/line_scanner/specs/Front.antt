-- What stands at the front, as plain data.
use Rattle.std.specs.Prelude.{◌<◌, ◌≤◌, ℕ}
use Rattle.line_scanner.specs.declared.front.Front.{Front}
use Rattle.line_scanner.specs.declared.front.Front.TheVariants.{Nothing, Blank, Token, Unused, Malformed}
use Rattle.line_scanner.specs.declared.first_fault.Passing.{Passing}
use Rattle.line_scanner.specs.declared.first_fault.Passing.TheVariants as passing
use Rattle.line_scanner.specs.Token.{plain_kind}
use Rattle.line_scanner.specs.Scanning.{PlainFront, nothing, blank, token, unused, malformed}

-- what stands at the front, whatever room is left in a token's list
abbrev pub plain_front : Front → PlainFront
plain_front Nothing = nothing
plain_front Blank = blank
plain_front (Token kind length) = token (plain_kind kind) length
plain_front Unused = unused
plain_front Malformed = malformed

-- a blank, a token or a glyph without a role at the front is some of so many glyphs
abbrev pub FitsIn : ℕ → PlainFront → Type 0
FitsIn count nothing = Unit {0}
FitsIn count blank = 0 < count
FitsIn count (token kind taken) = (0 < taken) × (taken ≤ count)
FitsIn count unused = 0 < count
FitsIn count malformed = Unit {0}

-- what a scan does at the front, where a token is not kept
abbrev pub passing_of : PlainFront → Passing
passing_of nothing = passing.Ends
passing_of blank = passing.Over 1
passing_of (token kind taken) = passing.Over taken
passing_of unused = passing.Unused
passing_of malformed = passing.Malformed

-- what is passed over is some of so many glyphs
abbrev pub IsPassedIn : ℕ → Passing → Type 0
IsPassedIn count passing.Ends = Unit {0}
IsPassedIn count (passing.Over taken) = (0 < taken) × (taken ≤ count)
IsPassedIn count passing.Unused = 0 < count
IsPassedIn count passing.Malformed = Unit {0}
