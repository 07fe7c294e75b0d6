-- Which sign is which function.
use Rattle.std.specs.Prelude.{◌==◌, ℕ, Option, Some, None, if◌then◌else◌}
use Rattle.apl_arrays.specs.Glyph as glyph
use Rattle.apl_verbs.specs.declared.verb.Monad.{Monad}
use Rattle.apl_verbs.specs.declared.verb.Monad.TheVariants as monad
use Rattle.apl_verbs.specs.declared.verb.Dyad.{Dyad}
use Rattle.apl_verbs.specs.declared.verb.Dyad.TheVariants as dyad
use Rattle.apl_verbs.specs.declared.verb.Mix1.{Mix1}
use Rattle.apl_verbs.specs.declared.verb.Mix1.TheVariants as mix1
use Rattle.apl_verbs.specs.declared.verb.Mix2.{Mix2}
use Rattle.apl_verbs.specs.declared.verb.Mix2.TheVariants as mix2
use Rattle.apl_arrays.specs.declared.way.Way.TheVariants.{Last, First}
use Rattle.apl_verbs.specs.declared.verb.Verb.{Verb}
use Rattle.apl_verbs.specs.declared.verb.Verb.TheVariants as verb
use Rattle.line_trees.specs.declared.symbol.Fold.{Fold}
use Rattle.line_trees.specs.declared.symbol.Fold.TheVariants as fold

-- the monadic scalar function of a sign
unfoldable pub monad_of : ℕ → Option Monad
monad_of sign =
    if sign == glyph.plus then Some monad.Identity
    else if sign == glyph.ceiling then Some monad.Ceiling
    else if sign == glyph.floor then Some monad.Floor
    else if sign == glyph.minus then Some monad.Negative
    else if sign == glyph.times then Some monad.Sign
    else if sign == glyph.bar then Some monad.Magnitude
    else if sign == glyph.divide then Some monad.Reciprocal
    else if sign == glyph.exclamation then Some monad.Factorial
    else if sign == glyph.tilde then Some monad.Not
    else None

-- the dyadic scalar function of a sign
unfoldable pub dyad_of : ℕ → Option Dyad
dyad_of sign =
    if sign == glyph.plus then Some dyad.Plus
    else if sign == glyph.minus then Some dyad.Minus
    else if sign == glyph.times then Some dyad.Times
    else if sign == glyph.divide then Some dyad.Divide
    else if sign == glyph.ceiling then Some dyad.Maximum
    else if sign == glyph.floor then Some dyad.Minimum
    else if sign == glyph.bar then Some dyad.Residue
    else if sign == glyph.star then Some dyad.Power
    else if sign == glyph.exclamation then Some dyad.Binomial
    else if sign == glyph.and then Some dyad.And
    else if sign == glyph.or then Some dyad.Or
    else if sign == glyph.nand then Some dyad.Nand
    else if sign == glyph.nor then Some dyad.Nor
    else if sign == glyph.less then Some dyad.Less
    else if sign == glyph.not_greater then Some dyad.NotGreater
    else if sign == glyph.equal then Some dyad.Equal
    else if sign == glyph.not_less then Some dyad.NotLess
    else if sign == glyph.greater then Some dyad.Greater
    else if sign == glyph.not_equal then Some dyad.NotEqual
    else None

-- the monadic mixed function of a sign
unfoldable pub mix1_of : ℕ → Option Mix1
mix1_of sign =
    if sign == glyph.rho then Some mix1.Shape
    else if sign == glyph.iota then Some mix1.Iota
    else if sign == glyph.comma then Some mix1.Ravel
    else if sign == glyph.reverse then Some (mix1.Reverse Last)
    else if sign == glyph.reverse_first then Some (mix1.Reverse First)
    else if sign == glyph.transpose then Some mix1.Transpose
    else if sign == glyph.grade_up then Some mix1.GradeUp
    else if sign == glyph.grade_down then Some mix1.GradeDown
    else if sign == glyph.format then Some mix1.Format
    else None

-- the dyadic mixed function of a sign that is no slash
unfoldable pub mix2_of : ℕ → Option Mix2
mix2_of sign =
    if sign == glyph.rho then Some mix2.Reshape
    else if sign == glyph.comma then Some mix2.Catenate
    else if sign == glyph.up_arrow then Some mix2.Take
    else if sign == glyph.down_arrow then Some mix2.Drop
    else if sign == glyph.reverse then Some (mix2.Rotate Last)
    else if sign == glyph.reverse_first then Some (mix2.Rotate First)
    else if sign == glyph.transpose then Some mix2.TransposeBy
    else if sign == glyph.iota then Some mix2.IndexOf
    else if sign == glyph.epsilon then Some mix2.Member
    else if sign == glyph.encode then Some mix2.Encode
    else if sign == glyph.decode then Some mix2.Decode
    else None

-- the operator of a slash
unfoldable pub fold_of : ℕ → Option Fold
fold_of sign =
    if sign == glyph.slash then Some (fold.Reduce Last)
    else if sign == glyph.slash_bar then Some (fold.Reduce First)
    else if sign == glyph.backslash then Some (fold.Scan Last)
    else if sign == glyph.backslash_bar then Some (fold.Scan First)
    else None

-- a slash behind a scalar function is an operator
abbrev pub folded : Dyad → Fold → Verb
folded operand (fold.Reduce way) = verb.Reduce operand way
folded operand (fold.Scan way) = verb.Scan operand way

-- a slash behind an operand is a function
abbrev pub between : Fold → Verb
between (fold.Reduce way) = verb.Mixed2 (mix2.Compress way)
between (fold.Scan way) = verb.Mixed2 (mix2.Expand way)
