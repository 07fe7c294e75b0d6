use Rattle.std.proofs.Common.{◌≡◌, ℕ, ◌+◌, ◌≤◌, List, ◌++◌, length}
use Rattle.std.specs.List.{All}
use Rattle.apl_arrays.specs.Glyph.{IsGlyph, line_utf8}
use Rattle.bundle_text.proofs.Spelled.{CountsTo}
use Rattle.bundle_text.proofs.glyphs.glyph_count_at.Given as goal

abbrev pub invariant-loop-taken : goal.invariant-loop-taken
invariant-loop-taken l = CountsTo l.bytes l.rest l.count

abbrev pub decreases-loop-taken : goal.decreases-loop-taken
decreases-loop-taken l = length l.rest
