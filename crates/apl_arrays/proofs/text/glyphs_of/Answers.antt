use Rattle.std.proofs.Common.{◌≡◌, ◌<◌, ◌-◌, ap, inl, length, arith}
use Rattle.std.proofs.lemmas.Bool.Decides.{nat_tests}
use Rattle.apl_arrays.proofs.Spelling.{spelled_whole, bad_here, one_line, bad_nowhere, one_place}
use Rattle.apl_arrays.specs.declared.text.GlyphRefused.TheVariants.{BadGlyph}
use Rattle.apl_arrays.proofs.text.glyphs_of.Goals as goal

pub returns-then-is_empty-clause-only_line : goal.returns-then-is_empty-clause-only_line
returns-then-is_empty-clause-only_line c line spells =
    let none : length c.loop-glyph.rest.now ≡ 0 = grind (arith, nat_tests) in
    one_line c.args.bytes.now c.loop-glyph.line.items line (spelled_whole c.args.bytes.now c.loop-glyph.line.items c.loop-glyph.rest.now c.loop-glyph.invariant.glyphs c.loop-glyph.invariant.whole none) spells

pub returns-then-is_empty-clause-only_bad : goal.returns-then-is_empty-clause-only_bad
returns-then-is_empty-clause-only_bad c offset bad =
    let none : length c.loop-glyph.rest.now ≡ 0 = grind (arith, nat_tests) in
    bad_nowhere c.args.bytes.now c.loop-glyph.line.items offset (spelled_whole c.args.bytes.now c.loop-glyph.line.items c.loop-glyph.rest.now c.loop-glyph.invariant.glyphs c.loop-glyph.invariant.whole none) bad

pub returns-else-is_empty-clause-only_line : goal.returns-else-is_empty-clause-only_line
returns-else-is_empty-clause-only_line c line spells =
    let more : 0 < length c.loop-glyph.rest.now = grind (arith, nat_tests) in
    absurd (bad_nowhere c.args.bytes.now line (length c.args.bytes.now - length c.loop-glyph.rest.now) spells (bad_here c.args.bytes.now c.loop-glyph.line.items c.loop-glyph.rest.now c.loop-glyph.invariant.glyphs c.loop-glyph.invariant.whole more (rw c.in_default.is at c.glyph_at.ensures)))

pub returns-else-is_empty-clause-only_bad : goal.returns-else-is_empty-clause-only_bad
returns-else-is_empty-clause-only_bad c offset bad =
    let more : 0 < length c.loop-glyph.rest.now = grind (arith, nat_tests) in
    inl (ap BadGlyph (one_place c.args.bytes.now (length c.args.bytes.now - length c.loop-glyph.rest.now) offset (bad_here c.args.bytes.now c.loop-glyph.line.items c.loop-glyph.rest.now c.loop-glyph.invariant.glyphs c.loop-glyph.invariant.whole more (rw c.in_default.is at c.glyph_at.ensures)) bad))
