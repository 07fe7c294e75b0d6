use Rattle.std.proofs.Common.{◌≡◌, ◌++◌, take}
use Rattle.ws_codec.proofs.codes.add_codes.Given as goal

abbrev pub invariant-loop-glyph : goal.invariant-loop-glyph
invariant-loop-glyph l = l.bytes.items ≡ l.fn.bytes.items ++ (take l.glyph-index l.glyphs)
