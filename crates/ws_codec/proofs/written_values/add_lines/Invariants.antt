use Rattle.std.proofs.Common.{◌≡◌, ◌++◌, take}
use Rattle.std.proofs.Common.{map}
use Rattle.std.specs.List.{flat_map}
use Rattle.apl_arrays.specs.List.{glyphs_in}
use Rattle.ws_codec.specs.SavedText.{line_bytes}
use Rattle.ws_codec.proofs.written_values.add_lines.Given as goal

abbrev pub invariant-loop-line : goal.invariant-loop-line
invariant-loop-line l = l.bytes.items ≡ l.fn.bytes.items ++ flat_map line_bytes (map glyphs_in (take l.line-index l.lines))
