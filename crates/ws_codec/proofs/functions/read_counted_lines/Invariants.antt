use Rattle.std.proofs.Common.{◌≡◌, ◌-◌, ◌+◌, ◌≤◌, ℕ, All, List, [], length}
use Rattle.ws_codec.specs.Functions.{glyph_count, read_next_line}
use Rattle.ws_codec.specs.Reading.{repeated}
use Rattle.ws_codec.proofs.functions.read_counted_lines.Given as goal

abbrev pub invariant-loop : goal.invariant-loop
invariant-loop l = record {
  value : repeated (read_next_line (l.weight + l.count)) (l.count - l.counter) l.lines.items l.cursor ≡ repeated (read_next_line (l.weight + l.count)) l.count [] l.fn.cursor;
  total : l.total ≡ l.weight + l.count + glyph_count l.lines.items;
  within : l.total ≤ 4194304;
  count : length l.lines.items ≡ l.counter;
  short : All (λ (line : List ℕ). length line ≤ 1000) l.lines.items;
}
