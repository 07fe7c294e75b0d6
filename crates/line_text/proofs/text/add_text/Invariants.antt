use Rattle.std.proofs.Common.{◌≡◌, ◌+◌, ◌≤◌, ◌++◌, length, take}
use Rattle.line_text.proofs.text.add_text.Given as goal

abbrev pub invariant-loop-byte : goal.invariant-loop-byte
invariant-loop-byte l = record {
  text : l.line.items ≡ l.fn.line.items ++ take l.byte-index l.byte-items;
  room : length l.byte-items ≤ l.fn.line.room → l.line.room + l.byte-index ≡ l.fn.line.room;
}
