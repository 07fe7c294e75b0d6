use Rattle.std.proofs.Common.{◌≡◌, ◌-◌, length}
use Rattle.text_reader.specs.Reading.{always, read_list, read_behind}
use Rattle.sv_text.specs.ValueReading.{read_char}
use Rattle.sv_text.proofs.chars.read_chars.Given as goal

abbrev pub invariant-loop : goal.invariant-loop
invariant-loop l = record {
  value : read_behind l.chars.items (read_list always read_char (l.count - l.counter) l.cursor) ≡ read_list always read_char l.count l.fn.cursor;
  count : length l.chars.items ≡ l.counter;
}
