use Rattle.std.proofs.Common.{◌≡◌, ◌-◌, ◌+◌, length}
use Rattle.text_reader.specs.Reading.{always, read_list, read_behind}
use Rattle.sv_text.specs.ValueReading.{read_next_integer}
use Rattle.sv_text.proofs.numbers.add_numbers.Given as goal

abbrev pub invariant-loop : goal.invariant-loop
invariant-loop l = record {
  value : read_behind l.numbers.items (read_list always read_next_integer (l.count - l.counter) l.cursor) ≡ read_behind l.fn.numbers.items (read_list always read_next_integer l.count l.fn.cursor);
  count : length l.numbers.items ≡ length l.fn.numbers.items + l.counter;
}
