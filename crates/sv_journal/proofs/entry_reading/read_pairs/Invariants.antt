use Rattle.std.proofs.Common.{◌≡◌, ◌-◌}
use Rattle.text_reader.specs.Reading.{read_list, read_behind}
use Rattle.sv_journal.specs.EntryReading.{is_left, read_pair}
use Rattle.sv_journal.proofs.entry_reading.read_pairs.Given as goal

abbrev pub invariant-loop : goal.invariant-loop
invariant-loop l = read_behind l.pairs.items (read_list is_left read_pair (l.most - l.counter) l.cursor) ≡ read_list is_left read_pair l.most l.fn.cursor
