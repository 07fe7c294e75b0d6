use Rattle.std.proofs.Common.{◌≡◌, ◌-◌}
use Rattle.apl_arrays.specs.Glyph.{blank}
use Rattle.text_reader.specs.Reading.{begins_with, read_list, read_behind}
use Rattle.bundle_text.specs.HeadingReading.{read_next_count}
use Rattle.bundle_text.proofs.counts.add_counts.Given as goal

abbrev pub invariant-loop : goal.invariant-loop
invariant-loop l =
    read_behind l.numbers.items (read_list (begins_with blank) read_next_count (l.most - l.counter) l.cursor) ≡ read_behind l.fn.numbers.items (read_list (begins_with blank) read_next_count l.most l.fn.cursor)
