use Rattle.std.proofs.Common.{◌≡◌, ◌++◌, map, take}
use Rattle.std.specs.List.{All}
use Rattle.sv_events.specs.Entry.{plain_entry}
use Rattle.line_text.specs.Lines.{lines_text}
use Rattle.sv_journal.specs.Output.{entry_lines}
use Rattle.sv_journal.specs.Printable.{IsPrintableEntry}
use Rattle.sv_journal.proofs.journal.add_entries.Given as goal

abbrev pub invariant-loop-index : goal.invariant-loop-index
invariant-loop-index l = record {
  text : l.bytes.items ≡ l.fn.bytes.items ++ lines_text (entry_lines 1 (map plain_entry (take l.index l.entries)));
  printable : All IsPrintableEntry (map plain_entry (take l.index l.entries));
}
