use Rattle.std.proofs.Common.{arith}
use Rattle.apl_arrays.proofs.Fronts.{failed, goes_behind}
use Rattle.sv_events.specs.Entry.{plain_entry}
use Rattle.sv_journal.specs.Printable.{IsPrintableEntry}
use Rattle.line_text.proofs.AllMore.{all_mapped_more}
use Rattle.sv_journal.proofs.Numbered.{entry_more}
use Rattle.sv_journal.proofs.journal.add_entries.Goals as goal

pub loop-index-preserved : goal.loop-index-preserved
loop-index-preserved c = record {
  text = entry_more c.args.entries.now c.loop-index.index c.index-entries-index.result c.args.bytes.now.items c.loop-index.bytes.items c.add_entry_line.new.bytes.items (omega arith) c.index-entries-index.is c.loop-index.invariant.text c.in_ok-add_entry_line.ensures.text;
  printable = all_mapped_more IsPrintableEntry plain_entry c.args.entries.now c.loop-index.index c.index-entries-index.result (omega arith) c.index-entries-index.is c.in_ok-add_entry_line.ensures.printable c.loop-index.invariant.printable;
}

pub returns-in_err-add_entry_line-clause-front : goal.returns-in_err-add_entry_line-clause-front
returns-in_err-add_entry_line-clause-front c = failed _ _ _ (goes_behind _ _ _ _ c.loop-index.invariant.text c.in_err-add_entry_line.ensures.front)
