use Rattle.sv_journal.proofs.SameEntries.{same_entry}
use Rattle.sv_journal.proofs.entry_text.an_entry_is_read_in_one_way.Goals as goal

pub returns : goal.returns
returns c = same_entry
