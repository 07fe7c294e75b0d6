use Rattle.std.proofs.Common.{◌∙◌, sym}
use Rattle.std.proofs.Common.{map}
use Rattle.apl_io.specs.Kept.{file_entry}
use Rattle.apl_io.proofs.Entries.{written_first, unwritten}
use Rattle.apl_io.proofs.memory_text.copy_latest.Goals as goal

pub returns-then-is_some : goal.returns-then-is_some
returns-then-is_some c =
    rw (written_first c.args.name.now c.args.written.now.entries (map file_entry c.args.given.now.items) c.get-kept.result c.get-kept.ensures.value (sym c.is_some.ensures ∙ c.if-is_some.true)) c.copy_kept.ensures

pub returns-else-is_some : goal.returns-else-is_some
returns-else-is_some c =
    rw (unwritten c.args.name.now c.args.written.now.entries (map file_entry c.args.given.now.items) c.get-kept.result c.get-kept.ensures.value (sym c.is_some.ensures ∙ c.if-is_some.false)) c.copy_given.ensures
