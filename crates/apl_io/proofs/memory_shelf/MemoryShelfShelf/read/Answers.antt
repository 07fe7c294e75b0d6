use Rattle.std.proofs.Common.{◌∙◌, sym}
use Rattle.apl_io.proofs.Entries.{shelf_read}
use Rattle.apl_io.proofs.memory_shelf.MemoryShelfShelf.read.Goals as goal

pub returns-clause-reads : goal.returns-clause-reads
returns-clause-reads c = rw (← c.self.view_is) (record {
  numbered = sym c.counts.ensures.listed ∙ c.if-counts.false;
  answered = shelf_read (c.args.user, c.args.name.now) c.self.inside.kept.entries _ _ c.get.ensures.value c.in_ok-copy_kept.ensures;
  after = cc;
})
