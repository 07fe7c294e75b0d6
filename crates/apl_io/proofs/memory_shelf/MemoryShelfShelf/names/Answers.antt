use Rattle.std.proofs.Common.{◌∙◌, sym}
use Rattle.apl_io.proofs.Names.{listed, ascending}
use Rattle.apl_io.proofs.memory_shelf.MemoryShelfShelf.names.Goals as goal

pub returns-clause-lists : goal.returns-clause-lists
returns-clause-lists c = rw (← c.self.view_is, c.in_ok-names_of.ensures.names) (record {
  numbered = sym c.counts.ensures.listed ∙ c.if-counts.false;
  answered = λ name. listed c.args.user c.self.inside.kept.entries name;
  after = cc;
})

pub returns-clause-ascending : goal.returns-clause-ascending
returns-clause-ascending c =
    rw c.in_ok-names_of.ensures.names (ascending c.args.user c.self.inside.kept.entries c.in_ok-names_of.ensures.ascending)
