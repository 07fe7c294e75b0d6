use Rattle.std.proofs.Common.{arith}
use Rattle.std.proofs.lemmas.Grind.{common_steps}
use Rattle.std.proofs.lemmas.List.Elements.{All-more}
use Rattle.sv_journal.specs.Printable.{IsPrintablePair}
use Rattle.sv_journal.proofs.entry_text.add_pairs.Goals as goal

pub loop-pair-preserved : goal.loop-pair-preserved
loop-pair-preserved c = record {
  text = grind (arith, common_steps);
  printable = All-more IsPrintablePair c.args.pairs.now c.loop-pair.pair-index (record { a = 0; b = 0 }) (omega arith) c.loop-pair.invariant.printable c.in_ok-add_pair.ensures.printable;
}
