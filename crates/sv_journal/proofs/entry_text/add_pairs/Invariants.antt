use Rattle.std.proofs.Common.{◌≡◌, ◌++◌, take}
use Rattle.std.specs.List.{All, flat_map}
use Rattle.sv_journal.specs.EntryText.{pair_text}
use Rattle.sv_journal.specs.Printable.{IsPrintablePair}
use Rattle.sv_journal.proofs.entry_text.add_pairs.Given as goal

abbrev pub invariant-loop-pair : goal.invariant-loop-pair
invariant-loop-pair l = record {
  text : l.line.items ≡ l.fn.line.items ++ flat_map pair_text (take l.pair-index l.pairs);
  printable : All IsPrintablePair (take l.pair-index l.pairs);
}
