use Rattle.std.proofs.Common.{◌≡◌, length, take}
use Rattle.apl_structure.specs.Lengths.{capped_lengths}
use Rattle.apl_structure.proofs.lengths.capped.Given as goal

-- the lengths for the numbers so far
abbrev pub invariant-loop-number : goal.invariant-loop-number
invariant-loop-number l = record {
  shape : l.shape.items ≡ capped_lengths (take l.number-index l.numbers);
  count : length l.shape.items ≡ l.number-index;
}
