use Rattle.std.proofs.Common.{◌≡◌, ◌++◌, map, take}
use Rattle.line_text.specs.Lines.{lines_text}
use Rattle.run_reasons.specs.Sentence.{pair_sentence}
use Rattle.run_reasons.proofs.why.add_pairs.Given as goal

-- the lines of the pairs so far
abbrev pub invariant-loop-pair : goal.invariant-loop-pair
invariant-loop-pair l = l.bytes.items ≡ l.fn.bytes.items ++ lines_text (map pair_sentence (take l.pair-index l.pairs))
