use Rattle.std.proofs.Common.{◌≡◌, ◌∷◌, ◌++◌, take}
use Rattle.std.specs.List.{All, flat_map}
use Rattle.std.proofs.Common.{FitsSigned, w64}
use Rattle.line_text.specs.Number.{number_text}
use Rattle.line_text.proofs.text.add_numbers.Given as goal

abbrev pub invariant-loop-number : goal.invariant-loop-number
invariant-loop-number l = record {
  text : l.line.items ≡ l.initial.line.items ++ flat_map (λ number. 32 ∷ number_text number) (take l.number-index l.others);
  printable : All (λ number. FitsSigned w64 number) (take l.number-index l.others);
}
