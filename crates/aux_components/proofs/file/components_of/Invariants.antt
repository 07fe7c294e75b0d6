use Rattle.std.proofs.Common.{◌≡◌, ◌++◌, length}
use Rattle.std.specs.List.{All}
use Rattle.sv_text.specs.Value.{IsValue}
use Rattle.aux_components.specs.File.{file_bytes}
use Rattle.aux_components.proofs.file.components_of.Given as goal

abbrev pub invariant-loop-line : goal.invariant-loop-line
invariant-loop-line l = record {
  values : All IsValue l.arrays.items;
  so_far : l.bytes ≡ file_bytes l.arrays.items ++ l.rest;
}

abbrev pub decreases-loop-line : goal.decreases-loop-line
decreases-loop-line l = length l.rest
