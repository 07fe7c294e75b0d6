use Rattle.std.proofs.Common.{◌≡◌, ◌++◌, take}
use Rattle.aux_components.specs.File.{file_bytes}
use Rattle.aux_components.proofs.file.add_components.Given as goal

abbrev pub invariant-loop-array : goal.invariant-loop-array
invariant-loop-array l = l.bytes.items ≡ l.fn.bytes.items ++ file_bytes (take l.array-index l.arrays)
