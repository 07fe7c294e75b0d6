use Rattle.std.proofs.Common.{◌≡◌, map, take}
use Rattle.apl_arrays.specs.FileList.{plain_file}
use Rattle.bundle_devices.proofs.memory.copied_files.Given as goal

abbrev pub invariant-loop-file : goal.invariant-loop-file
invariant-loop-file l = l.list.items ≡ map plain_file (take l.file-index l.files)
