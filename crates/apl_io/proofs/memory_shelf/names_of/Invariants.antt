use Rattle.std.proofs.Common.{◌≡◌, ◌++◌}
use Rattle.apl_io.specs.Kept.{kept_names_of}
use Rattle.apl_io.proofs.memory_shelf.names_of.Given as goal

abbrev pub invariant-loop-key : goal.invariant-loop-key
invariant-loop-key l = l.names.items ++ kept_names_of l.user l.key-iterator ≡ kept_names_of l.user l.kept.entries
