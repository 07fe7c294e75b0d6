use Rattle.std.proofs.Common.{◌≡◌, take}
use Rattle.std.specs.List.{list_any}
use Rattle.apl_selection.specs.Flags.{is_no_flag}
use Rattle.apl_selection.proofs.flags.has_no_flag.Given as goal

-- whether one of the numbers so far is no flag
abbrev pub invariant-loop-number : goal.invariant-loop-number
invariant-loop-number l = record { so_far : l.wrong ≡ list_any is_no_flag (take l.number-index l.numbers) }
