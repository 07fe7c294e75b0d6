use Rattle.std.proofs.Common.{◌≡◌, false, map, take}
use Rattle.std.specs.Prelude.{option_copied}
use Rattle.std.specs.List.{list_any}
use Rattle.apl_selection.specs.Subscripts.{is_of_chars}
use Rattle.apl_selection.proofs.subscripts.are_of_chars.Given as goal

-- no subscript so far is of characters
abbrev pub invariant-loop-axis : goal.invariant-loop-axis
invariant-loop-axis l = list_any is_of_chars (take l.axis (map option_copied l.subs)) ≡ false
