use Rattle.std.proofs.Common.{◌≡◌, length, map, take}
use Rattle.std.specs.Prelude.{option_copied}
use Rattle.apl_subscripts.specs.Held.{subs_held}
use Rattle.apl_subscripts.proofs.held.lent_subs.Given as goal

-- the subscripts so far
abbrev pub invariant-loop-axis : goal.invariant-loop-axis
invariant-loop-axis l = record {
  lent : map option_copied l.subs.items ≡ take l.axis (subs_held l.workspace l.e l.places);
  many : length l.subs.items ≡ l.axis;
}
