use Rattle.std.proofs.Common.{◌≡◌, All, vec_len}
use Rattle.sv_core.specs.Core.{IsSpare}
use Rattle.sv_core.proofs.leaves.spare_lists.Given as goal

abbrev pub invariant-loop-made : goal.invariant-loop-made
invariant-loop-made l = record {
  count : vec_len l.spares ≡ l._made;
  spares : All IsSpare l.spares.items;
}
