use Rattle.std.proofs.Common.{◌≡◌, length, map, take}
use Rattle.std.specs.Prelude.{option_copied}
use Rattle.apl_subscripts.proofs.selecting.lent_list.Given as goal

-- the subscripts so far
abbrev pub invariant-loop-sub : goal.invariant-loop-sub
invariant-loop-sub l = record {
  lent : map option_copied l.lent.items ≡ take l.sub-index l.subs;
  many : length l.lent.items ≡ l.sub-index;
}
