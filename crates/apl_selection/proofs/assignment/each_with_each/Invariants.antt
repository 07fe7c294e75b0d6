use Rattle.std.proofs.Common.{◌≡◌, ◌*◌, length, map, take, vec_capacity, vec_len}
use Rattle.std.specs.List.{flat_map}
use Rattle.apl_items.specs.Axes.{added}
use Rattle.apl_selection.proofs.assignment.each_with_each.Given as goal

-- the places so far, with room for the others
abbrev pub invariant-loop-first : goal.invariant-loop-first
invariant-loop-first l = record {
  items : l.made.items ≡ flat_map (λ first. map (added first) l.after) (take l.first-index l.here);
  len : vec_len l.made ≡ l.first-index * length l.after;
  room : vec_capacity l.made ≡ length l.here * length l.after;
}
