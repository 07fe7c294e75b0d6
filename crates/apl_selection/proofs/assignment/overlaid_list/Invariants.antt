use Rattle.std.proofs.Common.{◌≡◌, None, length, map, slice_index_or, take, vec_capacity, vec_len}
use Rattle.std.specs.List.{zip}
use Rattle.apl_items.specs.Places.{places}
use Rattle.apl_selection.specs.Assignment.{put_over}
use Rattle.apl_selection.proofs.assignment.overlaid_list.Given as goal

-- the items so far, with room for the others
abbrev pub invariant-loop-place : goal.invariant-loop-place
invariant-loop-place g l = record {
  items : l.made.items ≡ map (λ pair. put_over pair.0 l.new (slice_index_or l.sources pair.1 None)) (zip (take l.place l.old) (places l.place));
  len : vec_len l.made ≡ l.place;
  room : vec_capacity l.made ≡ length l.old;
}
