use Rattle.std.proofs.Common.{◌≡◌, false, length, map, slice_index}
use Rattle.std.specs.Prelude.{option_copied}
use Rattle.std.specs.List.{flat_map, list_any}
use Rattle.apl_arrays.specs.Array.{element_count}
use Rattle.apl_items.specs.Places.{places}
use Rattle.apl_selection.specs.Subscripts.{axes_by, is_of_chars, named_on, sub_on}
use Rattle.apl_selection.proofs.subscripts.named_counts.Given as goal

-- the counts so far
abbrev pub invariant-loop-axis : goal.invariant-loop-axis
invariant-loop-axis l = record {
  value : l.counts.items ≡ map (λ axis. length (named_on l.shape (map option_copied l.subs) axis)) (places l.axis);
  whole : list_any is_of_chars (map option_copied l.subs) ≡ false → element_count l.counts.items ≡ element_count (flat_map (λ axis. axes_by (slice_index l.shape axis) (sub_on (map option_copied l.subs) axis)) (places l.axis));
}
