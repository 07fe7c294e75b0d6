use Rattle.std.proofs.Common.{◌≡◌, ◌+◌, ◌-◌, vec_len}
use Rattle.std.specs.Prelude.{Some, slice_get}
use Rattle.apl_calls.proofs.waiting.keep.Given as goal

-- each place that was added is empty
abbrev pub invariant-places : goal.invariant-places
invariant-places l = (k : _) (kept : _) → slice_get l.readings.items k ≡ Some (Some kept) → slice_get l.fn.readings.items k ≡ Some (Some kept)

abbrev pub decreases-places : goal.decreases-places
decreases-places l = (l.at + 1) - vec_len l.readings
