use Rattle.std.proofs.Common.{◌≡◌, ◌<◌, ◌+◌, ◌*◌, ℕ, vec_len, vec_capacity, slice_get}
use Rattle.apl_operators.specs.Parts.{AtParts}
use Rattle.apl_operators.proofs.parts.stored.Given as goal

-- so many items, with room for all, and each as the rule gave it
abbrev pub invariant-loop-outer : goal.invariant-loop-outer
invariant-loop-outer g l = record {
  whole : vec_len l.items ≡ l.outer * l.split.along * l.split.inner;
  room : vec_capacity l.items ≡ l.count;
  each : (k : ℕ) → k < l.outer * l.split.along * l.split.inner → AtParts (goal.F-post g l.rule) l.split k (slice_get l.items.items k);
}

abbrev pub invariant-loop-along : goal.invariant-loop-along
invariant-loop-along g l = record {
  whole : vec_len l.items ≡ (l.outer * l.split.along + l.along) * l.split.inner;
  room : vec_capacity l.items ≡ l.count;
  each : (k : ℕ) → k < (l.outer * l.split.along + l.along) * l.split.inner → AtParts (goal.F-post g l.rule) l.split k (slice_get l.items.items k);
}

abbrev pub invariant-loop-inner : goal.invariant-loop-inner
invariant-loop-inner g l = record {
  whole : vec_len l.items ≡ (l.outer * l.split.along + l.along) * l.split.inner + l.inner;
  room : vec_capacity l.items ≡ l.count;
  each : (k : ℕ) → k < (l.outer * l.split.along + l.along) * l.split.inner + l.inner → AtParts (goal.F-post g l.rule) l.split k (slice_get l.items.items k);
}
