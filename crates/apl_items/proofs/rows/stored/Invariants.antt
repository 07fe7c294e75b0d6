use Rattle.std.proofs.Common.{◌≡◌, ◌<◌, ◌+◌, ◌*◌, ◌/◌, ◌%◌, ℕ, vec_len, vec_capacity, slice_get}
use Rattle.apl_items.proofs.rows.stored.Given as goal

-- so many items, with room for all, and each as the rule gave it
abbrev pub invariant-loop-row : goal.invariant-loop-row
invariant-loop-row g l = record {
  whole : vec_len l.items ≡ l.row * l.columns;
  room : vec_capacity l.items ≡ l.rows * l.columns;
  each : (k : ℕ) → k < l.row * l.columns → goal.F-post g l.rule (k / l.columns) (k % l.columns) (slice_get l.items.items k);
}

abbrev pub invariant-loop-column : goal.invariant-loop-column
invariant-loop-column g l = record {
  whole : vec_len l.items ≡ l.row * l.columns + l.column;
  room : vec_capacity l.items ≡ l.rows * l.columns;
  each : (k : ℕ) → k < l.row * l.columns + l.column → goal.F-post g l.rule (k / l.columns) (k % l.columns) (slice_get l.items.items k);
}
