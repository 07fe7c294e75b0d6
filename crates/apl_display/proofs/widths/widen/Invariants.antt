use Rattle.std.proofs.Common.{◌≡◌, ◌<◌, ◌≤◌, ℕ, pos, max, get_or}
use Rattle.line_text.specs.Number.{number_width}
use Rattle.apl_display.proofs.widths.widen.Given as goal

abbrev pub invariant-loop-column : goal.invariant-loop-column
invariant-loop-column l = record {
  done : (k : ℕ) → k < l.column → get_or l.widths k 0 ≡ max (get_or l.fn.widths k 0) (number_width (get_or l.row k (pos 0)));
  ahead : (k : ℕ) → l.column ≤ k → get_or l.widths k 0 ≡ get_or l.fn.widths k 0;
}
