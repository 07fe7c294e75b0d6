use Rattle.std.proofs.Common.{◌+◌, ◌*◌}
use Rattle.apl_items.specs.Places.{AtPlace, GivesEach}
use Rattle.apl_items.proofs.rows.lacks_by_rows.Given as goal

-- the rule gave an item at each place so far
abbrev pub invariant-loop-row : goal.invariant-loop-row
invariant-loop-row g l = GivesEach (l.row * l.columns) (AtPlace (goal.F-post g l.rule) l.columns)

abbrev pub invariant-loop-column : goal.invariant-loop-column
invariant-loop-column g l = GivesEach (l.row * l.columns + l.column) (AtPlace (goal.F-post g l.rule) l.columns)
