use Rattle.std.proofs.Common.{◌≡◌}
use Rattle.std.specs.Prelude.{map}
use Rattle.apl_values.specs.Rows.{plain_deed, plain_naming, plain_name_row}
use Rattle.apl_acts.proofs.sharing.same_rows.Given as goal

abbrev pub invariant-loop-names : goal.invariant-loop-names
invariant-loop-names l = map plain_name_row l.rows.items ≡ map (λ names. (names, plain_deed l.deed)) (map plain_naming l.yielded)
