use Rattle.std.proofs.Common.{◌≡◌, ◌++◌}
use Rattle.std.specs.Prelude.{pos, replicate}
use Rattle.apl_values.proofs.rows.Rows.tell_zeros.Given as goal

-- the numbers so far; all else is as before
abbrev pub invariant-loop-told : goal.invariant-loop-told
invariant-loop-told l = record {
  same : l.self ≡ record l.fn.self { numbers = l.self.numbers };
  numbers : l.self.numbers.items ≡ l.fn.self.numbers.items ++ replicate l._told (pos 0);
}
