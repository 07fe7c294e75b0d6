use Rattle.std.proofs.Common.{◌≡◌, ◌++◌, take}
use Rattle.std.specs.Prelude.{map}
use Rattle.apl_scalar.specs.Table.{truth}
use Rattle.apl_values.proofs.rows.Rows.tell_control.Given as goal

-- the numbers so far; all else is as before
abbrev pub invariant-loop-element : goal.invariant-loop-element
invariant-loop-element l = record {
  same : l.self ≡ record l.fn.self { numbers = l.self.numbers };
  numbers : l.self.numbers.items ≡ l.fn.self.numbers.items ++ map truth (take l.element-index l.element-items);
}
