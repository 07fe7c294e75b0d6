use Rattle.std.proofs.Common.{sym, ◌∙◌}
use Rattle.line_scanner.proofs.Passed.{passes_numbers}
use Rattle.line_scanner.proofs.constant.numbers_end.Goals as goal

pub returns-clause-value : goal.returns-clause-value
returns-clause-value c = passes_numbers _ _ _ c.loop-more.invariant (sym c.in_default.is ∙ c.next_number.ensures.value)
