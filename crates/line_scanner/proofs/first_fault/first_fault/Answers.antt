use Rattle.std.proofs.Common.{sym, ◌∙◌}
use Rattle.line_scanner.proofs.Passed.{ends_past, stops_malformed, stops_unused}
use Rattle.line_scanner.proofs.first_fault.first_fault.Goals as goal

pub returns-in-Ends : goal.returns-in-Ends
returns-in-Ends c = ends_past _ _ c.loop-length.invariant (sym c.in-Ends.is ∙ c.past_front.ensures.value)

pub returns-in-Unused : goal.returns-in-Unused
returns-in-Unused c = stops_unused _ _ c.loop-length.invariant (sym c.in-Unused.is ∙ c.past_front.ensures.value)

pub returns-in-Malformed : goal.returns-in-Malformed
returns-in-Malformed c = stops_malformed _ _ c.loop-length.invariant (sym c.in-Malformed.is ∙ c.past_front.ensures.value)
