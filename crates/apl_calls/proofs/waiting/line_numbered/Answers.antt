use Rattle.apl_arrays.specs.List.{glyphs_in}
use Rattle.apl_calls.proofs.Innermost.{numbered}
use Rattle.apl_calls.proofs.waiting.line_numbered.Goals as goal

pub returns : goal.returns
returns c = numbered glyphs_in c.lines.result.now c.args.function.now.lines c.args.number c.in_ok-checked_sub.field-0 c.get.result c.get.ensures.lookup c.lines.ensures c.in_ok-checked_sub.ensures.0 c.in_ok-checked_sub.ensures.1
