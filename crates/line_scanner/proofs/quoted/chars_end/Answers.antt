use Rattle.std.proofs.Common.{[]}
use Rattle.line_scanner.proofs.Passed.{begins_chars, past_char, past_close, past_closed_end, past_open_end, past_quote}
use Rattle.line_scanner.proofs.quoted.chars_end.Goals as goal
use Rattle.line_scanner.proofs.quoted.chars_end.Goals.{then-closing-is_quote, else-closing-is_quote+else-closing}

pub loop-at-init : goal.loop-at-init
loop-at-init c = record { read = []; so_far = begins_chars c.args.glyphs.now }

pub returns-then-closing-clause-value : goal.returns-then-closing-clause-value
returns-then-closing-clause-value c = past_close _ _ _ _ _ c.loop-at-test.true c.index-glyphs-at.is c.is_quote.ensures c.if-closing-is_quote.false c.if-closing.true c.loop-at.invariant

pub loop-at-preserved : goal.loop-at-preserved
loop-at-preserved c = elim c.if-closing-is_quote.branch [
  | then-closing-is_quote w ↦ past_char _ _ _ _ _ _ c.loop-at-test.true c.index-glyphs-at.is c.is_quote.ensures w.if-closing-is_quote.true w.closing-is c.loop-at.invariant
  | else-closing-is_quote+else-closing w ↦ past_quote _ _ _ _ _ _ c.loop-at-test.true c.index-glyphs-at.is c.is_quote.ensures w.if-closing-is_quote.false w.if-closing.false w.closing-is c.loop-at.invariant
]

pub returns-then-closing-2-clause-value : goal.returns-then-closing-2-clause-value
returns-then-closing-2-clause-value c = past_closed_end _ _ _ c.loop-at-test.false c.loop-at.auto.at-end c.if-closing-2.true c.loop-at.invariant

pub returns-else-closing-2-clause-value : goal.returns-else-closing-2-clause-value
returns-else-closing-2-clause-value c = past_open_end _ _ _ c.loop-at-test.false c.if-closing-2.false c.loop-at.invariant
