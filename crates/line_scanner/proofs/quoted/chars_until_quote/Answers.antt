use Rattle.std.proofs.Common.{ap, ◌∙◌}
use Rattle.line_scanner.proofs.Chars.{reads_char, reads_quote, reads_close, reads_closed_end, reads_open_end}
use Rattle.line_scanner.proofs.quoted.chars_until_quote.Goals as goal
use Rattle.line_scanner.proofs.quoted.chars_until_quote.Goals.{then-closing-is_quote+in_ok-push, else-closing-is_quote+else-closing, then-closing-2, else-closing-2}

pub returns-then-closing-clause-value : goal.returns-then-closing-clause-value
returns-then-closing-clause-value c = reads_close _ _ _ _ _ _ _ c.loop-at-test.true c.index-glyphs-at.is c.is_quote.ensures c.if-closing-is_quote.false c.if-closing.true c.loop-at.invariant

pub loop-at-preserved : goal.loop-at-preserved
loop-at-preserved c = elim c.if-closing-is_quote.branch [
  | then-closing-is_quote+in_ok-push w ↦ reads_char _ _ _ _ _ _ _ _ _ c.loop-at-test.true c.index-glyphs-at.is c.is_quote.ensures w.if-closing-is_quote.true (ap (λ list. list.items) w.chars-is ∙ w.in_ok-push.ensures.ok) w.closing-is c.loop-at.invariant
  | else-closing-is_quote+else-closing w ↦ reads_quote _ _ _ _ _ _ _ _ _ c.loop-at-test.true c.index-glyphs-at.is c.is_quote.ensures w.if-closing-is_quote.false w.if-closing.false (ap (λ list. list.items) w.chars-is) w.closing-is c.loop-at.invariant
]

pub returns-clause-value : goal.returns-clause-value
returns-clause-value c = elim c.if-closing-2.branch [
  | then-closing-2 w ↦ rw w.result-is (reads_closed_end _ _ _ _ _ c.loop-at-test.false c.loop-at.auto.at-end w.if-closing-2.true c.loop-at.invariant)
  | else-closing-2 w ↦ rw w.result-is (reads_open_end _ _ _ _ _ c.loop-at-test.false w.if-closing-2.false c.loop-at.invariant)
]
