use Rattle.fn_editor.proofs.Digits.{capped_more}
use Rattle.fn_editor.proofs.bracket.capped_value.Goals as goal

pub loop-digit-preserved : goal.loop-digit-preserved
loop-digit-preserved c = capped_more _ _ _ _ _ c.loop-digit-test.true c.loop-digit.invariant c.digit-item.is c.with_digit-value.ensures
