use Rattle.std.proofs.Common.{ap, arith, ◌≡◌, ◌∙◌}
use Rattle.std.specs.Str.Parse.{digits_value}
use Rattle.std.proofs.lemmas.List.{take_all}
use Rattle.line_scanner.proofs.Digits.{passes, with_digit_more}
use Rattle.line_scanner.proofs.number.magnitude.Goals as goal

pub returns-in_err-value : goal.returns-in_err-value
returns-in_err-value c = rw c.from_residual.ensures (passes _ _ _ _ _ c.loop-digit-test.true c.loop-digit.invariant.0 c.digit-item.is c.in_err-value.ensures)

pub loop-digit-preserved : goal.loop-digit-preserved
loop-digit-preserved c = (with_digit_more _ _ _ _ _ c.loop-digit-test.true c.loop-digit.invariant.0 c.digit-item.is c.in_ok-value.ensures.1, omega (arith, c.in_ok-value.ensures.0, c.in_ok-value.ensures.1))

pub returns : goal.returns
returns c =
    let all : c.loop-digit.value ≡ digits_value 10 c.args.digits.now = c.loop-digit.invariant.0 ∙ ap (digits_value 10) (take_all c.loop-digit.digit-index c.args.digits.now c.loop-digit-test.false) in
    (omega (arith, all, c.loop-digit.invariant.1), all)
