use Rattle.std.proofs.Common.{◌≡◌, ℕ, arith, refl}
use Rattle.check_rules.specs.Worked.{four_lines, with_another}
use Rattle.check_rules.proofs.OneVerdict.{one_difference, same_differ_not}
use Rattle.check_rules.proofs.WorkedRuns.{another_line, lines_too_many, wanting_line}
use Rattle.check_rules.proofs.worked.lines_that_differ.Goals as goal

pub returns-clause-another : goal.returns-clause-another
returns-clause-another c = another_line

pub returns-clause-wanting : goal.returns-clause-wanting
returns-clause-wanting c = wanting_line

pub returns-clause-too_many : goal.returns-clause-too_many
returns-clause-too_many c = lines_too_many

pub returns-clause-not_there : goal.returns-clause-not_there
returns-clause-not_there c = λ there.
    let same : ◌≡◌ {A = ℕ} 3 4 = one_difference with_another four_lines 3 4 there another_line in
    omega (arith, same)

pub returns-clause-nowhere : goal.returns-clause-nowhere
returns-clause-nowhere c = λ there. same_differ_not four_lines four_lines 4 refl there
