use Rattle.std.proofs.Common.{◌≡◌, ◌∙◌, None, map, sym}
use Rattle.printed_text.specs.Printed.{plain_printed}
use Rattle.check_rules.specs.Saw.{first_there}
use Rattle.aplsv_check.proofs.Verdicts.{yes_so}
use Rattle.aplsv_check.proofs.judging.verdict_behind.Goals as goal

pub returns-in-None-first_difference : goal.returns-in-None-first_difference
returns-in-None-first_difference c = λ bundle text h tells.
    let left : first_there bundle c.args.follower.now.core.journal ≡ None = sym (c.first_there.ensures bundle h) ∙ c.in-None.is in
    let saw = c.in-None-first_difference.ensures bundle h left tells.printed.named in
    yes_so bundle c.args.follower.now text (map plain_printed c.args.printed.now) h tells tells.printed.named saw
