use Rattle.session_rules.specs.Run.{user_numbers}
use Rattle.aplsv_top.proofs.printed.printed_uses_give_the_last_value.Goals as goal

pub returns : goal.returns
returns c bytes text printed = c.uses_give_the_last_value.ensures (user_numbers printed.bundle) printed.journal printed.legal
