use Rattle.session_rules.specs.Run.{user_numbers}
use Rattle.aplsv_top.proofs.printed.printed_accesses_follow_the_table.Goals as goal

pub returns : goal.returns
returns c bytes text printed = c.accesses_follow_the_table.ensures (user_numbers printed.bundle) printed.journal printed.legal
