use Rattle.session_rules.specs.Run.{user_numbers}
use Rattle.aplsv_top.proofs.printed.printed_journals_answer_full_past_their_limit.Goals as goal

pub returns : goal.returns
returns c bytes text printed = c.full_journals_take_leaves_alone.ensures (user_numbers printed.bundle) printed.journal printed.legal
