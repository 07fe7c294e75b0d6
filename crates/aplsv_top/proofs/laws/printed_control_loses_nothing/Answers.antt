use Rattle.session_rules.specs.Run.{user_numbers}
use Rattle.aplsv_top.proofs.laws.printed_control_loses_nothing.Goals as goal

pub returns : goal.returns
returns c bytes text output = c.delivery_law.ensures.gives (user_numbers output.bundle) output.run.journal output.run.run.run.run.legal
