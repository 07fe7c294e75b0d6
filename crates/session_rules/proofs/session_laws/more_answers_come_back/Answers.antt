use Rattle.session_rules.proofs.MoreAnswers.{more_comes_back}
use Rattle.session_rules.proofs.session_laws.more_answers_come_back.Goals as goal

pub returns : goal.returns
returns c = more_comes_back
