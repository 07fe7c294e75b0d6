use Rattle.replay_rules.proofs.Rounds.{one_journal}
use Rattle.replay_rules.proofs.laws.one_journal_of_turns.Goals as goal

pub returns : goal.returns
returns c = one_journal
